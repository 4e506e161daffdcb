-- What an opening does to the records, the signs and the objective, whatever they are; and that it leads to a memory which stands for the first digits. Assumes nothing.
use Rattle.std.specs.Prelude.{◌≡◌, ℕ, zero, suc, ◌<◌, Bool, false, cond, List, length, get_or, ℤ, pos, ◌+ℤ◌, neg_ℤ, Some, None, Option, int_lt, slice_index_or, slice_set}
use Rattle.std.specs.Int.{saturate_to_bits}
use Rattle.codes.specs.Answers.{Answers}
use Rattle.plain.specs.Scores.{Setting, open_digit}
use Rattle.engine.specs.declared.bit.Bit.{Bit}
use Rattle.engine.specs.declared.bit.Sign.{Sign}
use Rattle.engine.specs.declared.bit.Sign.TheVariants.{Met}
use Rattle.engine.specs.Stands.{Fits, StandsFor}
use Rattle.engine.specs.Turns.{Memory, blank, with_sign, turned_sign, raise_check}

-- ---- the levels put down
-- a level without its sign
abbrev pub size_of : ℤ → ℤ
size_of y = cond (int_lt y (pos 0)) (neg_ℤ y) y

-- the record of a level before a check is heard: the digit of its sign, and its size for a score
abbrev pub fresh : ℤ → Bit
fresh y = record { digit = int_lt y (pos 0); level = y; score = size_of y; mark = false }

-- after the first n bits; a level that is not there counts as 0
abbrev pub fresh_places : List ℤ → ℕ → List Bit → List Bit
fresh_places ys zero rs = rs
fresh_places ys (suc n) rs = slice_set (fresh_places ys n rs) n (fresh (slice_index_or ys n (pos 0)))

-- the first n scores added up, held to 32 bits
abbrev pub score_places : List Bit → ℕ → ℤ
score_places rs zero = pos 0
score_places rs (suc n) = saturate_to_bits 31 (score_places rs n +ℤ (get_or rs n blank).score)

-- ---- the sign of a check
-- turned over by a one
abbrev pub turn_if : Bool → Sign → Sign
turn_if one t = cond one (turned_sign t) t

abbrev pub sign_at : List Bit → Option ℕ → Sign → Sign
sign_at rs None t = t
sign_at rs (Some b) t = turn_if (get_or rs b blank).digit t

-- of the digits at the first n places of a row
abbrev pub sign_places : (ℕ → Option ℕ) → List Bit → ℕ → Sign
sign_places row rs zero = Met
sign_places row rs (suc n) = sign_at rs (row n) (sign_places row rs n)

abbrev pub sign_row : (ℕ → Option ℕ) → List Bit → Option ℕ → Sign
sign_row row rs None = Met
sign_row row rs (Some n) = sign_places row rs n

-- of all digits of the check c
abbrev pub sign_check : Answers → ℕ → List Bit → Sign
sign_check a c rs = sign_row (a.check_bit c) rs (a.check_degree c)

-- the weight, with the sign
abbrev pub voice : ℕ → Sign → ℤ
voice w t = with_sign t (pos w)

-- ---- records, signs and objective
pub record Whole : Type 0 where
  pub records : List Bit
  pub signs : List Sign
  pub objective : ℤ

abbrev pub whole : List Bit → List Sign → ℤ → Whole
whole rs ss e = record { records = rs; signs = ss; objective = e }

-- the check c has the sign t: it is put down, and all bits of c and the objective are raised by its voice; no bit has the number of records, so none is left out
abbrev pub hear : Answers → ℕ → ℕ → Sign → Whole → Whole
hear a w c t h = whole (raise_check a c (length h.records) (voice w t) h.records) (slice_set h.signs c t) (saturate_to_bits 31 (h.objective +ℤ voice w t))

abbrev pub open_check : Answers → ℕ → ℕ → Whole → Whole
open_check a w c h = hear a w c (sign_check a c h.records) h

-- after the first n checks
abbrev pub open_checks : Answers → ℕ → ℕ → Whole → Whole
open_checks a w zero h = h
open_checks a w (suc n) h = open_check a w n (open_checks a w n h)

-- every level put down, with the objective of these scores
abbrev pub start : List ℤ → List Bit → List Sign → Whole
start ys rs ss = whole (fresh_places ys (length rs) rs) ss (score_places (fresh_places ys (length rs) rs) (length rs))

-- and then every check heard
abbrev pub filled : Answers → ℕ → List ℤ → List Bit → List Sign → Whole
filled a w ys rs ss = open_checks a w (length ss) (start ys rs ss)

-- from records and signs to a memory and objective, as an opening with these levels goes over every lawful code
abbrev pub OpensExactly : Answers → ℕ → List ℤ → List Bit → List Sign → Memory → ℤ → Type 0
OpensExactly a w ys rs ss m e = (s : Setting) → Fits a w s → length rs ≡ s.code.bits → length ss ≡ s.code.checks → ((k : ℕ) → k < s.code.bits → slice_index_or ys k (pos 0) ≡ s.level k) → StandsFor s (open_digit s) m e
