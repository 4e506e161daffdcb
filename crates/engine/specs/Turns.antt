-- What a flip does to the records, the signs and the objective, whatever they are. Assumes nothing.
use Rattle.std.specs.Prelude.{ℕ, zero, suc, ◌*◌, false, cond, not, List, length, get_or, ℤ, pos, ◌+ℤ◌, ◌-ℤ◌, ◌*ℤ◌, neg_ℤ, Some, None, Option, ◌==◌, nat_lt, slice_index_or, slice_set}
use Rattle.std.specs.Int.{saturate_to_bits}
use Rattle.codes.specs.Answers.{Answers}
use Rattle.engine.specs.declared.bit.Bit.{Bit}
use Rattle.engine.specs.declared.bit.Sign.{Sign}
use Rattle.engine.specs.declared.bit.Sign.TheVariants.{Met, Unmet}

-- what stands past the end of the records
abbrev pub blank : Bit
blank = record { digit = false; level = pos 0; score = pos 0; mark = false }

abbrev pub turned_sign : Sign → Sign
turned_sign Met = Unmet
turned_sign Unmet = Met

-- the score raised, held to 16 bits
abbrev pub raised : ℤ → Bit → Bit
raised by b = record { digit = b.digit; level = b.level; score = saturate_to_bits 15 (b.score +ℤ by); mark = b.mark }

-- the digit turned over, and the score negated, held to 16 bits
abbrev pub turn_bit : Bit → Bit
turn_bit b = record { digit = not b.digit; level = b.level; score = saturate_to_bits 15 (pos 0 -ℤ b.score); mark = b.mark }

-- the record at i changed by f; past the end, nothing
abbrev pub alter : (Bit → Bit) → ℕ → List Bit → List Bit
alter f i rs = slice_set rs i (f (slice_index_or rs i blank))

-- a number, with the sign
abbrev pub with_sign : Sign → ℤ → ℤ
with_sign Met z = z
with_sign Unmet z = neg_ℤ z

-- twice the weight, with the sign
abbrev pub push : ℕ → Sign → ℤ
push w t = with_sign t (pos (2 * w))

-- the bit at a place raised, unless it is k
abbrev pub raise_other : ℕ → ℤ → Option ℕ → List Bit → List Bit
raise_other k by None rs = rs
raise_other k by (Some b) rs = cond (b == k) rs (alter (raised by) b rs)

-- after the first p places of a row
abbrev pub raise_places : (ℕ → Option ℕ) → ℕ → ℤ → ℕ → List Bit → List Bit
raise_places row k by zero rs = rs
raise_places row k by (suc p) rs = raise_other k by (row p) (raise_places row k by p rs)

abbrev pub raise_row : (ℕ → Option ℕ) → ℕ → ℤ → Option ℕ → List Bit → List Bit
raise_row row k by None rs = rs
raise_row row k by (Some n) rs = raise_places row k by n rs

abbrev pub raise_check : Answers → ℕ → ℕ → ℤ → List Bit → List Bit
raise_check a c k by rs = raise_row (a.check_bit c) k by (a.check_degree c) rs

-- ---- records and signs
pub record Memory : Type 0 where
  pub records : List Bit
  pub signs : List Sign

abbrev pub memory : List Bit → List Sign → Memory
memory rs ss = record { records = rs; signs = ss }

-- the sign of c is s now, and the other bits of c are raised by it
abbrev pub sign_to : Answers → ℕ → ℕ → ℕ → Sign → Memory → Memory
sign_to a k w c s m = memory (raise_check a c k (push w s) m.records) (slice_set m.signs c s)

abbrev pub turn_sign : Answers → ℕ → ℕ → ℕ → Memory → Memory
turn_sign a k w c m = cond (nat_lt c (length m.signs)) (sign_to a k w c (turned_sign (slice_index_or m.signs c Met)) m) m

abbrev pub turn_check : Answers → ℕ → ℕ → Option ℕ → Memory → Memory
turn_check a k w None m = m
turn_check a k w (Some c) m = turn_sign a k w c m

-- after the first p checks of the bit k
abbrev pub turn_places : Answers → ℕ → ℕ → ℕ → Memory → Memory
turn_places a k w zero m = m
turn_places a k w (suc p) m = turn_check a k w (a.bit_check k p) (turn_places a k w p m)

abbrev pub turn_column : Answers → ℕ → ℕ → Option ℕ → Memory → Memory
turn_column a k w None m = m
turn_column a k w (Some n) m = turn_places a k w n m

abbrev pub turn_checks : Answers → ℕ → ℕ → Memory → Memory
turn_checks a k w m = turn_column a k w (a.bit_degree k) m

-- the flip of the bit k, and past the records nothing
abbrev pub flipped : Answers → ℕ → ℕ → Memory → Memory
flipped a k w m = cond (nat_lt k (length m.records)) (turn_checks a k w (memory (alter turn_bit k m.records) m.signs)) m

-- the objective falls by twice the score, held to 32 bits
abbrev pub fallen : ℕ → List Bit → ℤ → ℤ
fallen k rs e = cond (nat_lt k (length rs)) (saturate_to_bits 31 (e -ℤ pos 2 *ℤ (get_or rs k blank).score)) e
