-- What the flips of a round do to the records, the signs and the objective, whatever they are, and that they are exact. Assumes nothing.
use Rattle.std.specs.Prelude.{◌≡◌, ℕ, zero, suc, Bool, false, cond, List, length, ℤ, ◌+ℤ◌, ◌==◌, slice_index_or}
use Rattle.std.specs.Int.{saturate_to_bits}
use Rattle.codes.specs.Answers.{Answers}
use Rattle.codes.specs.Pairs.{count_below}
use Rattle.rules.specs.Meaning.{RuleMeaning}
use Rattle.plain.specs.Machine.{Frame, State, flip_set, lowest, picks}
use Rattle.engine.specs.declared.bit.Bit.{Bit}
use Rattle.engine.specs.Opening.{Whole, whole}
use Rattle.engine.specs.Stands.{Fits, StandsFor, Unmarked}
use Rattle.engine.specs.Turns.{Memory, memory, blank, alter, flipped, fallen}

-- ---- picks
-- a bit's score and the noise at it, held to 16 bits
abbrev pub sum_at : (ℕ → ℤ) → List Bit → ℕ → ℤ
sum_at noise rs k = saturate_to_bits 15 ((slice_index_or rs k blank).score +ℤ noise k)

-- the first bit with the least sum
abbrev pub lowest_of : (ℕ → ℤ) → List Bit → ℕ
lowest_of noise rs = lowest (sum_at noise rs) (length rs)

-- whether the rule says yes to the bit k
abbrev pub picks_at : (ℤ → Bool → Bool) → (ℕ → ℤ) → ℕ → List Bit → ℕ → Bool
picks_at says noise low rs k = says (sum_at noise rs k) (k == low)

-- ---- marks
abbrev pub marked : Bool → Bit → Bit
marked t b = record { digit = b.digit; level = b.level; score = b.score; mark = t }

-- the first n records marked exactly where they are picked
abbrev pub mark_places : (ℕ → Bool) → ℕ → List Bit → List Bit
mark_places picked zero rs = rs
mark_places picked (suc n) rs = alter (marked (picked n)) n (mark_places picked n rs)

-- ---- flips
abbrev pub flip_whole : Answers → ℕ → ℕ → Memory → ℤ → Whole
flip_whole a w k m e = whole (flipped a k w m).records (flipped a k w m).signs (fallen k m.records e)

-- the bit k flipped if it is marked, and its mark taken off
abbrev pub flip_marked : Answers → ℕ → ℕ → Whole → Whole
flip_marked a w k h = cond (slice_index_or h.records k blank).mark (flip_whole a w k (memory (alter (marked false) k h.records) h.signs) h.objective) h

-- the first n bits, rising
abbrev pub flip_places : Answers → ℕ → ℕ → Whole → Whole
flip_places a w zero h = h
flip_places a w (suc n) h = flip_marked a w n (flip_places a w n h)

-- ---- all of it: the picks of this rule, at this noise
abbrev pub swept : Answers → ℕ → (ℤ → Bool → Bool) → (ℕ → ℤ) → Whole → Whole
swept a w says noise h = flip_places a w (length h.records) (whole (mark_places (picks_at says noise (lowest_of noise h.records) h.records) (length h.records) h.records) h.signs h.objective)

abbrev pub swept_count : (ℤ → Bool → Bool) → (ℕ → ℤ) → List Bit → ℕ
swept_count says noise rs = count_below (length rs) (picks_at says noise (lowest_of noise rs) rs)

-- ---- exactness: from a memory that stands for a state, to one that stands for it with exactly its picks flipped, and no mark
pub record Sweeps {S : Type 0} (f : Frame S) (p : State S) (h : Whole) (count : ℕ) : Type 0 where
  pub stands : StandsFor f.setting (flip_set f (picks f p) f.setting.code.bits p).digits (memory h.records h.signs) h.objective
  pub unmarked : Unmarked h.records
  pub counts : count ≡ count_below f.setting.code.bits (picks f p)

abbrev pub SweepsExactly : {S : Type 0} → Answers → ℕ → RuleMeaning S → S → (ℕ → ℕ → ℤ) → ℕ → Whole → Whole → ℕ → Type 0
SweepsExactly {S} a w m u noise r h h' count = (f : Frame S) (p : State S) → f.rule ≡ m → p.rule ≡ u → f.noise ≡ noise → p.rounds ≡ r → Fits a w f.setting → StandsFor f.setting p.digits (memory h.records h.signs) h.objective → Unmarked h.records → Sweeps f p h' count
