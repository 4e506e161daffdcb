-- The law of the two kinds of lists. Assumes nothing.
use Rattle.std.specs.Prelude.{◌≡◌, ℕ, Some}
use Rattle.codes.specs.Answers.{Answers}
use Rattle.codes.specs.Lawful.{Lawful}
use Rattle.codes.specs.Pairs.{Pairs}

-- the bit is in the check's list, and the check in the bit's
abbrev pub InCheck : Answers → ℕ → ℕ → Type 0
InCheck a c b = (p : ℕ) × (a.check_bit c p ≡ Some b)

abbrev pub AtBit : Answers → ℕ → ℕ → Type 0
AtBit a c b = (p : ℕ) × (a.bit_check b p ≡ Some c)

-- of a lawful code, each exactly when the other
abbrev pub ListsAgree : Type 0
ListsAgree = (a : Answers) (p : Pairs) → Lawful a p → (c b : ℕ) → (InCheck a c b → AtBit a c b) × (AtBit a c b → InCheck a c b)
