-- Counts, number by number.
use Rattle.std.proofs.Common.{ℕ, ◌+◌, refl, inl, inr, add-one}
use Rattle.acceptance.specs.Comparing.{Tallied}

-- one more that is in P, and one that is not
pub tallied_one : (P : ℕ → Type 0) (n count : ℕ) → Tallied P n count → P n → Tallied P (n + 1) (count + 1)
tallied_one P n count before here = rw (add-one n) (count, before, inl (here, refl))

pub tallied_none : (P : ℕ → Type 0) (n count : ℕ) → Tallied P n count → (P n → ⊥) → Tallied P (n + 1) count
tallied_none P n count before here = rw (add-one n) (count, before, inr (here, refl))
