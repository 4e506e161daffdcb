-- The codewords of a code form a linear code. Assumes nothing.
use Rattle.std.specs.Prelude.{ℕ, Bool, false, cond, not}
use Rattle.codes.specs.Pairs.{Pairs, Codeword}

abbrev pub ZeroIsCodeword : Type 0
ZeroIsCodeword = (p : Pairs) → Codeword p (λ b. false)

-- two rows of digits added without carry
abbrev pub sum_of : (ℕ → Bool) → (ℕ → Bool) → ℕ → Bool
sum_of y z b = cond (y b) (not (z b)) (z b)

abbrev pub CodewordsAdd : Type 0
CodewordsAdd = (p : Pairs) (y z : ℕ → Bool) → Codeword p y → Codeword p z → Codeword p (sum_of y z)
