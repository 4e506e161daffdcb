-- What a code means: its bits, its checks, and which check holds which bit. Assumes nothing.
use Rattle.std.specs.Prelude.{◌≡◌, ℕ, zero, suc, ◌+◌, ◌%◌, ◌<◌, Bool, cond, ◌&&◌}

pub record Pairs : Type 0 where
  pub bits : ℕ
  pub checks : ℕ
  pub holds : ℕ → ℕ → Bool

-- how many numbers below n are in a set
abbrev pub count_below : ℕ → (ℕ → Bool) → ℕ
count_below zero has = 0
count_below (suc n) has = count_below n has + cond (has n) 1 0

-- how many ones of a row of digits stand in the check c
abbrev pub ones_in : Pairs → (ℕ → Bool) → ℕ → ℕ
ones_in p digit c = count_below p.bits (λ b. p.holds c b && digit b)

-- a row of digits with an even number of ones in each check
abbrev pub Codeword : Pairs → (ℕ → Bool) → Type 0
Codeword p digit = (c : ℕ) → c < p.checks → ones_in p digit c % 2 ≡ 0
