-- What a frame is, as mathematics: signs, scores and the objective of given digits, computed from the set of pairs in exact integers. Assumes nothing.
use Rattle.std.specs.Prelude.{ℕ, zero, suc, Bool, true, false, cond, ℤ, pos, negsuc, ◌+ℤ◌, ◌*ℤ◌, int_lt}
use Rattle.codes.specs.Pairs.{Pairs}

-- what a frame is decoded from: the code, the weight of each check, and the level of each bit
pub record Setting : Type 0 where
  pub code : Pairs
  pub weight : ℕ → ℕ
  pub level : ℕ → ℤ

-- over the numbers below n
abbrev pub sum_below : ℕ → (ℕ → ℤ) → ℤ
sum_below zero f = pos 0
sum_below (suc n) f = sum_below n f +ℤ f n

abbrev pub product_below : ℕ → (ℕ → ℤ) → ℤ
product_below zero f = pos 1
product_below (suc n) f = product_below n f *ℤ f n

-- the digit 0 counts as 1, and the digit 1 as −1
abbrev pub unit : Bool → ℤ
unit false = pos 1
unit true = negsuc 0

-- at an opening a bit's digit has the sign of its level
abbrev pub open_digit : Setting → ℕ → Bool
open_digit s k = int_lt (s.level k) (pos 0)

-- the sign of a check: the product of its bits
abbrev pub sign_of : Pairs → (ℕ → Bool) → ℕ → ℤ
sign_of p digit c = product_below p.bits (λ k. cond (p.holds c k) (unit (digit k)) (pos 1))

-- a bit times its level
abbrev pub own_of : Setting → (ℕ → Bool) → ℕ → ℤ
own_of s digit k = unit (digit k) *ℤ s.level k

-- a check's sign times its weight
abbrev pub voice_of : Setting → (ℕ → Bool) → ℕ → ℤ
voice_of s digit c = pos (s.weight c) *ℤ sign_of s.code digit c

-- the score of a bit: the bit times its level, and the weighted signs of its checks
abbrev pub score_of : Setting → (ℕ → Bool) → ℕ → ℤ
score_of s digit k = own_of s digit k +ℤ sum_below s.code.checks (λ c. cond (s.code.holds c k) (voice_of s digit c) (pos 0))

-- the objective: all bits times their levels, and the weighted signs of all checks
abbrev pub objective_of : Setting → (ℕ → Bool) → ℤ
objective_of s digit = sum_below s.code.bits (own_of s digit) +ℤ sum_below s.code.checks (voice_of s digit)
