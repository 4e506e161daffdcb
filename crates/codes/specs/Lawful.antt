-- When a code's answers are lawful, and for which set of pairs. Assumes nothing.
use Rattle.std.specs.Prelude.{◌≡◌, ℕ, ◌<◌, ◌≤◌, Bool, true, Some, None, Option}
use Rattle.codes.specs.Answers.{Answers}
use Rattle.codes.specs.Limits.{most_bits, most_checks, most_in_check, most_at_bit}
use Rattle.codes.specs.Pairs.{Pairs}

-- by place, strictly rising: exactly the numbers below the bound that are in the set, `least` to `most` of them
pub record Lists (size : Option ℕ) (place : ℕ → Option ℕ) (bound : ℕ) (has : ℕ → Bool) (least most : ℕ) : Type 0 where
  pub count : ℕ
  pub sized : size ≡ Some count
  pub enough : least ≤ count
  pub few : count ≤ most
  pub inside : (p : ℕ) → p < count → (x : ℕ) × (place p ≡ Some x) × (x < bound) × (has x ≡ true)
  pub past : (p : ℕ) → count ≤ p → place p ≡ None
  pub rises : (p q x y : ℕ) → p < q → place p ≡ Some x → place q ≡ Some y → x < y
  pub all : (x : ℕ) → x < bound → has x ≡ true → (p : ℕ) × (p < count) × (place p ≡ Some x)

-- such a list for each number below the count, and none beyond
pub record Table (size : ℕ → Option ℕ) (place : ℕ → ℕ → Option ℕ) (count bound : ℕ) (has : ℕ → ℕ → Bool) (least most : ℕ) : Type 0 where
  pub lists : (i : ℕ) → i < count → Lists (size i) (place i) bound (has i) least most
  pub no_size : (i : ℕ) → count ≤ i → size i ≡ None
  pub no_place : (i p : ℕ) → count ≤ i → place i p ≡ None

-- rows and columns list the same pairs, within the limits
pub record Lawful (a : Answers) (p : Pairs) : Type 0 where
  pub bits : a.bits ≡ p.bits
  pub checks : a.checks ≡ p.checks
  pub some_bits : 1 ≤ p.bits
  pub few_bits : p.bits ≤ most_bits
  pub some_checks : 1 ≤ p.checks
  pub few_checks : p.checks ≤ most_checks
  -- the bits that each check holds
  pub rows : Table a.check_degree a.check_bit p.checks p.bits p.holds 1 most_in_check
  -- the checks that hold each bit
  pub columns : Table a.bit_degree a.bit_check p.bits p.checks (λ b c. p.holds c b) 0 most_at_bit
  -- no bit stands in more checks than the widest, and one in as many
  pub widest_most : (b n : ℕ) → a.bit_degree b ≡ Some n → n ≤ a.widest
  pub widest_met : (b : ℕ) × (a.bit_degree b ≡ Some a.widest)
