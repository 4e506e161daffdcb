-- What a customer's own rule and source mean. Assumes nothing.
use Rattle.std.specs.Prelude.{ℕ, ◌%◌, ◌≤◌, Bool, true, false, ℤ, pos, neg_ℤ, ◌≤ℤ◌, ◌==◌}
use Rattle.std.proofs.Common.{arith}
use Rattle.std.proofs.lemmas.Int.{ints}
use Rattle.noise.specs.Lawfuls.{within_lawful}
use Rattle.noise.specs.Sources.{least_noise, most_noise, Lawful, within}
use Rattle.rules.specs.Kinds.{single}
use Rattle.rules.specs.Meaning.{RuleMeaning, Alike}

-- the lowest alone; what the rule writes down is no part of its state
abbrev pub logged : RuleMeaning (Unit {0})
logged = record { first = tt; says = λ s score lowest. lowest; next = λ s before after. tt }

-- so it is alike to the single rule
abbrev pub LoggedAlike : Type 0
LoggedAlike = Alike logged single

-- one level up at even bits, and down at odd ones
abbrev pub level : ℕ → Bool → ℤ
level a true = pos a
level a false = neg_ℤ (pos a)

abbrev pub striped : ℕ → ℕ → ℕ → ℤ
striped a = within (λ r k. level a (k % 2 == 0))

level_low : (a : ℕ) (b : Bool) → a ≤ 255 → least_noise ≤ℤ level a b
level_low a true h = omega (arith, ints)
level_low a false h = omega (arith, ints)

level_high : (a : ℕ) (b : Bool) → a ≤ 255 → level a b ≤ℤ most_noise
level_high a true h = omega (arith, ints)
level_high a false h = omega (arith, ints)

pub striped_lawful : (a : ℕ) → a ≤ 255 → Lawful (striped a)
striped_lawful a h = within_lawful _ (λ r k. level_low a (k % 2 == 0) h) (λ r k. level_high a (k % 2 == 0) h)
