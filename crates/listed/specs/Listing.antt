-- The making of a listed code: what is refused of two lists of pairs, and what is made of them. Assumes nothing.
use Rattle.std.specs.Prelude.{◌≡◌, ℕ, Bool, cond, not, List, length, position, Some, None, Option, ◌==◌}
use Rattle.faults.specs.Rows.{Row, C}
use Rattle.listed.specs.declared.pair.Pair.{Pair}
use Rattle.codes.specs.declared.side.Side.{Side}
use Rattle.codes.specs.declared.side.Side.TheVariants.{ByCheck, ByBit}
use Rattle.codes.specs.Answers.{Answers}
use Rattle.codes.specs.Degrees.{outside, degree_fault}
use Rattle.faults.specs.First.{first, fault_at, or_fault}
use Rattle.codes.specs.Lawful.{Lawful}
use Rattle.codes.specs.Limits.{sizes_fit}
use Rattle.listed.specs.Order.{bad_at, has_pair, count_in}
use Rattle.codes.specs.Pairs.{Pairs}

-- a check or a bit with too few pairs or too many
abbrev pub wrong_count : ℕ → ℕ → Side → List Pair → ℕ → Bool
wrong_count least most s xs c = outside least most (count_in s xs c)

-- what the list means: the check c holds the bit b exactly where it has their pair
abbrev pub listed_pairs : ℕ → ℕ → List Pair → Pairs
listed_pairs bits checks xs = record { bits = bits; checks = checks; holds = λ c b. has_pair xs (record { check = c; bit = b }) }

-- the faults in their order: counts, pairs out of range or order, lists that differ
abbrev pub mismatch_fault : ℕ → ℕ → List Pair → List Pair → Option Row
mismatch_fault bits checks xs ys =
    cond (sizes_fit bits checks)
    (fault_at (C 2) (first (bad_at bits checks ByCheck xs) (length xs))
    (fault_at (C 2) (first (bad_at bits checks ByBit ys) (length ys))
    (cond (length xs == length ys)
    (fault_at (C 3) (position (λ p. not (has_pair ys p)) xs) None)
    (Some (C 3 0)))))
    (Some (C 1 0))

-- and then checks and bits with too few pairs or too many
abbrev pub list_fault : ℕ → ℕ → List Pair → List Pair → Option Row
list_fault bits checks xs ys = or_fault (mismatch_fault bits checks xs ys) (degree_fault (listed_pairs bits checks xs))

-- a is what two lists mean, that were not refused
pub record MadeListed (bits checks : ℕ) (xs ys : List Pair) (a : Answers) : Type 0 where
  pub allowed : list_fault bits checks xs ys ≡ None
  pub lawful : Lawful a (listed_pairs bits checks xs)
