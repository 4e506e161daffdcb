-- How many bits a check holds, how many checks hold a bit, and the first that is outside its limits. Assumes nothing.
use Rattle.std.specs.Prelude.{ℕ, Bool, not, ◌&&◌, None, Option, nat_le}
use Rattle.faults.specs.Rows.{Row, C}
use Rattle.faults.specs.First.{first, fault_at}
use Rattle.codes.specs.Limits.{most_in_check, most_at_bit}
use Rattle.codes.specs.Pairs.{Pairs, count_below}

-- a count outside its limits
abbrev pub outside : ℕ → ℕ → ℕ → Bool
outside least most n = not (nat_le least n && nat_le n most)

abbrev pub wrong_check : Pairs → ℕ → Bool
wrong_check p c = outside 1 most_in_check (count_below p.bits (p.holds c))

abbrev pub wrong_bit : Pairs → ℕ → Bool
wrong_bit p b = outside 0 most_at_bit (count_below p.checks (λ c. p.holds c b))

-- the first such check, or else the first such bit
abbrev pub degree_fault : Pairs → Option Row
degree_fault p = fault_at (C 4) (first (wrong_check p) p.checks) (fault_at (C 4) (first (wrong_bit p) p.bits) None)
