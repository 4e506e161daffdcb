-- What the quantising of many samples refuses. Assumes nothing.
use Rattle.std.specs.Prelude.{ℕ, Bool, cond, List, length, Some, None, Option, ◌==◌, is_nan, slice_index_or, Float}
use Rattle.std.specs.Float.{nan}
use Rattle.faults.specs.First.{first, fault_at}
use Rattle.faults.specs.Rows.{Row, Q}

-- whether the sample at i is not a number
abbrev pub nan_at : List Float → ℕ → Bool
nan_at xs i = is_nan (slice_index_or xs i nan)

abbrev pub first_nan : List Float → Option ℕ
first_nan xs = first (nan_at xs) (length xs)

-- the first fault of samples for so many levels: their number, or else the first that is not a number
abbrev pub quantise_fault : List Float → ℕ → Option Row
quantise_fault xs n = cond (length xs == n) (fault_at (Q 3) (first_nan xs) None) (Some (Q 1 (length xs)))
