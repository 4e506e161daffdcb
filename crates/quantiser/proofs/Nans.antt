-- The first sample that is not a number, as the first place in the list.
use Rattle.std.proofs.Common.{◌≡◌, List, position, is_nan}
use lib.Ieee.{Float, nan}
use Rattle.faults.proofs.Firsts.{position_first}
use Rattle.quantiser.specs.Runs.{first_nan}

pub nan_position : (xs : List Float) → position is_nan xs ≡ first_nan xs
nan_position xs = position_first is_nan nan xs
