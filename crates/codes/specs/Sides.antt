-- The two ways to go through the pairs of a matrix. Assumes nothing.
use Rattle.codes.specs.declared.side.Side.{Side}
use Rattle.codes.specs.declared.side.Side.TheVariants.{ByCheck, ByBit}

abbrev pub other : Side → Side
other ByCheck = ByBit
other ByBit = ByCheck
