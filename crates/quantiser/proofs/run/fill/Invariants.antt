use Rattle.std.proofs.Common.{◌≡◌, map, take}
use Rattle.quantiser.specs.Levels.{level_of}
use Rattle.quantiser.proofs.run.fill.Given as goal

abbrev pub invariant-loop-i : goal.invariant-loop-i
invariant-loop-i l = take l.i l.levels ≡ map (level_of l.quantiser.shape) (take l.i l.samples)
