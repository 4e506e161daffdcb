use Rattle.std.proofs.Common.{◌≡◌, ◌≤◌}
use Rattle.quantiser.specs.Levels.{steps_reached}
use Rattle.quantiser.proofs.level.steps_reached.Given as goal

abbrev pub invariant-loop-k : goal.invariant-loop-k
invariant-loop-k l = (l.reached ≡ steps_reached l.step l.size l.k) × (l.reached ≤ l.k)
