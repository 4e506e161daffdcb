use Rattle.std.proofs.Common.{◌≡◌}
use Rattle.engine.specs.Opening.{fresh_places}
use Rattle.engine.proofs.opening.put_levels.Given as goal

abbrev pub invariant-loop-k : goal.invariant-loop-k
invariant-loop-k l = l.records ≡ fresh_places l.levels l.k l.initial.records
