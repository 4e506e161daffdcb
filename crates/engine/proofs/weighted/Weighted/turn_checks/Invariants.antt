use Rattle.std.proofs.Common.{◌≡◌}
use Rattle.engine.specs.Turns.{turn_places, memory}
use Rattle.engine.proofs.weighted.Weighted.turn_checks.Given as goal

abbrev pub invariant-loop-p : goal.invariant-loop-p
invariant-loop-p g l = memory l.records l.signs ≡ turn_places (g.C.Code.answers l.self.code.now) l.k l.self.weight l.p (memory l.initial.records l.initial.signs)
