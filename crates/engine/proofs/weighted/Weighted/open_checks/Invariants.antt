use Rattle.std.proofs.Common.{◌≡◌}
use Rattle.engine.specs.Opening.{whole, open_checks}
use Rattle.engine.proofs.weighted.Weighted.open_checks.Given as goal

abbrev pub invariant-loop-c : goal.invariant-loop-c
invariant-loop-c g l = whole l.records l.signs l.objective ≡ open_checks (g.C.Code.answers l.self.code.now) l.self.weight l.c (whole l.initial.records l.initial.signs l.first)
