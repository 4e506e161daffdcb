use Rattle.std.proofs.Common.{◌≡◌}
use Rattle.engine.specs.Opening.{whole}
use Rattle.engine.specs.Sweeps.{flip_places}
use Rattle.engine.proofs.weighted.Weighted.flip_all.Given as goal

abbrev pub invariant-loop-k : goal.invariant-loop-k
invariant-loop-k g l = whole l.records l.signs l.now ≡ flip_places (g.C.Code.answers l.self.code.now) l.self.weight l.k (whole l.initial.records l.initial.signs l.objective)
