use Rattle.std.proofs.Common.{◌≡◌, ◌-◌}
use Rattle.decoder.specs.Memory.{held}
use Rattle.decoder.proofs.Running.{Ongoing}
use Rattle.decoder.proofs.frame.Frame.run.Given as goal

abbrev pub invariant-loop-verdict : goal.invariant-loop-verdict
invariant-loop-verdict g l = Ongoing (g.R.Rule.meaning l.initial.rule) (g.N.Noise.noise l.noise) (g.C.Code.answers l.code) (held l.initial.self l.initial.records l.initial.signs (g.R.Rule.state l.initial.rule)) (held l.self l.records l.signs (g.R.Rule.state l.rule)) × (g.R.Rule.meaning l.rule ≡ g.R.Rule.meaning l.initial.rule)

abbrev pub decreases-loop-verdict : goal.decreases-loop-verdict
decreases-loop-verdict g l = l.self.limit - l.self.rounds
