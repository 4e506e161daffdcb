use Rattle.std.proofs.Common.{◌≡◌, map, vec_items}
use Rattle.decoder.specs.Memory.{held}
use Rattle.decoder.specs.Replays.{unpacked}
use Rattle.decoder.proofs.Going.{Going}
use Rattle.decoder.proofs.replaying.perform_all.Given as goal

abbrev pub invariant-loop-call : goal.invariant-loop-call
invariant-loop-call g l = (g.R.Rule.meaning l.rule ≡ g.R.Rule.meaning l.initial.rule) × Going (g.R.Rule.meaning l.initial.rule) (g.N.Noise.noise l.noise) (g.C.Code.answers l.code) l.calls (held l.initial.frame l.initial.records l.initial.signs (g.R.Rule.state l.initial.rule)) l.call-index (map (unpacked vec_items) (vec_items l.answers)) (held l.frame l.records l.signs (g.R.Rule.state l.rule))
