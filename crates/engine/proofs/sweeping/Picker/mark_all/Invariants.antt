use Rattle.engine.proofs.Marked.{Marks}
use Rattle.engine.proofs.sweeping.Picker.mark_all.Given as goal

abbrev pub invariant-loop-k : goal.invariant-loop-k
invariant-loop-k g l = Marks ((g.R.Rule.meaning l.self.rule.now).says (g.R.Rule.state l.self.rule.now)) (g.N.Noise.noise l.self.noise.now l.self.round) l.low l.initial.records l.k l.records l.count
