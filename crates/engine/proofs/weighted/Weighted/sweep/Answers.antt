use Rattle.std.proofs.Common.{rules}
use Rattle.engine.specs.Opening.{whole}
use Rattle.engine.proofs.Sweepings.{sweep_exact}
use Rattle.engine.proofs.weighted.Weighted.sweep.Goals as goal

pub returns-clause-exact : goal.returns-clause-exact
returns-clause-exact g c = sweep_exact _ _ (g.R.Rule.meaning c.args.rule.now) (g.R.Rule.state c.args.rule.now) _ (g.N.Noise.lawful c.args.noise.now) c.args.round (whole c.args.records.now c.args.signs.now c.args.objective) _ _ (search rules) (search rules)
