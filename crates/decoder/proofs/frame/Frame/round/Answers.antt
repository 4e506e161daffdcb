use Rattle.std.proofs.Common.{rules}
use Rattle.plain.specs.declared.call.Call.TheVariants.{Round}
use Rattle.decoder.proofs.Exactly.{step_from}
use Rattle.decoder.proofs.frame.Frame.round.Goals as goal

pub returns-in-Some-clause-exact : goal.returns-in-Some-clause-exact
returns-in-Some-clause-exact g c = step_from _ _ _ (g.N.Noise.lawful c.args.noise.now) Round _ _ (search rules)

pub returns-in-None-clause-exact : goal.returns-in-None-clause-exact
returns-in-None-clause-exact g c = step_from _ _ _ (g.N.Noise.lawful c.args.noise.now) Round _ _ (search rules)
