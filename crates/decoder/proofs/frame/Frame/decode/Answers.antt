use Rattle.std.proofs.Common.{rules}
use Rattle.plain.specs.declared.call.Call.TheVariants.{Decode}
use Rattle.decoder.proofs.Exactly.{step_from}
use Rattle.decoder.proofs.frame.Frame.decode.Goals as goal

pub returns-clause-exact : goal.returns-clause-exact
returns-clause-exact g c = step_from _ _ _ (g.N.Noise.lawful c.args.noise.now) Decode _ _ (search rules)
