use Rattle.std.proofs.Common.{rules}
use Rattle.decoder.proofs.Exactly.{weigh_from}
use Rattle.decoder.proofs.frame.Frame.weigh.Goals as goal

pub returns-clause-exact : goal.returns-clause-exact
returns-clause-exact c = weigh_from _ _ _ _ (search rules)
