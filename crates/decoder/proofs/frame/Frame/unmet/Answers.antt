use Rattle.std.proofs.Common.{rules}
use Rattle.decoder.proofs.Exactly.{unmet_from}
use Rattle.decoder.proofs.frame.Frame.unmet.Goals as goal

pub returns-clause-exact : goal.returns-clause-exact
returns-clause-exact c = unmet_from _ _ _ (search rules)
