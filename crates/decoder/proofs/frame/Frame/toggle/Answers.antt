use Rattle.std.proofs.Common.{rules}
use Rattle.decoder.proofs.Exactly.{toggle_from}
use Rattle.decoder.proofs.frame.Frame.toggle.Goals as goal

pub returns-clause-exact : goal.returns-clause-exact
returns-clause-exact g c = toggle_from _ _ _ _ (search rules)
