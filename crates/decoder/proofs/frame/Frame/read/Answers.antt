use Rattle.std.proofs.Common.{rules}
use Rattle.decoder.proofs.Exactly.{read_from}
use Rattle.decoder.proofs.frame.Frame.read.Goals as goal

pub returns-clause-exact : goal.returns-clause-exact
returns-clause-exact c = read_from _ _ _ _ (search rules)
