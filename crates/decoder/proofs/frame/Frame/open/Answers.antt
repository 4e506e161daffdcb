use Rattle.std.proofs.Common.{rules}
use Rattle.decoder.proofs.Exactly.{open_from}
use Rattle.decoder.proofs.frame.Frame.open.Goals as goal

pub returns-clause-exact : goal.returns-clause-exact
returns-clause-exact g c = open_from _ _ _ _ _ c.args.records.now c.args.signs.now _ (search rules) (search rules)
