use Rattle.std.proofs.lemmas.Result.{err_from_is_err_and}
use Rattle.std.proofs.Common.{refl}
use Rattle.codes.proofs.Held.{same_in, added_in}
use Rattle.codes.proofs.lists.Lists.add.Goals as goal

pub returns-in_err-push : goal.returns-in_err-push
returns-in_err-push c = let p = err_from_is_err_and c.from_residual.result c.from_residual.ensures.1 in rw p.1 (same_in c.args.self.now _ refl c.in_err-push.ensures.items)

pub returns : goal.returns
returns c = added_in c.args.self.now _ c.args.item refl c.in_ok-push.ensures.items
