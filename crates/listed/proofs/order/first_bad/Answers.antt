use Rattle.std.proofs.Common.{length, rules}
use Rattle.listed.proofs.Finds.{first_from_find}
use Rattle.listed.specs.Order.{bad_at}
use Rattle.listed.proofs.order.first_bad.Goals as goal

pub returns : goal.returns
returns c = first_from_find (bad_at c.args.bits c.args.checks c.args.side c.args.pairs.now) (length c.args.pairs.now) _ _ _ c.find.ensures.ran (λ x b q k. search rules)
