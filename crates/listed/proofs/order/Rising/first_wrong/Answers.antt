use Rattle.std.proofs.Common.{rules}
use Rattle.listed.proofs.Finds.{first_from_find}
use Rattle.listed.specs.Listing.{wrong_count}
use Rattle.listed.proofs.order.Rising.first_wrong.Goals as goal

pub returns : goal.returns
returns c = first_from_find (wrong_count c.args.least c.args.most c.args.self.now.side c.args.self.now.pairs.now) c.args.count _ _ _ c.find.ensures.ran (λ x b q k. search rules)
