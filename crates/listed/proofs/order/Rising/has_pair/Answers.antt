use Rattle.std.proofs.Common.{rules, ◌∙◌}
use Rattle.listed.proofs.Searched.{found}
use Rattle.listed.proofs.order.Rising.has_pair.Goals as goal

pub returns : goal.returns
returns c = c.is_ok.ensures.value ∙ found c.args.self.now.side c.args.self.now.pairs.now c.args.p c.numbers-key.result c.binary_search_by_key.result c.numbers-key.ensures c.args.self.now.rises c.binary_search_by_key.ensures.bound c.binary_search_by_key.ensures.position (λ a k t e. search rules)
