use Rattle.std.proofs.Common.{◌≡◌, drop, eqb, rules}
use Rattle.std.proofs.lemmas.List.{take_rest}
use Rattle.std.specs.List.{prefix_len}
use Rattle.listed.specs.Order.{major_of}
use Rattle.listed.proofs.Searched.{part_is}
use Rattle.listed.proofs.order.Rising.pairs_of.Goals as goal

pub returns : goal.returns
returns c =
    let part = part_is _ _ c.args.self.now.rises c.args.at _ c.partition_point-start.ensures.bound c.partition_point-start.ensures.partitioned (λ y r t k. search rules) in
    let rest = take_rest c.args.self.now.pairs.now c.partition_point-start.result in
    let count : c.count_first.result ≡ prefix_len (λ p. eqb (major_of c.args.self.now.side p) c.args.at) (drop c.partition_point-start.result c.args.self.now.pairs.now) = rw rest at c.count_first.ensures in
    rw (rest, count) part
