use Rattle.std.proofs.Common.{eqb, arith}
use Rattle.std.proofs.lemmas.Bool.Decides.{nat_tests}
use Rattle.std.proofs.lemmas.List.Sums.{length-filter}
use Rattle.listed.specs.Order.{major_of}
use Rattle.listed.proofs.order.Rising.wrong_count.Goals as goal

pub returns : goal.returns
returns c =
    let n = length-filter (λ p. eqb (major_of c.args.self.now.side p) c.args.at) c.args.self.now.pairs.now in
    grind (arith, nat_tests)
