use Rattle.listed.proofs.Passing.{fine}
use Rattle.listed.proofs.Matched.rows.Goals as goal

pub invariant_of-result : goal.invariant_of-result
invariant_of-result c = record { rises = (fine c.args.self.now.bits c.args.self.now.checks c.args.self.now.by_check.now c.args.self.now.by_bit.now c.args.self.now.matched).rows_sorted }
