use Rattle.listed.proofs.Meaning.{made}
use Rattle.listed.proofs.Listed.new.Goals as goal

pub returns : goal.returns
returns c =
    rw c.new.ensures
    (made c.args.bits c.args.checks c.args.by_check.now c.args.by_bit.now _ _ c.in_ok-check_lists.ensures c.in_ok-check_degrees.ensures
    (rw (c.rows.ensures.0, c.rows.ensures.1) at c.in_ok-rows.ensures)
    (rw (c.columns.ensures.0, c.columns.ensures.1) at c.in_ok-columns.ensures))
