use Rattle.std.proofs.Common.{sym, ◌∙◌}
use Rattle.codes.specs.declared.side.Side.TheVariants.{ByBit}
use Rattle.listed.proofs.Passing.{sorted_list}
use Rattle.listed.proofs.check_lists.Goals as goal

pub invariant_of-rising : goal.invariant_of-rising
invariant_of-rising c = record { rises = sorted_list c.args.bits c.args.checks ByBit c.args.by_bit.now (sym c.sizes_fit.ensures ∙ c.if-not-sizes_fit.false) (sym c.in_ok-none_found-2.ensures ∙ c.first_bad-2.ensures) }
