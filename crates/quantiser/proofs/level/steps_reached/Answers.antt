use Rattle.std.proofs.Common.{ap, ◌∙◌, arith}
use lib.Ieee.{le}
use Rattle.quantiser.proofs.Counts.{reached_none, reached_next}
use Rattle.quantiser.proofs.level.steps_reached.Goals as goal

pub loop-k-init : goal.loop-k-init
loop-k-init c = (reached_none c.args.step c.args.size, omega arith)

pub loop-k-preserved : goal.loop-k-preserved
loop-k-preserved c =
    let reached = c.reaches.ensures ∙ ap (λ b. le b c.args.size) c.boundary_at.ensures in
    reached_next c.args.step c.args.size c.loop-k.k c.loop-k.reached c.from-reached.result _ c.loop-k.invariant reached c.from-reached.ensures
