use Rattle.std.proofs.Common.{◌≤◌, length, vec_items, rules}
use Rattle.lines.proofs.Pairs.{turn}
use Rattle.lines.proofs.frame.read_levels.Goals as goal

pub loop-rest-preserved : goal.loop-rest-preserved
loop-rest-preserved c =
    let xs = c.loop-rest.rest.now in
    let long : 2 ≤ length xs = search rules in
    turn xs (vec_items c.loop-rest.out) _ _ long (search rules) c.loop-rest.invariant
