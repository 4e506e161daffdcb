use Rattle.std.proofs.Common.{add-one, rules}
use Rattle.engine.proofs.Marked.{mark_room, mark_one}
use Rattle.engine.proofs.sweeping.Picker.mark_all.Goals as goal

pub overflow_add-count : goal.overflow_add-count
overflow_add-count g c = let most = mark_room _ _ _ _ _ c.loop-k.invariant.counts c.from-count.ensures in search (rules, most)

pub loop-k-preserved : goal.loop-k-preserved
loop-k-preserved g c = rw add-one (mark_one _ _ c.lowest-low.result c.args.records.now c.loop-k.k c.loop-k.records c.loop-k.count c.from-count.result c.picks-bit.result c.loop-k.invariant (search rules) c.from-count.ensures)
