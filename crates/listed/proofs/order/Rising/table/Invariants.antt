use Rattle.std.proofs.Common.{◌≡◌, [], map}
use Rattle.std.specs.List.{range_with_len}
use Rattle.codes.specs.Held.{lists_in, open_in}
use Rattle.listed.specs.Order.{row_of}
use Rattle.listed.proofs.order.Rising.table.Given as goal

abbrev pub invariant-loop-at : goal.invariant-loop-at
invariant-loop-at l = (lists_in l.lists ≡ map (row_of l.self.side l.self.pairs.now) (range_with_len 0 l.at)) × (open_in l.lists ≡ [])
