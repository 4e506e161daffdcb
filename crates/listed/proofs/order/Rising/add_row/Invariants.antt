use Rattle.std.proofs.Common.{◌≡◌, ◌++◌, map, take}
use Rattle.codes.specs.Held.{lists_in, open_in}
use Rattle.listed.specs.Order.{minor_of}
use Rattle.listed.proofs.order.Rising.add_row.Given as goal

abbrev pub invariant-loop-p : goal.invariant-loop-p
invariant-loop-p l = (lists_in l.lists ≡ lists_in l.fn.lists) × (open_in l.lists ≡ open_in l.fn.lists ++ map (minor_of l.self.side) (take l.p-index l.pairs))
