use Rattle.std.proofs.Common.{◌≡◌, ◌++◌, map, take}
use Rattle.codes.specs.Held.{lists_in, open_in}
use Rattle.circulant.specs.Turns.{landing}
use Rattle.circulant.proofs.cells.Cells.add_list.Given as goal

abbrev pub invariant-loop-turn : goal.invariant-loop-turn
invariant-loop-turn l = (lists_in l.lists ≡ lists_in l.fn.lists) × (open_in l.lists ≡ open_in l.fn.lists ++ map (landing l.self.grid.size l.offset) (take l.turn-index l.turns))
