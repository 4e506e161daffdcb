use Rattle.std.proofs.Common.{◌≡◌, ◌+◌, ◌*◌, [], map}
use Rattle.std.specs.List.{range_with_len}
use Rattle.codes.specs.Held.{lists_in, open_in}
use Rattle.circulant.specs.Turns.{list_of}
use Rattle.circulant.proofs.cells.Cells.lists.Given as goal

abbrev pub invariant-loop-offset : goal.invariant-loop-offset
invariant-loop-offset l = (lists_in l.lists ≡ map (list_of l.side l.self.grid l.self.cells.now) (range_with_len 0 (l.number * l.self.grid.size + l.offset))) × (open_in l.lists ≡ [])

abbrev pub invariant-loop-number : goal.invariant-loop-number
invariant-loop-number l = (lists_in l.lists ≡ map (list_of l.side l.self.grid l.self.cells.now) (range_with_len 0 (l.number * l.self.grid.size))) × (open_in l.lists ≡ [])
