use Rattle.std.proofs.Common.{◌≡◌, take}
use Rattle.codes.specs.Lists.{longest}
use Rattle.codes.proofs.matrix.longest.Given as goal

abbrev pub invariant-loop-at : goal.invariant-loop-at
invariant-loop-at g l = l.most ≡ longest (take l.at (g.L.AsLists.lists l.lists))
