use Rattle.std.proofs.Common.{◌≡◌, length}
use Rattle.plain.specs.Machine.{byte_below}
use Rattle.engine.specs.Packing.{digits_of}
use Rattle.engine.proofs.packing.byte_at.Given as goal

abbrev pub invariant-loop-j : goal.invariant-loop-j
invariant-loop-j l = l.byte ≡ byte_below (length l.records) (digits_of l.records) l.i l.j
