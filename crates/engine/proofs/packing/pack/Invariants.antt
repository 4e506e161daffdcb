use Rattle.std.proofs.Common.{◌≡◌, ℕ, ◌<◌, length, get_or}
use Rattle.plain.specs.Machine.{byte_below}
use Rattle.engine.specs.Packing.{digits_of}
use Rattle.engine.proofs.packing.pack.Given as goal

abbrev pub invariant-loop-i : goal.invariant-loop-i
invariant-loop-i l = (k : ℕ) → k < l.i → get_or l.output k 0 ≡ byte_below (length l.records) (digits_of l.records) k 8
