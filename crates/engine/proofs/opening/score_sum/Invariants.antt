use Rattle.std.proofs.Common.{◌≡◌}
use Rattle.engine.specs.Opening.{score_places}
use Rattle.engine.proofs.opening.score_sum.Given as goal

abbrev pub invariant-loop-bit : goal.invariant-loop-bit
invariant-loop-bit l = l.sum ≡ score_places l.records l.bit-index
