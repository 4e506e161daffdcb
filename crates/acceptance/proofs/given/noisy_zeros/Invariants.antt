use Rattle.std.proofs.Common.{◌≡◌, vec_items, vec_len}
use Rattle.acceptance.specs.Frames.{NonZero}
use Rattle.acceptance.proofs.given.noisy_zeros.Given as goal

abbrev pub invariant-loop : goal.invariant-loop
invariant-loop l = (vec_len l.samples ≡ l.counter) × NonZero (vec_items l.samples)
