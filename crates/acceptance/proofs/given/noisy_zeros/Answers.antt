use Rattle.std.proofs.Common.{sym, subst, arith}
use Rattle.acceptance.specs.Frames.{NonZero}
use Rattle.acceptance.proofs.Samples.{nonzero_push}
use Rattle.acceptance.proofs.given.noisy_zeros.Goals as goal

pub loop-preserved : goal.loop-preserved
loop-preserved c = (omega (arith, c.in_ok-push.ensures.len), subst NonZero (sym c.in_ok-push.ensures.items) (nonzero_push _ _ c.loop.invariant.1 c.sample_of.ensures))
