use Rattle.std.proofs.Common.{refl}
use Rattle.acceptance.proofs.Symmetries.{premises_met}
use Rattle.acceptance.proofs.trials.singles.Goals as goal

pub returns : goal.returns
returns c = premises_met c.replay_both.result _ _ _ _ _ c.replay_both.ensures (record { agree = λ ts score lowest. refl }) refl
