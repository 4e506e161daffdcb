use Rattle.std.proofs.Common.{sym, refl, ap, ◌∙◌}
use Rattle.customer.specs.Own.{striped}
use Rattle.acceptance.proofs.Symmetries.{premises_met}
use Rattle.acceptance.proofs.trials.of_customer.Goals as goal

pub returns : goal.returns
returns c = premises_met c.replay_both.result _ _ _ _ _ c.replay_both.ensures (record { agree = λ ts score lowest. refl }) (ap striped (c.new-2.ensures ∙ sym c.new.ensures))
