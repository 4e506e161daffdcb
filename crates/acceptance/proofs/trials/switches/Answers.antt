use Rattle.std.proofs.Common.{◌≡◌, sym, ap, ◌∙◌}
use Rattle.noise.specs.Sources.{generated}
use Rattle.rules.specs.Kinds.{switch}
use Rattle.acceptance.proofs.Symmetries.{premises_met, alike_same}
use Rattle.acceptance.proofs.trials.switches.Goals as goal

pub returns : goal.returns
returns c =
    let made = c.in_ok-noise.ensures in
    let other-made = c.in_ok-other_noise.ensures in
    let equal : generated c.in_ok-other_noise.other_noise.seed c.in_ok-other_noise.other_noise.amplitude ≡ generated c.in_ok-noise.noise.seed c.in_ok-noise.noise.amplitude = cc (made.1, made.2, other-made.1, other-made.2) in
    premises_met c.replay_both.result _ _ _ _ _ c.replay_both.ensures (alike_same _ _ (ap switch (c.in_ok-switch.ensures.1 ∙ sym c.in_ok-new.ensures.1))) equal
