use Rattle.std.proofs.Common.{◌≡◌, length, sym, subst, arith}
use Rattle.codes.specs.Lawful.{Lawful}
use Rattle.circulant.specs.declared.Circulant.{Circulant}
use Rattle.circulant.specs.Means.{circulant_of}
use Rattle.decoder.specs.Replays.{lent}
use Rattle.acceptance.specs.Frames.{pairs, is_one}
use Rattle.acceptance.proofs.Samples.{negated_at}
use Rattle.acceptance.proofs.Symmetries.{same_sides, value_and_fault}
use Rattle.acceptance.proofs.Words.{ones_are_codeword}
use Rattle.acceptance.proofs.trials.replay_both.Goals as goal

pub returns : goal.returns
returns g c =
    let x = c.symmetry_trial.new.side in
    let y = c.symmetry_trial.new.other in
    let after = lent x.1.0 x.1.1.0 x.1.1.1.0 (g.R.Rule.state x.0) in
    let other_After = lent y.1.0 y.1.1.0 y.1.1.1.0 (g.Q.Rule.state y.0) in
    let levels : length c.deref_mut-4.result.now ≡ length c.deref_mut.result.now = omega (arith, c.deref_mut-4.ensures.len, c.deref_mut.ensures.len, c.in_ok-memory.ensures.0, c.in_ok-other_memory.ensures.0) in
    let records : length c.deref_mut-5.result.now ≡ length c.deref_mut-2.result.now = omega (arith, c.deref_mut-5.ensures.len, c.deref_mut-2.ensures.len, c.in_ok-memory.ensures.1, c.in_ok-other_memory.ensures.1) in
    let signs : length c.deref_mut-6.result.now ≡ length c.deref_mut-3.result.now = omega (arith, c.deref_mut-6.ensures.len, c.deref_mut-3.ensures.len, c.in_ok-memory.ensures.2, c.in_ok-other_memory.ensures.2) in
    value_and_fault c.symmetry_trial.result _ _ _ _ c.symmetry_trial.ensures.outcomes c.symmetry_trial.ensures.symmetry
    (λ t h imaged alike equal.
    let lawful = subst (λ (k : Circulant). Lawful (circulant_of k) pairs) (sym c.terms.ensures.code) imaged.code in
    let negated = negated_at _ _ _ _ c.deref.ensures.value c.deref-2.ensures.value imaged.samples in
    same_sides after other_After t.first t.second (h pairs is_one lawful ones_are_codeword negated alike equal (record { levels = levels; records = records; signs = signs })))
