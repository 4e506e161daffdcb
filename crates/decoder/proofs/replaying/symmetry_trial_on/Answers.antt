use Rattle.std.proofs.Common.{rules}
use Rattle.decoder.specs.Replays.{lent}
use Rattle.decoder.proofs.Mirroring.{trial_law}
use Rattle.decoder.proofs.replaying.symmetry_trial_on.Goals as goal

pub returns-clause-symmetry : goal.returns-clause-symmetry
returns-clause-symmetry g c =
    let terms = c.args.terms.now in
    let a = c.args in
    let one = c.replay_on.new in
    let two = c.replay_on-2.new in
    trial_law terms.quantiser.now (g.C.Code.answers terms.code.now) terms.weight terms.limit terms.calls.now
    (g.R.Rule.meaning a.rule.now) (g.Q.Rule.meaning a.other_rule.now) (g.N.Noise.noise a.noise.now) (g.M.Noise.noise a.other_noise.now) (g.N.Noise.lawful a.noise.now) a.samples.now a.other_samples.now
    (lent a.levels.now a.records.now a.signs.now (g.R.Rule.state a.rule.now)) (lent one.levels one.records one.signs (g.R.Rule.state one.rule)) (lent a.other_levels.now a.other_records.now a.other_signs.now (g.Q.Rule.state a.other_rule.now)) (lent two.levels two.records two.signs (g.Q.Rule.state two.rule))
    c.in_ok-first.first c.in_ok-second.second (search rules) (search rules) (search rules) (search rules)
