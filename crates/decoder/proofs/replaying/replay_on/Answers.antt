use Rattle.std.proofs.Common.{rules}
use Rattle.decoder.specs.declared.replaying.Replayed.{Replayed}
use Rattle.decoder.specs.Replays.{given, lent, Replays}
use Rattle.decoder.proofs.Runs.{replay_from}
use Rattle.decoder.proofs.replaying.replay_on.Goals as goal

pub returns-clause-exact : goal.returns-clause-exact
returns-clause-exact g c =
    let m = g.R.Rule.meaning c.args.rule.now in
    let noise = g.N.Noise.noise c.args.noise.now in
    let before = lent c.args.levels.now c.args.records.now c.args.signs.now (g.R.Rule.state c.args.rule.now) in
    let after = lent c.quantise.new.levels c.perform_all.new.records c.perform_all.new.signs (g.R.Rule.state c.perform_all.new.rule) in
    let did : Replayed = record { frame = c.perform_all.new.frame; answers = c.in_ok-answers.answers } in
    let ran : Replays (given g.C.Code.answers c.args.terms.now) m noise c.args.samples.now before after did = search rules in
    replay_from _ m noise (g.N.Noise.lawful c.args.noise.now) c.args.samples.now before after did ran
