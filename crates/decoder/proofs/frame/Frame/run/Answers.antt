use Rattle.std.proofs.Common.{◌≡◌, None, refl, ap, ◌∙◌, rules}
use Rattle.decoder.specs.Memory.{held, verdict_in, rounded}
use Rattle.decoder.proofs.Running.{begin, one_more, ends}
use Rattle.decoder.proofs.frame.Frame.run.Goals as goal

pub loop-verdict-init : goal.loop-verdict-init
loop-verdict-init g c = (begin _ _ _ _, refl)

pub returns-in-Some-clause-all : goal.returns-in-Some-clause-all
returns-in-Some-clause-all g c =
    let now = held c.loop-verdict.self c.loop-verdict.records c.loop-verdict.signs (g.R.Rule.state c.loop-verdict.rule) in
    ends _ _ _ _ now c.in-Some.verdict c.loop-verdict.invariant.0 (search rules)

pub loop-verdict-preserved : goal.loop-verdict-preserved
loop-verdict-preserved g c =
    let m = g.R.Rule.meaning c.args.rule.now in
    let noise = g.N.Noise.noise c.args.noise.now in
    let a = g.C.Code.answers c.args.code.now in
    let now = held c.loop-verdict.self c.loop-verdict.records c.loop-verdict.signs (g.R.Rule.state c.loop-verdict.rule) in
    let goes : verdict_in c.loop-verdict.self c.loop-verdict.signs ≡ None = search rules in
    (one_more m noise a _ now _ c.loop-verdict.invariant.0 goes (c.make_round.ensures.held ∙ ap (λ x. rounded x noise a now) c.loop-verdict.invariant.1), c.make_round.ensures.meaning ∙ c.loop-verdict.invariant.1)
