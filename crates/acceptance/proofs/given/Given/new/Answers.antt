use Rattle.std.proofs.Common.{◌≡◌, List, vec_items, subst, rules}
use lib.Ieee.{Float}
use Rattle.std.proofs.lemmas.Result.{IfOk-from_err}
use Rattle.acceptance.specs.Frames.{image_of}
use Rattle.acceptance.proofs.Samples.{negated_by_image}
use Rattle.acceptance.proofs.given.Given.new.Goals as goal

pub returns-in_err-code : goal.returns-in_err-code
returns-in_err-code c = search (rules, IfOk-from_err)

pub returns-in_err-quantiser : goal.returns-in_err-quantiser
returns-in_err-quantiser c = search (rules, IfOk-from_err)

pub returns-in_err-word : goal.returns-in_err-word
returns-in_err-word c = search (rules, IfOk-from_err)

pub returns-in_err-samples : goal.returns-in_err-samples
returns-in_err-samples c = search (rules, IfOk-from_err)

pub returns-in_err-other_samples : goal.returns-in_err-other_samples
returns-in_err-other_samples c = search (rules, IfOk-from_err)

pub returns : goal.returns
returns c =
    let image = subst (λ (zs : List Float). vec_items c.in_ok-other_samples.other_samples ≡ image_of zs) c.deref.ensures.value c.in_ok-other_samples.ensures in
    record { code = c.in_ok-code.ensures.lawful; word = c.in_ok-word.ensures.digits; samples = negated_by_image _ _ c.in_ok-samples.ensures.1 image }
