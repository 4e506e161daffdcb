use Rattle.std.proofs.Common.{◌++◌, string_bytes, ap, ◌∙◌}
use Rattle.std.proofs.lemmas.Result.{err_from_is_err_and}
use Rattle.receiving.proofs.Answered.{lines_more, lines_end}
use Rattle.receiving.proofs.receiving.Receiver.lines_text.Goals as goal

pub returns-in_err-answer : goal.returns-in_err-answer
returns-in_err-answer c = let p = err_from_is_err_and c.from_residual.result c.from_residual.ensures.1 in rw (p.1, p.2) c.in_err-answer.ensures.text

pub returns-in_err-push_str : goal.returns-in_err-push_str
returns-in_err-push_str c = let p = err_from_is_err_and c.from_residual-in_err-push_str.result c.from_residual-in_err-push_str.ensures.1 in rw p.1 p.2

pub loop-line-preserved : goal.loop-line-preserved
loop-line-preserved c = (
  c.line_text.ensures.meaning ∙ c.loop-line.invariant.0,
  lines_more _ _ _ (string_bytes c.loop-line.out) _ _ _ _ _ c.loop-line.invariant.0 c.loop-line.invariant.1 c.in-Some.ensures c.in_ok-answer.ensures.text
      (c.in_ok-push_str.ensures.bytes ∙ ap (λ t. string_bytes c.loop-line.out ++ t) c.as_str.ensures.value),
)

pub returns : goal.returns
returns c = lines_end _ _ _ _ c.loop-line.invariant.1 c.in_default.ensures.0
