use Rattle.std.proofs.Common.{sym, ◌∙◌}
use Rattle.std.proofs.Math.Logic.{∥∥₁_elim}
use Rattle.std.proofs.Props.{props}
use Rattle.std.proofs.lemmas.Result.{err_from_is_err_and}
use Rattle.receiving.proofs.Reporting.{fault_same, answered, not_weighed, not_read}
use Rattle.receiving.proofs.report.decode_levels.Goals as goal

pub returns-in_err-frame : goal.returns-in_err-frame
returns-in_err-frame c =
    let p = err_from_is_err_and c.from_residual.result c.from_residual.ensures.1 in
    record { outcome = rw (p.1, p.2) (∥∥₁_elim c.args.code.now.lawful (hlevel props) (λ l. sym (fault_same _ _ l)) ∙ c.in_err-frame.ensures.all.0); meaning = c.in_err-frame.ensures.meaning }

pub returns-in_err-weights : goal.returns-in_err-weights
returns-in_err-weights c = absurd (∥∥₁_elim c.args.code.now.lawful (hlevel props) (λ l. not_weighed _ l _ _ c.in_ok-frame.ensures.meaning _ _ c.in_ok-frame.ensures.exact _ _ c.in_ok-ended.ensures.exact _ c.in_err-weights.ensures.exact))

pub returns-in_err-read : goal.returns-in_err-read
returns-in_err-read c = absurd (∥∥₁_elim c.args.code.now.lawful (hlevel props) (λ l. not_read _ l _ _ c.in_ok-frame.ensures.meaning _ _ c.in_ok-frame.ensures.exact _ _ c.in_ok-ended.ensures.exact _ c.in_err-read.ensures.exact))

pub returns : goal.returns
returns c = record {
  outcome = ∥∥₁_elim c.args.code.now.lawful (hlevel props) (λ l. (
    sym (fault_same _ _ l) ∙ c.in_ok-frame.ensures.all.0,
    answered _ l _ _ c.in_ok-frame.ensures.meaning _ _ c.in_ok-frame.ensures.exact _ _ _ _ c.in_ok-ended.ensures.all c.in_ok-weights.ensures.all c.in_ok-read.ensures.all,
  ));
  meaning = c.in_ok-ended.ensures.meaning ∙ c.in_ok-frame.ensures.meaning;
}
