use Rattle.std.proofs.Common.{string_bytes, refl, ◌∙◌}
use Rattle.std.proofs.lemmas.Result.{MatchResult-weaker}
use Rattle.receiving.proofs.Answered.{refused_line_lem, levels_refused, levels_answered}
use Rattle.receiving.proofs.receiving.Receiver.frame_line.Goals as goal

pub returns-in-Err : goal.returns-in-Err
returns-in-Err c = record { text = refused_line_lem c.refusal_line.result string_bytes _ c.in-Err.fault _ c.in-Err.ensures c.refusal_line.ensures; meaning = refl }

pub returns-in-Ok-decode_levels : goal.returns-in-Ok-decode_levels
returns-in-Ok-decode_levels c = record { text = MatchResult-weaker c.report_line.result c.report_line.ensures (λ s is. levels_answered _ _ _ _ _ _ c.in-Ok.ensures.0 (c.deref.ensures.value ∙ c.in-Ok.ensures.1) c.in-Ok-decode_levels.ensures.outcome.0 c.in-Ok-decode_levels.ensures.outcome.1 is) (λ e is. is); meaning = c.decode_levels.ensures.meaning }

pub returns : goal.returns
returns c = record { text = MatchResult-weaker c.refusal_line-in-Err-decode_levels.result c.refusal_line-in-Err-decode_levels.ensures (λ s is. levels_refused _ _ _ _ _ _ c.in-Ok.ensures.0 (c.deref.ensures.value ∙ c.in-Ok.ensures.1) c.in-Err-decode_levels.ensures.outcome is.0) (λ e is. is); meaning = c.decode_levels.ensures.meaning }
