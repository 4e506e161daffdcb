use Rattle.std.proofs.lemmas.Result.{MatchResult-weaker}
use Rattle.receiving.proofs.Answered.{whole_text}
use Rattle.receiving.proofs.receiving.received.Goals as goal

pub returns-in_ok-code-in-Ok : goal.returns-in_ok-code-in-Ok
returns-in_ok-code-in-Ok c = MatchResult-weaker c.lines_text.result c.lines_text.ensures (λ s is. whole_text c.args.input.now _ _ _ c.in-Ok.ensures.0 c.in-Ok.ensures.1 c.in-Ok.ensures.3 is) (λ e is. is)
