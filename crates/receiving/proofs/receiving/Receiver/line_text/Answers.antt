use Rattle.std.proofs.Common.{sym, ap, ◌∙◌}
use Rattle.std.proofs.lemmas.Result.{MatchResult-weaker}
use Rattle.rules.specs.Chosen.{meaning_of}
use Rattle.lines.specs.declared.line.Line.{Line}
use Rattle.lines.specs.Lines.{seen}
use Rattle.receiving.specs.Received.{seen_text}
use Rattle.receiving.proofs.receiving.Receiver.line_text.Goals as goal

pub returns-in-Frame : goal.returns-in-Frame
returns-in-Frame c = record {
  text = MatchResult-weaker c.frame_line.result c.frame_line.ensures.text (λ s is. is ∙ ap (λ (l : Line). seen_text (meaning_of c.args.self.now.rule) (seen l)) (sym c.in-Frame.is)) (λ e is. is);
  meaning = c.frame_line.ensures.meaning;
}
