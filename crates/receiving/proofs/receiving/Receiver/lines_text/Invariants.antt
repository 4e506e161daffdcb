use Rattle.std.proofs.Common.{◌≡◌, ◌++◌, length, string_bytes}
use Rattle.rules.specs.Chosen.{meaning_of}
use Rattle.lines.specs.Left.{left_of}
use Rattle.receiving.specs.Received.{left_text}
use Rattle.receiving.proofs.receiving.Receiver.lines_text.Given as goal

abbrev pub invariant-loop-line : goal.invariant-loop-line
invariant-loop-line l = (meaning_of l.self.rule ≡ meaning_of l.initial.self.rule) × (string_bytes l.out ++ left_text (meaning_of l.initial.self.rule) (left_of l.text) ≡ left_text (meaning_of l.initial.self.rule) (left_of l.initial.text))

abbrev pub decreases-loop-line : goal.decreases-loop-line
decreases-loop-line l = length (left_of l.text)
