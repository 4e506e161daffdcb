use Rattle.std.proofs.Common.{length}
use Rattle.lines.specs.Left.{left_of}
use Rattle.worked.proofs.reading.show_text.Given as goal

abbrev pub decreases-loop-line : goal.decreases-loop-line
decreases-loop-line l = length (left_of l.text)
