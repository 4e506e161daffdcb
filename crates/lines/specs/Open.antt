-- How an input opens: with a line that means a rule. Assumes nothing.
use Rattle.std.specs.Prelude.{ℕ, cond, List, [], ◌∷◌, length, Some, None, Option, nat_le}
use Rattle.faults.specs.Rows.{Row, T, most_input}
use Rattle.rules.specs.declared.mode.Mode.{Mode}
use Rattle.rules.specs.Meaning.{RuleMeaning}
use Rattle.lines.specs.Lines.{Placed, lines_from}
use Rattle.lines.specs.Rule.{rule_line}

-- the rule that the first line means; where there is no line, none
abbrev pub first_rule : List Placed → Option (RuleMeaning Mode)
first_rule [] = None
first_rule (l ∷ ls) = rule_line l.bytes

-- the lines after the first
abbrev pub later_lines : List Placed → List Placed
later_lines [] = []
later_lines (l ∷ ls) = ls

abbrev pub rule_fault : Option (RuleMeaning Mode) → Option Row
rule_fault None = Some (T 2 0)
rule_fault (Some m) = None

-- why an input is refused before its frames: it is too long, or else it has no first line that means a rule
abbrev pub open_fault : List ℕ → Option Row
open_fault bs = cond (nat_le (length bs) most_input) (rule_fault (first_rule (lines_from 0 bs))) (Some (T 1 most_input))
