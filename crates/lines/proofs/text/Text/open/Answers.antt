use Rattle.std.proofs.Common.{◌≡◌, false, List, [], ◌∷◌, map, None, rules}
use Rattle.lines.specs.Lines.{Placed, Seen, rule, frame, kinds, lines_from}
use Rattle.lines.specs.Open.{first_rule, later_lines}
use Rattle.lines.specs.Rule.{rule_line}
use Rattle.lines.proofs.text.Text.open.Goals as goal

-- the line that was taken is the first
first_taken : (ls : List Placed) (l : Placed) (left : List Seen) → kinds false ls ≡ rule l ∷ left → first_rule ls ≡ rule_line l.bytes
first_taken [] l left e = cc
first_taken (k ∷ ks) l left e = cc

-- and the lines after it are left
later_left : (ls : List Placed) (l : Placed) (left : List Seen) → kinds false ls ≡ rule l ∷ left → left ≡ map frame (later_lines ls)
later_left [] l left e = cc
later_left (k ∷ ks) l left e = cc

pub returns-in_err-rule-in-Some-Rule : goal.returns-in_err-rule-in-Some-Rule
returns-in_err-rule-in-Some-Rule c =
    let none : first_rule (lines_from 0 c.args.input.now) ≡ None = search (rules, first_taken) in
    search rules

pub returns-in_ok-rule-in-Some-Rule : goal.returns-in_ok-rule-in-Some-Rule
returns-in_ok-rule-in-Some-Rule c = search (rules, first_taken, later_left)
