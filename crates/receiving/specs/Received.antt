-- What is answered to an input: a line for each frame line, or one line if the input does not open. Assumes nothing.
use Rattle.std.specs.Prelude.{ℕ, List, [], ◌∷◌, ◌++◌, ℤ, Some, None, Option}
use Rattle.std.specs.Option.{option_map}
use Rattle.faults.specs.Rows.{Row, row_of}
use Rattle.lines.specs.Digits.{frame_fault, levels_of}
use Rattle.lines.specs.Lines.{Placed, Seen, rule, frame, lines_from}
use Rattle.lines.specs.Open.{first_rule, later_lines, open_fault}
use Rattle.rules.specs.declared.mode.Mode.{Mode}
use Rattle.rules.specs.Meaning.{RuleMeaning}
use Rattle.receiving.specs.Frames.{levels_fault, answers_with}
use Rattle.receiving.specs.Text.{answers_line, refused_line}

-- the line of a fault, or else the text
abbrev pub or_refused : Option Row → List ℕ → List ℕ
or_refused None text = text
or_refused (Some r) text = refused_line r

-- of a frame with these levels
abbrev pub levels_text : RuleMeaning Mode → List ℤ → List ℕ
levels_text m ys = or_refused (option_map row_of (levels_fault ys)) (answers_line (answers_with m ys))

-- of a frame line
abbrev pub frame_text : RuleMeaning Mode → Placed → List ℕ
frame_text m l = or_refused (frame_fault l.at l.bytes) (levels_text m (levels_of l.bytes))

abbrev pub frames_text : RuleMeaning Mode → List Placed → List ℕ
frames_text m [] = []
frames_text m (l ∷ ls) = frame_text m l ++ frames_text m ls

-- of a line, and nothing of one that is no frame
abbrev pub seen_text : RuleMeaning Mode → Seen → List ℕ
seen_text m (rule l) = []
seen_text m (frame l) = frame_text m l

abbrev pub left_text : RuleMeaning Mode → List Seen → List ℕ
left_text m [] = []
left_text m (l ∷ ls) = seen_text m l ++ left_text m ls

-- ---- the whole
abbrev pub frames_by : Option (RuleMeaning Mode) → List Placed → List ℕ
frames_by None ls = []
frames_by (Some m) ls = frames_text m ls

abbrev pub received_text : List ℕ → List ℕ
received_text input = or_refused (open_fault input) (frames_by (first_rule (lines_from 0 input)) (later_lines (lines_from 0 input)))
