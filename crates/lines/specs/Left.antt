-- The lines that are left of an input. Assumes nothing.
use Rattle.std.specs.Prelude.{List}
use Rattle.lines.specs.declared.text.Text.{Text}
use Rattle.lines.specs.Parts.{bytes_of}
use Rattle.lines.specs.Lines.{Seen, kinds, lines_from}

abbrev pub left_of : Text → List Seen
left_of t = kinds t.begun (lines_from t.rest.place (bytes_of t.rest))
