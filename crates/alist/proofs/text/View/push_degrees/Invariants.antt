use Rattle.std.proofs.Common.{◌≡◌, ◌++◌, string_bytes}
use Rattle.alist.specs.Text.{numbers_text, degree_of}
use Rattle.alist.proofs.text.View.push_degrees.Given as goal

abbrev pub invariant-loop-at : goal.invariant-loop-at
invariant-loop-at g l = string_bytes l.text ≡ string_bytes l.initial.text ++ numbers_text (degree_of l.self.side (g.C.Code.answers l.self.code.now)) l.at
