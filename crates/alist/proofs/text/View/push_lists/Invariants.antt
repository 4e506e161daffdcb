use Rattle.std.proofs.Common.{◌≡◌, ◌++◌, string_bytes}
use Rattle.alist.specs.Text.{line_text, lines_text, entry_of, widest_of}
use Rattle.alist.proofs.text.View.push_lists.Given as goal

abbrev pub invariant-loop-at : goal.invariant-loop-at
invariant-loop-at g l = string_bytes l.text ≡ string_bytes l.initial.text ++ lines_text (λ i. line_text (entry_of l.self.side (g.C.Code.answers l.self.code.now) i) (widest_of l.self.side (g.C.Code.answers l.self.code.now))) l.at
