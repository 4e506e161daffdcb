use Rattle.std.proofs.Common.{◌≡◌, ◌++◌, string_bytes}
use Rattle.alist.specs.Text.{numbers_text, entry_of}
use Rattle.alist.proofs.text.View.push_list.Given as goal

abbrev pub invariant-loop-place : goal.invariant-loop-place
invariant-loop-place g l = string_bytes l.text ≡ string_bytes l.initial.text ++ numbers_text (entry_of l.self.side (g.C.Code.answers l.self.code.now) l.at) l.place
