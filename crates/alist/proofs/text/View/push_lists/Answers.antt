use Rattle.std.proofs.Common.{◌++◌, string_bytes, ap, ◌∙◌}
use Rattle.alist.specs.Text.{line_text, entry_of, widest_of}
use Rattle.alist.proofs.Lines.{line_more}
use Rattle.alist.proofs.text.View.push_lists.Goals as goal

pub loop-at-preserved : goal.loop-at-preserved
loop-at-preserved g c =
    let a = g.C.Code.answers c.args.self.now.code.now in
    let s = c.args.self.now.side in
    line_more (λ i. line_text (entry_of s a i) (widest_of s a)) c.loop-at.at _ _ _ c.loop-at.invariant
    (c.in_ok-push_list.ensures ∙ ap (λ w. string_bytes c.loop-at.text ++ line_text (entry_of s a c.loop-at.at) w) c.widest-width.ensures)
