use Rattle.std.proofs.Common.{◌≡◌, ◌++◌, string_bytes, ◌∙◌}
use Rattle.std.proofs.lemmas.Result.{IfOk-weaker}
use Rattle.codes.specs.declared.side.Side.TheVariants.{ByCheck, ByBit}
use Rattle.alist.specs.Text.{pair_text, widest_of, degrees_text, lists_text}
use Rattle.alist.proofs.Lines.{six_parts}
use Rattle.alist.proofs.text.push_alist.Goals as goal

pub returns : goal.returns
returns g c =
    let a = g.C.Code.answers c.args.code.now in
    let sizes : string_bytes c.push_pair.new.text ≡ string_bytes c.args.text.now ++ pair_text a.bits a.checks = c.in_ok-push_pair.ensures ∙ (λ i. string_bytes c.args.text.now ++ pair_text (c.count.ensures i) (c.count-2.ensures i)) in
    let widest : string_bytes c.push_pair-2.new.text ≡ string_bytes c.push_pair.new.text ++ pair_text (widest_of ByBit a) (widest_of ByCheck a) = c.in_ok-push_pair-2.ensures ∙ (λ i. string_bytes c.push_pair.new.text ++ pair_text (c.widest.ensures i) (c.widest-2.ensures i)) in
    IfOk-weaker c.push_lists-2.result _ _
    (λ u h.
    six_parts (string_bytes c.args.text.now) (pair_text a.bits a.checks) (pair_text (widest_of ByBit a) (widest_of ByCheck a)) (degrees_text ByBit a) (degrees_text ByCheck a) (lists_text ByBit a) (lists_text ByCheck a) _ _ _ _ _ _
    sizes
    widest
    c.in_ok-push_degrees.ensures
    c.in_ok-push_degrees-2.ensures
    c.in_ok-push_lists.ensures
    h)
    c.push_lists-2.ensures
