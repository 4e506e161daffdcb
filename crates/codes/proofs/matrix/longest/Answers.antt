use Rattle.std.proofs.Common.{◌≡◌, ◌<◌, max, length, sym, ap, ap₂, ◌∙◌, arith, rules}
use Rattle.std.specs.Prelude.{unwrap_or}
use Rattle.codes.proofs.Sizes.{list_at, size_in_lem, longest_more}
use Rattle.codes.proofs.matrix.longest.Goals as goal

pub loop-at-preserved : goal.loop-at-preserved
loop-at-preserved g c =
    let h : c.loop-at.at < length (g.L.AsLists.lists c.args.lists.now) = omega arith in
    let size = size_in_lem (g.L.AsLists.lists c.args.lists.now) c.loop-at.at h in
    let n : c.unwrap_or.result ≡ length (list_at (g.L.AsLists.lists c.args.lists.now) c.loop-at.at) = ◌∙◌ {b = unwrap_or c.size.result 0} c.unwrap_or.ensures (ap (λ o. unwrap_or o 0) (c.size.ensures ∙ size)) in
    let most : c.max-most.result ≡ max c.loop-at.most c.unwrap_or.result = search rules in
    most ∙ ap₂ max c.loop-at.invariant n ∙ sym (longest_more (g.L.AsLists.lists c.args.lists.now) c.loop-at.at _ size)
