use Rattle.std.proofs.Common.{◌++◌, [], ◌∷◌, map, sym, ap, ◌∙◌, arith}
use Rattle.std.specs.List.{range_with_len}
use Rattle.std.proofs.lemmas.List.FromFn.{map-range_with_len_more}
use Rattle.codes.specs.Held.{open_in}
use Rattle.listed.specs.Order.{row_of}
use Rattle.listed.proofs.order.Rising.table.Goals as goal

pub loop-at-preserved : goal.loop-at-preserved
loop-at-preserved c =
    let row = row_of c.args.self.now.side c.args.self.now.pairs.now in
    let more = map-range_with_len_more row 0 c.loop-at.at c.loop-at.at (omega arith) in
    let added = c.in_ok-add_row.ensures.1 ∙ ap (λ o. o ++ row c.loop-at.at) c.loop-at.invariant.1 in (
      c.in_ok-close.ensures.0 ∙ ap (λ l. l ++ open_in c.add_row.new.lists ∷ []) (c.in_ok-add_row.ensures.0 ∙ c.loop-at.invariant.0) ∙ ap (λ o. map row (range_with_len 0 c.loop-at.at) ++ o ∷ []) added ∙ sym more,
      c.in_ok-close.ensures.1,
    )
