use Rattle.std.proofs.Common.{◌≡◌, ◌<◌, ◌++◌, [], ◌∷◌, map, take, get_or, refl, sym, ap, ◌∙◌, arith, append_assoc}
use Rattle.std.proofs.lemmas.List.{append-nil, map_more, take_all}
use Rattle.codes.specs.Held.{open_in}
use Rattle.codes.specs.Limits.{stride}
use Rattle.listed.specs.Order.{blank, minor_of}
use Rattle.listed.proofs.Searched.{minors_small}
use Rattle.listed.proofs.order.Rising.add_row.Goals as goal

pub loop-p-init : goal.loop-p-init
loop-p-init c = (refl, sym (append-nil (open_in c.args.lists.now)))

pub overflow_cast-number : goal.overflow_cast-number
overflow_cast-number c =
    let small : minor_of c.args.self.now.side (get_or c.pairs_of-pairs.result.now c.loop-p.p-index blank) < stride = rw c.pairs_of-pairs.ensures (minors_small c.args.self.now.side c.args.self.now.pairs.now c.args.at c.loop-p.p-index blank c.args.self.now.rises (rw c.pairs_of-pairs.ensures at c.loop-p-test.true)) in
    let is : c.number.result ≡ minor_of c.args.self.now.side (get_or c.pairs_of-pairs.result.now c.loop-p.p-index blank) = rw c.other-other.ensures at c.number.ensures in
    omega arith

pub loop-p-preserved : goal.loop-p-preserved
loop-p-preserved c =
    let before = open_in c.args.lists.now in
    let row = map (minor_of c.args.self.now.side) (take c.loop-p.p-index c.pairs_of-pairs.result.now) in
    let is : c.number.result ≡ minor_of c.args.self.now.side (get_or c.pairs_of-pairs.result.now c.loop-p.p-index blank) = rw c.other-other.ensures at c.number.ensures in
    let more = map_more (minor_of c.args.self.now.side) c.pairs_of-pairs.result.now c.loop-p.p-index blank c.loop-p-test.true in (
      c.in_ok-add.ensures.0 ∙ c.loop-p.invariant.0,
      c.in_ok-add.ensures.1 ∙ ap (λ o. o ++ c.number.result ∷ []) c.loop-p.invariant.1 ∙ append_assoc before row (c.number.result ∷ []) ∙ ap (λ r. before ++ r) (ap (λ n. row ++ n ∷ []) is ∙ sym more),
    )

pub returns : goal.returns
returns c = (
  c.loop-p.invariant.0,
  c.loop-p.invariant.1 ∙ ap (λ ps. open_in c.args.lists.now ++ map (minor_of c.args.self.now.side) ps) (take_all c.loop-p.p-index c.pairs_of-pairs.result.now c.loop-p-test.false ∙ c.pairs_of-pairs.ensures),
)
