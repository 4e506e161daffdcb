use Rattle.std.proofs.Common.{◌+◌, length, map, vec_items, sym, subst, arith, rules}
use Rattle.std.proofs.lemmas.Bool.Decides.{not_from_Decides}
use Rattle.std.proofs.lemmas.List.{length_push}
use Rattle.std.proofs.lemmas.Slice.Zip.{zip_turn}
use Rattle.plain.specs.declared.call.Answer.TheVariants.{Unmet}
use Rattle.decoder.specs.Replays.{unpacked}
use Rattle.acceptance.specs.Comparing.{Tallied, Turned, TurnedAt}
use Rattle.acceptance.proofs.Sides.{both_decide}
use Rattle.acceptance.proofs.Tallies.{tallied_one, tallied_none}
use Rattle.acceptance.proofs.comparing.turned_answers.Goals as goal

pub loop-a-preserved-then-turned : goal.loop-a-preserved-then-turned
loop-a-preserved-then-turned c =
    let P = TurnedAt c.args.word.now (map (unpacked vec_items) c.args.first.now) (map (unpacked vec_items) c.args.second.now) in
    let t = zip_turn c.args.first.now c.args.second.now c.loop-a.yielded c.into_iter-a-iterator.result c.loop-a.a-iterator c.next.new.self _ (search rules) (search rules) c.loop-a.yielded_by (c.in-Some.a, c.in-Some.b) c.in-Some.is c.next.ensures.steps in
    let at = both_decide (unpacked vec_items) (Turned c.args.word.now) c.args.first.now c.args.second.now (length c.loop-a.yielded) _ _ (Unmet 0) _ t.0 t.1 (t.2 c.in-Some.a.now) (t.3 c.in-Some.b.now) c.turned.ensures in
    let n = length_push c.loop-a.yielded (c.in-Some.a, c.in-Some.b) in
    (omega (arith, n, c.loop-a.invariant.0), subst (λ k. Tallied P k (c.loop-a.count + 1)) (sym n) (tallied_one P _ _ c.loop-a.invariant.1 (at.0 c.if-turned.true)))

pub loop-a-preserved : goal.loop-a-preserved
loop-a-preserved c =
    let P = TurnedAt c.args.word.now (map (unpacked vec_items) c.args.first.now) (map (unpacked vec_items) c.args.second.now) in
    let t = zip_turn c.args.first.now c.args.second.now c.loop-a.yielded c.into_iter-a-iterator.result c.loop-a.a-iterator c.next.new.self _ (search rules) (search rules) c.loop-a.yielded_by (c.in-Some.a, c.in-Some.b) c.in-Some.is c.next.ensures.steps in
    let at = both_decide (unpacked vec_items) (Turned c.args.word.now) c.args.first.now c.args.second.now (length c.loop-a.yielded) _ _ (Unmet 0) _ t.0 t.1 (t.2 c.in-Some.a.now) (t.3 c.in-Some.b.now) c.turned.ensures in
    let n = length_push c.loop-a.yielded (c.in-Some.a, c.in-Some.b) in
    (omega (arith, n, c.loop-a.invariant.0), subst (λ k. Tallied P k c.loop-a.count) (sym n) (tallied_none P _ _ c.loop-a.invariant.1 (not_from_Decides _ at c.if-turned.false)))
