use Rattle.std.proofs.Common.{map, vec_items, ap, ◌∙◌}
use Rattle.std.proofs.lemmas.List.{map_push}
use Rattle.decoder.specs.Replays.{unpacked}
use Rattle.decoder.proofs.Going.{going_on, going_all}
use Rattle.decoder.proofs.replaying.perform_all.Goals as goal

pub loop-call-preserved : goal.loop-call-preserved
loop-call-preserved g c = (
  c.perform.ensures.meaning ∙ c.loop-call.invariant.0,
  going_on _ _ _ _ _ c.loop-call.call-index (map (unpacked vec_items) (vec_items c.loop-call.answers)) _ _
      c.loop-call.invariant.1 c.loop-call-test.true _ c.loop-call.invariant.0
      (unpacked vec_items c.in_ok-perform.field-0) _ _
      c.in_ok-perform.ensures.all
      (ap (map (unpacked vec_items)) c.in_ok-push.ensures.items ∙ map_push (unpacked vec_items) (vec_items c.loop-call.answers) c.in_ok-perform.field-0),
)

pub returns : goal.returns
returns g c = record { all = going_all _ _ _ _ _ c.loop-call.call-index _ _ c.loop-call.invariant.1 c.loop-call-test.false; meaning = c.loop-call.invariant.0 }
