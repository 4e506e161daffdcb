use Rattle.std.proofs.Common.{length, sym, ◌∙◌, add-zero, add-one, arith}
use Rattle.engine.specs.Packing.{digits_of}
use Rattle.engine.proofs.Packs.{byte_fits, place_is}
use Rattle.engine.proofs.packing.byte_at.Goals as goal
use Rattle.engine.proofs.packing.byte_at.Goals.{then-is_one, else-is_one}

pub overflow_add-byte : goal.overflow_add-byte
overflow_add-byte c =
    let fits = byte_fits (length c.args.records.now) (digits_of c.args.records.now) c.args.i c.loop-j.j (omega arith) in
    omega (arith, c.loop-j.invariant)

pub loop-j-preserved : goal.loop-j-preserved
loop-j-preserved c =
    let place = place_is c.loop-j.j (omega arith) in
    elim c.if-is_one.branch [ then-is_one w ↦ rw (add-one, ← w.if-is_one.ensures) (cc w.byte-is) | else-is_one w ↦ rw (add-one, ← w.if-is_one.ensures) (w.byte-is ∙ c.loop-j.invariant ∙ sym (add-zero _)) ]
