use Rattle.std.proofs.Common.{ℕ, length, arith}
use Rattle.std.proofs.lemmas.List.FromFn.{fill_by_all}
use Rattle.plain.specs.Machine.{byte_below}
use Rattle.engine.specs.Packing.{digits_of}
use Rattle.engine.proofs.packing.pack.Goals as goal

pub returns : goal.returns
returns c =
    let f = λ (i : ℕ). byte_below (length c.args.records.now) (digits_of c.args.records.now) i 8 in
    fill_by_all f c.loop-i.output (length c.args.output.now) 0 (omega arith) (λ k l. c.loop-i.invariant k (omega arith))
