use Rattle.std.proofs.Common.{ℕ, ◌+ℤ◌, rules, refl}
use Rattle.std.specs.Int.{saturate_to_bits}
use Rattle.std.proofs.lemmas.Iterator.{YieldsList-from_slice}
use Rattle.std.proofs.lemmas.Iterator.Consumers.{YieldsList-from_enumerate}
use Rattle.engine.specs.declared.bit.Bit.{Bit}
use Rattle.engine.specs.Sweeps.{sum_at}
use Rattle.engine.proofs.Lows.{found_is}
use Rattle.engine.proofs.sweeping.Picker.lowest.Goals as goal

pub returns : goal.returns
returns g c =
    let noise = g.N.Noise.noise c.args.self.now.noise.now c.args.self.now.round in
    found_is _ (λ (p : ℕ × Bit). saturate_to_bits 15 (p.1.score +ℤ noise p.0)) (λ x r q k. search rules) (sum_at noise c.args.records.now) c.args.records.now c.min_by_key.result c.map_or.result (λ i l. refl)
    (YieldsList-from_enumerate (YieldsList-from_slice c.args.records.now cc) cc) c.min_by_key.ensures.ran (search rules)
