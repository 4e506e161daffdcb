use Rattle.std.proofs.Common.{◌≡◌, vec_items, ap, ◌∙◌, w16, SFits, to_z, of_z, rules}
use Rattle.std.proofs.lemmas.Int.{to_z-of_z}
use Rattle.noise.specs.Lawfuls.{tabled_lawful}
use Rattle.noise.specs.Sources.{tabled}
use Rattle.noise.proofs.table.TableNoise.at.Goals as goal

pub returns : goal.returns
returns c =
    let t = c.args.self.now in
    let law = tabled_lawful (vec_items t.entries) t.good in
    let f : SFits w16 c.entry_at.result = search rules in
    let e : to_z w16 (of_z w16 c.entry_at.result) ≡ tabled (vec_items t.entries) c.args.round c.args.bit = to_z-of_z w16 c.entry_at.result f ∙ c.entry_at.ensures ∙ ap (λ xs. tabled xs c.args.round c.args.bit) c.deref.ensures.value in
    record { value = e; low = rw e (law.low c.args.round c.args.bit); high = rw e (law.high c.args.round c.args.bit) }
