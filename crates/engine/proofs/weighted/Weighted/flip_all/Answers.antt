use Rattle.std.proofs.Common.{ap, ◌∙◌, add-one, w32, SFits, rules}
use Rattle.std.proofs.lemmas.Int.{to_z-of_z}
use Rattle.engine.specs.Opening.{whole}
use Rattle.engine.specs.Sweeps.{flip_marked}
use Rattle.engine.proofs.weighted.Weighted.flip_all.Goals as goal

pub loop-k-preserved : goal.loop-k-preserved
loop-k-preserved g c =
    let fits : SFits w32 c.flip_marked-now.result = search rules in
    rw add-one (
    ap (whole c.flip_marked-now.new.records c.flip_marked-now.new.signs) (to_z-of_z w32 c.flip_marked-now.result fits)
    ∙ c.flip_marked-now.ensures
    ∙ ap (flip_marked (g.C.Code.answers c.args.self.now.code.now) c.args.self.now.weight c.loop-k.k) c.loop-k.invariant)
