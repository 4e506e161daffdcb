use Rattle.std.proofs.Common.{rules}
use Rattle.engine.specs.Turns.{memory}
use Rattle.engine.proofs.Between.{flip_exact}
use Rattle.engine.proofs.weighted.Weighted.flip.Goals as goal

pub returns-clause-exact : goal.returns-clause-exact
returns-clause-exact g c = flip_exact (g.C.Code.answers c.args.self.now.code.now) c.args.k c.args.self.now.weight (memory c.args.records.now c.args.signs.now) c.args.objective _ _ (search rules) (search rules)

pub returns-in_default-clause-exact : goal.returns-in_default-clause-exact
returns-in_default-clause-exact g c = flip_exact (g.C.Code.answers c.args.self.now.code.now) c.args.k c.args.self.now.weight (memory c.args.records.now c.args.signs.now) c.args.objective _ _ (search rules) (search rules)
