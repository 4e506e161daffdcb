use Rattle.std.proofs.Common.{rules}
use Rattle.engine.specs.Opening.{whole}
use Rattle.engine.proofs.Opens.{fill_exact, fill_unmarked}
use Rattle.engine.proofs.weighted.Weighted.fill.Goals as goal

pub returns-clause-exact : goal.returns-clause-exact
returns-clause-exact g c = fill_exact (g.C.Code.answers c.args.self.now.code.now) c.args.self.now.weight c.args.levels.now c.args.records.now c.args.signs.now _ (search rules)

pub returns-clause-unmarked : goal.returns-clause-unmarked
returns-clause-unmarked g c = fill_unmarked (g.C.Code.answers c.args.self.now.code.now) c.args.self.now.weight c.args.levels.now c.args.records.now c.args.signs.now (whole c.open_checks.new.records c.open_checks.new.signs c.open_checks.result) (search rules)
