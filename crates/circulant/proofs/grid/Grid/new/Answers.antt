use Rattle.std.proofs.Common.{sym, arith}
use Rattle.circulant.proofs.Fitting.{factor_le, fitted}
use Rattle.circulant.proofs.grid.Grid.new.Goals as goal

pub invariant_of-result : goal.invariant_of-result
invariant_of-result c =
    let f = fitted c.args.rows c.args.columns c.args.size c.args.count (sym c.if-not-grid_fits.ensures) in
    record {
      some = f.some;
      small = f.small;
      wide = omega (arith, factor_le c.args.columns c.args.size f.some, f.few_bits);
      high = omega (arith, factor_le c.args.rows c.args.size f.some, f.few_checks);
      bits = f.few_bits;
      checks = f.few_checks;
    }
