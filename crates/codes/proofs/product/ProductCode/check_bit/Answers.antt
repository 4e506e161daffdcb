use Rattle.std.proofs.Common.{◌*◌, ◌/◌, ◌<◌, arith}
use Rattle.codes.proofs.Places.{quotient, row_ends}
use Rattle.codes.proofs.product.ProductCode.check_bit.Goals as goal

pub in_row-requires : goal.in_row-requires
in_row-requires g c =
    let s = c.args.self.now.shape in
    let h : c.args.check < s.rows * s.acrosses = omega arith in
    omega (arith, row_ends (c.args.check / s.acrosses) s.rows s.columns (quotient s.rows s.acrosses c.args.check h))
