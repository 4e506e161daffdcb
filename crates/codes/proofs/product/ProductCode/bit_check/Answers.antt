use Rattle.std.proofs.Common.{◌*◌, ◌/◌, ◌<◌, arith}
use Rattle.codes.proofs.Places.{quotient, row_ends}
use Rattle.codes.proofs.product.ProductCode.bit_check.Goals as goal

pub in_row-requires : goal.in_row-requires
in_row-requires g c =
    let s = c.args.self.now.shape in
    let h : c.args.bit < s.rows * s.columns = omega arith in
    omega (arith, row_ends (c.args.bit / s.columns) s.rows s.acrosses (quotient s.rows s.columns c.args.bit h))
