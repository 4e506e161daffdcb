use Rattle.std.proofs.Common.{◌≡◌, ◌+◌, ◌*◌, sym, ◌∙◌, arith}
use Rattle.codes.proofs.Crossed.{made_as}
use Rattle.codes.proofs.Limiting.{limits}
use Rattle.codes.proofs.product.Product.new.Goals as goal

-- counts that fit did not saturate
pub returns : goal.returns
returns g c =
    let fit = sym c.sizes_fit.ensures ∙ c.if-not-sizes_fit.false in
    let z = limits c.saturating_mul-bits.result c.saturating_add-checks.result fit in
    let bits : c.saturating_mul-bits.result ≡ c.bits-rows.result * c.bits-columns.result = omega (arith, z.1) in
    let checks : c.saturating_add-checks.result ≡ c.bits-rows.result * c.checks-acrosses.result + c.checks-downs.result * c.bits-columns.result = omega (arith, z.3) in
    made_as (g.A.Code.answers c.args.first) (g.B.Code.answers c.args.second) c.bits-rows.result c.bits-columns.result c.checks-downs.result c.checks-acrosses.result c.saturating_add-widest.result
    c.bits-rows.ensures
    c.bits-columns.ensures
    c.checks-downs.ensures
    c.checks-acrosses.ensures
    (omega arith)
    (rw (bits, checks) at fit)
    (omega arith)
