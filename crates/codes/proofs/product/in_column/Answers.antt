use Rattle.std.proofs.Common.{◌<◌, arith}
use Rattle.std.proofs.lemmas.Nat.{mul-add-lt}
use Rattle.codes.proofs.product.in_column.Goals as goal

pub overflow_add-result-in-Some : goal.overflow_add-result-in-Some
overflow_add-result-in-Some c =
    let h : c.in-Some.row < c.args.height = omega arith in
    let k : c.args.column < c.args.width = omega arith in
    omega (arith, mul-add-lt c.in-Some.row c.args.width c.args.column c.args.height h k)
