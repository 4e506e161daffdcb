use Rattle.std.proofs.Common.{◌*◌, ◌∙◌, None, sym, ap, arith}
use Rattle.std.specs.Option.{option_map}
use Rattle.faults.specs.First.{fault_at}
use Rattle.faults.specs.Rows.{C}
use Rattle.circulant.proofs.Circling.{found_fits, sound, wrong_is}
use Rattle.circulant.proofs.cells.Cells.check_side.Goals as goal

pub overflow_mul-result : goal.overflow_mul-result
overflow_mul-result c = omega (arith, found_fits _ c.args.side c.args.self.now.grid c.in-Some.number (sym c.first_wrong.ensures ∙ c.in-Some.is))

pub returns-in-Some : goal.returns-in-Some
returns-in-Some c =
    let z = c.args.self.now in
    ap (λ o. fault_at (C 4) o None) (wrong_is z.grid z.cells.now (sound z.grid z.cells.now z.many z.good) c.args.side c.args.least c.args.most ∙ ap (option_map (λ m. m * z.grid.size)) (sym c.first_wrong.ensures ∙ c.in-Some.is))

pub returns-in-None : goal.returns-in-None
returns-in-None c =
    let z = c.args.self.now in
    wrong_is z.grid z.cells.now (sound z.grid z.cells.now z.many z.good) c.args.side c.args.least c.args.most ∙ ap (option_map (λ m. m * z.grid.size)) (sym c.first_wrong.ensures ∙ c.in-None.is)
