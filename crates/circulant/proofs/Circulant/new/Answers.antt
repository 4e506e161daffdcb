use Rattle.circulant.proofs.Accepting.{made}
use Rattle.circulant.proofs.Circulant.new.Goals as goal

pub returns : goal.returns
returns c =
    let z = c.in_ok-cells.cells in
    rw (c.new-2.ensures, c.in_ok-rows.ensures, c.in_ok-columns.ensures) (made c.args.rows c.args.columns c.args.size c.args.cells.now z.grid z.cells.now c.in_ok-cells.ensures)
