use Rattle.plain.proofs.Picking.{picks_law}
use Rattle.plain.proofs.picks_law.Goals as goal

pub returns : goal.returns
returns g c = picks_law _
