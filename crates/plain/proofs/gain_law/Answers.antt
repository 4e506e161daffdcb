use Rattle.plain.proofs.Gaining.{gain_law}
use Rattle.plain.proofs.gain_law.Goals as goal

pub returns : goal.returns
returns g c = gain_law _
