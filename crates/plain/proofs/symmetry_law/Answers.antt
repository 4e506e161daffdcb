use Rattle.plain.proofs.Imaging.{symmetry_law}
use Rattle.plain.proofs.symmetry_law.Goals as goal

pub returns : goal.returns
returns g c = symmetry_law _ _
