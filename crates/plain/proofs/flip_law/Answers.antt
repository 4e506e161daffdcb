use Rattle.plain.proofs.FlipLaw.{flip_law}
use Rattle.plain.proofs.flip_law.Goals as goal

pub returns : goal.returns
returns c = flip_law
