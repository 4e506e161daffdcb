use Rattle.plain.proofs.Bounding.{bounds_law}
use Rattle.plain.proofs.bounds_law.Goals as goal

pub returns : goal.returns
returns c = bounds_law
