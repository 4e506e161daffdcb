use Rattle.plain.proofs.Ending.{verdict_law}
use Rattle.plain.proofs.verdict_law.Goals as goal

pub returns : goal.returns
returns g c = verdict_law _
