use Rattle.rules.proofs.Alikes.{chosen_alike}
use Rattle.rules.proofs.laws.chosen_alike.Goals as goal

pub returns : goal.returns
returns c = chosen_alike
