use Rattle.codes.proofs.Agreeing.{lists_agree}
use Rattle.codes.proofs.laws.lists_agree.Goals as goal

pub returns : goal.returns
returns c = lists_agree
