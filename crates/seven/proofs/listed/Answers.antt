use Rattle.listed.specs.Means.{listed_of}
use Rattle.seven.proofs.Making.{made_seven}
use Rattle.seven.proofs.listed.Goals as goal

pub returns : goal.returns
returns c = made_seven c.new.result listed_of _ _ c.by_check.ensures c.by_bit.ensures c.new.ensures
