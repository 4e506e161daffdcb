use Rattle.acceptance.proofs.Words.{ones_are_codeword}
use Rattle.acceptance.proofs.given.codeword.Goals as goal

pub returns-in_err-collect-clause-even : goal.returns-in_err-collect-clause-even
returns-in_err-collect-clause-even c = ones_are_codeword

pub returns-clause-even : goal.returns-clause-even
returns-clause-even c = ones_are_codeword
