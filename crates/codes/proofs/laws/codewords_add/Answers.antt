use Rattle.codes.proofs.Parity.{zero_is_codeword, codewords_add}
use Rattle.codes.proofs.laws.codewords_add.Goals as goal

pub returns : goal.returns
returns c = record { zero = zero_is_codeword; sum = codewords_add }
