use Rattle.std.proofs.Common.{refl}
use Rattle.cases.specs.Cases.{Codes, Noise, Seven, Two}
use Rattle.cases.proofs.worked_cases.Goals as goal

codes : Codes
codes = record { circulant = refl; product = refl }

noise : Noise
noise = record { mixes = refl; gives = refl }

seven_bits : Seven
seven_bits = record { first = refl; objective = refl; after_single = refl; answers_single = refl; answers_multi = refl; answers_none = refl; rounds_none = refl; flips_loud = refl; answers_loud = refl }

two_bits : Two
two_bits = record { first = refl; objective = refl; flips = refl; answers_switch = refl }

pub returns : goal.returns
returns g = record { codes = codes; noise = noise; seven_bits = seven_bits; two_bits = two_bits }
