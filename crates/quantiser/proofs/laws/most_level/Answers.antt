use Rattle.std.proofs.Common.{rules}
use Rattle.quantiser.proofs.Growth.{never_shrinks}
use Rattle.quantiser.proofs.Signs.{mirrored, odd_and_small}
use Rattle.quantiser.proofs.Steps.{limits_are, never_fall}
use Rattle.quantiser.proofs.Zeros.{zero_is_one}
use Rattle.quantiser.proofs.laws.most_level.Goals as goal

pub returns : goal.returns
returns c =
    record {
      value = search rules;
      mirrored = mirrored;
      zero = zero_is_one;
      odd = odd_and_small;
      grows = never_shrinks;
      limits = limits_are;
      rise = never_fall;
    }
