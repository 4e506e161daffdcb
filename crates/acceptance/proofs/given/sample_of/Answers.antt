use Rattle.std.proofs.Common.{refl}
use lib.Ieee.{eq, neg, of_bits}
use Rattle.acceptance.proofs.given.sample_of.Goals as goal

pub returns-in-0-to-12 : goal.returns-in-0-to-12
unfolding eq neg of_bits
returns-in-0-to-12 c = refl

pub returns-in-13-to-19 : goal.returns-in-13-to-19
unfolding eq neg of_bits
returns-in-13-to-19 c = refl

pub returns-in-20-to-99 : goal.returns-in-20-to-99
unfolding eq neg of_bits
returns-in-20-to-99 c = refl

pub returns-in-100-to-179 : goal.returns-in-100-to-179
unfolding eq neg of_bits
returns-in-100-to-179 c = refl

pub returns-in_default : goal.returns-in_default
unfolding eq neg of_bits
returns-in_default c = refl
