-- The meanings of the single, multi and switch rules, and which thresholds they may have. Assumes nothing.
use Rattle.std.specs.Prelude.{Bool, cond, ◌&&◌, ℤ, negsuc, Some, None, Option, int_le, int_lt}
use Rattle.faults.specs.Rows.{Row, R}
use Rattle.rules.specs.declared.mode.Mode.{Mode}
use Rattle.rules.specs.declared.mode.Mode.TheVariants.{Many, One}
use Rattle.rules.specs.Meaning.{RuleMeaning}

-- ---- thresholds from −128 to −1
abbrev pub least_threshold : ℤ
least_threshold = negsuc 127

abbrev pub most_threshold : ℤ
most_threshold = negsuc 0

abbrev pub threshold_fits : ℤ → Bool
threshold_fits t = int_le least_threshold t && int_le t most_threshold

abbrev pub threshold_fault : ℤ → Option Row
threshold_fault t = cond (threshold_fits t) None (Some (R 1 0))

-- ---- the rules
-- the lowest alone, whatever its score
abbrev pub single : RuleMeaning (Unit {0})
single = record { first = tt; says = λ s score lowest. lowest; next = λ s before after. s }

-- every score below the threshold
abbrev pub multi : ℤ → RuleMeaning (Unit {0})
multi t = record { first = tt; says = λ s score lowest. int_lt score t; next = λ s before after. s }

-- as multi in the mode of many flips, and as single in the mode of one
abbrev pub says_in : ℤ → Mode → ℤ → Bool → Bool
says_in t Many score lowest = int_lt score t
says_in t One score lowest = lowest

-- a round that lowers the objective ends the mode of many flips, and nothing ends that of one
abbrev pub moved : Mode → ℤ → ℤ → Mode
moved Many before after = cond (int_lt after before) One Many
moved One before after = One

abbrev pub switch : ℤ → RuleMeaning Mode
switch t = record { first = Many; says = says_in t; next = moved }
