-- What a chosen rule means: that of the rule that it holds, over one type of states. Assumes nothing.
use Rattle.rules.specs.declared.chosen.Chosen.{Chosen}
use Rattle.rules.specs.declared.chosen.Chosen.TheVariants.{Single as OfSingle, Multi as OfMulti, Switch as OfSwitch}
use Rattle.rules.specs.declared.mode.Mode.{Mode}
use Rattle.rules.specs.declared.mode.Mode.TheVariants.{Many}
use Rattle.rules.specs.Kinds.{single, multi, switch}
use Rattle.rules.specs.Meaning.{RuleMeaning}

-- a rule with one state, over the modes
abbrev pub still : RuleMeaning (Unit {0}) → RuleMeaning Mode
still m = record { first = Many; says = λ s score lowest. m.says tt score lowest; next = λ s before after. s }

abbrev pub meaning_of : Chosen → RuleMeaning Mode
meaning_of (OfSingle r) = still single
meaning_of (OfMulti r) = still (multi r.threshold)
meaning_of (OfSwitch r) = switch r.multi.threshold

abbrev pub state_of : Chosen → Mode
state_of (OfSingle r) = Many
state_of (OfMulti r) = Many
state_of (OfSwitch r) = r.mode
