-- A chosen rule is alike to the one that it holds. Assumes nothing.
use Rattle.rules.specs.declared.chosen.Chosen.{Chosen}
use Rattle.rules.specs.declared.chosen.Chosen.TheVariants.{Single as OfSingle, Multi as OfMulti, Switch as OfSwitch}
use Rattle.rules.specs.Chosen.{meaning_of}
use Rattle.rules.specs.Kinds.{single, multi, switch}
use Rattle.rules.specs.Meaning.{Alike}

abbrev pub AlikeToHeld : Chosen → Type 0
AlikeToHeld (OfSingle r) = Alike (meaning_of (OfSingle r)) single
AlikeToHeld (OfMulti r) = Alike (meaning_of (OfMulti r)) (multi r.threshold)
AlikeToHeld (OfSwitch r) = Alike (meaning_of (OfSwitch r)) (switch r.multi.threshold)

abbrev pub ChosenAlike : Type 0
ChosenAlike = (c : Chosen) → AlikeToHeld c
