-- A chosen rule is alike to the one that it holds.
use Rattle.std.proofs.Common.{refl}
use Rattle.rules.specs.declared.chosen.Chosen.TheVariants.{Single as OfSingle, Multi as OfMulti, Switch as OfSwitch}
use Rattle.rules.specs.Chosen.{still}
use Rattle.rules.specs.Laws.{ChosenAlike}
use Rattle.rules.specs.Meaning.{RuleMeaning, Alike}

still_alike : (m : RuleMeaning (Unit {0})) → Alike (still m) m
still_alike m = record { agree = λ ts score lowest. refl }

pub chosen_alike : ChosenAlike
chosen_alike (OfSingle r) = still_alike _
chosen_alike (OfMulti r) = still_alike _
chosen_alike (OfSwitch r) = record { agree = λ ts score lowest. refl }
