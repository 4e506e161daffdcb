use Rattle.std.proofs.Common.{sym, ap, ◌∙◌}
use Rattle.rules.specs.Chosen.{meaning_of}
use Rattle.rules.proofs.chosen.ChosenRule.restart.Goals as goal

pub returns-in-Switch-clause-meaning : goal.returns-in-Switch-clause-meaning
returns-in-Switch-clause-meaning c = c.restart-in-Switch.ensures.meaning ∙ ap meaning_of (sym c.in-Switch.is)
