-- The answers that a report holds. Assumes nothing.
use Rattle.std.specs.Prelude.{ℕ, List, [], ◌∷◌}
use Rattle.plain.specs.declared.call.Answer.{Answer}
use Rattle.plain.specs.declared.call.Answer.TheVariants.{Ended, Weighed, Packed}
use Rattle.receiving.specs.declared.report.Report.{Report}

abbrev pub answers_of_report : Report → List (Answer (List ℕ))
answers_of_report r = Ended r.ended.verdict r.ended.rounds ∷ Weighed r.weights.score r.weights.objective r.weights.gain ∷ Packed r.bytes ∷ []
