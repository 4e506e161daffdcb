-- That the code is made, unless there is no memory for it.
use Rattle.std.proofs.Common.{◌≡◌, ℕ, List, None, Ok, Err, Option, Result, refl, ap, ◌∙◌, subst, inl, inr, arith, MatchResult}
use Rattle.faults.specs.declared.Fault.{Fault}
use Rattle.faults.specs.declared.Fault.TheVariants.{NoMemory}
use Rattle.faults.specs.Rows.{Row, row_of, Refused}
use Rattle.faults.proofs.Memory.{memory_row}
use Rattle.codes.specs.Answers.{Answers}
use Rattle.codes.specs.Lawful.{Lawful}
use Rattle.codes.specs.Pairs.{Pairs}
use Rattle.listed.specs.declared.pair.Pair.{Pair}
use Rattle.listed.specs.Listing.{listed_pairs, list_fault, MadeListed}
use Rattle.seven.specs.Seven.{seven_by_check, seven_by_bit, seven_pairs}

no_fault : list_fault 7 3 seven_by_check seven_by_bit ≡ None
no_fault = refl

-- what is refused for no fault of the table
no_memory : (o : Option Row) (e : Fault) → o ≡ None → Refused o (row_of e) → e ≡ NoMemory
no_memory o e none (inl h) = let z : ◌≡◌ {A = ℕ} 0 1 = cc in absurd (omega arith)
no_memory o e none (inr h) = memory_row e h.1

pub made_seven : {X : Type 0} (r : Result X Fault) (f : X → Answers) (xs ys : List Pair) → xs ≡ seven_by_check → ys ≡ seven_by_bit → MatchResult r (λ l. MadeListed 7 3 xs ys (f l)) (λ e. Refused (list_fault 7 3 xs ys) (row_of e)) → MatchResult r (λ l. Lawful (f l) seven_pairs) (λ e. e ≡ NoMemory)
made_seven (Ok l) f xs ys ex ey h = subst (λ (p : Pairs). Lawful (f l) p) (ap (listed_pairs 7 3) ex) h.lawful
made_seven (Err e) f xs ys ex ey h = no_memory (list_fault 7 3 xs ys) e (ap (λ (p : List Pair). list_fault 7 3 p ys) ex ∙ ap (list_fault 7 3 seven_by_check) ey ∙ no_fault) h
