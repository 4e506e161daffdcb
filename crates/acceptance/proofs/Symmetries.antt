-- From what a trial ensures to what both sides come to.
use Rattle.std.proofs.Common.{◌≡◌, IfOk, Ok, Err, Result, refl, MatchResult}
use Rattle.faults.specs.declared.Fault.{Fault}
use Rattle.rules.specs.Meaning.{RuleMeaning, Alike}
use Rattle.decoder.specs.declared.replaying.Replayed.{Replayed}
use Rattle.decoder.specs.Replays.{Lent}
use Rattle.decoder.specs.Trials.{SameOutcome}
use Rattle.acceptance.specs.Frames.{pairs, is_one}
use Rattle.acceptance.specs.Sides.{SameSides}

-- of what both come to, the answers
pub same_sides : {S T : Type 0} (l : Lent S) (l' : Lent T) (r r' : Result Replayed Fault) → SameOutcome is_one pairs l l' r r' → SameSides r r'
same_sides l l' (Ok d) (Ok d') h = h.answered
same_sides l l' (Ok d) (Err e) h = h
same_sides l l' (Err e) (Ok d) h = h
same_sides l l' (Err e) (Err e') h = h

-- one clause of a result at its value, and another at its fault
pub value_and_fault : {X E : Type 0} (r : Result X E) (P Q R : X → Type 0) (F : E → Type 0) → MatchResult r P F → IfOk r Q → ((x : X) → Q x → R x) → MatchResult r R F
value_and_fault (Ok x) P Q R F p q f = f x q
value_and_fault (Err e) P Q R F p q f = p

-- a clause whose premises are met
pub premises_met : {X E : Type 0} (r : Result X E) (I A B : Type 0) (P : X → Type 0) (F : E → Type 0) → MatchResult r (λ x. I → A → B → P x) F → A → B → IfOk r (λ x. I → P x)
premises_met (Ok x) I A B P F h a b = λ i. h i a b
premises_met (Err e) I A B P F h a b = tt

-- equal rules are alike
pub alike_same : {S : Type 0} (m n : RuleMeaning S) → m ≡ n → Alike m n
alike_same m n e = rw e (record { agree = λ ts score lowest. refl })
