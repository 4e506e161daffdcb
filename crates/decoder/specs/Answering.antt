-- The results of the calls, as answers of the plain machine. Assumes nothing.
use Rattle.std.specs.Prelude.{ℕ, List, ℤ, Ok, Err, Result}
use Rattle.faults.specs.declared.Fault.{Fault}
use Rattle.plain.specs.declared.call.Answer.{Answer}
use Rattle.plain.specs.declared.call.Answer.TheVariants.{Stopped, Flipped, Ended, Toggled, Weighed, Unmet, Packed, Refused}
use Rattle.decoder.specs.declared.frame.Ended.{Ended as EndedIs}
use Rattle.decoder.specs.declared.frame.Turn.{Turn}
use Rattle.decoder.specs.declared.frame.Turn.TheVariants.{Stopped as TurnStopped, Flipped as TurnFlipped}
use Rattle.decoder.specs.declared.frame.Weights.{Weights}

abbrev pub turn_answer : {B : Type 0} → Turn → Answer B
turn_answer (TurnStopped v) = Stopped v
turn_answer (TurnFlipped n) = Flipped n

abbrev pub ended_answer : {B : Type 0} → EndedIs → Answer B
ended_answer r = Ended r.verdict r.rounds

abbrev pub weights_answer : {B : Type 0} → Weights → Answer B
weights_answer x = Weighed x.score x.objective x.gain

-- what a result comes to, or else its fault
abbrev pub answered : {T : Type 0} → (T → Answer (List ℕ)) → Result T Fault → Answer (List ℕ)
answered f (Ok x) = f x
answered f (Err e) = Refused e

abbrev pub round_answer : Result Turn Fault → Answer (List ℕ)
round_answer = answered turn_answer

abbrev pub decode_answer : Result EndedIs Fault → Answer (List ℕ)
decode_answer = answered ended_answer

abbrev pub toggle_answer : Result ℤ Fault → Answer (List ℕ)
toggle_answer = answered Toggled

abbrev pub weigh_answer : Result Weights Fault → Answer (List ℕ)
weigh_answer = answered weights_answer

abbrev pub unmet_answer : Result ℕ Fault → Answer (List ℕ)
unmet_answer = answered Unmet

-- a reading, with the bytes that it left
abbrev pub read_answer : Result (Unit {0}) Fault → List ℕ → Answer (List ℕ)
read_answer r bytes = answered (λ u. Packed bytes) r
