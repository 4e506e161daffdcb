-- The laws of the plain machine over whole runs. Assumes nothing.
use Rattle.std.specs.Prelude.{◌≡◌, ℕ, ◌+◌, ◌<◌, true, false, List, [], ◌∷◌, ℤ, pos, ◌+ℤ◌, ◌-ℤ◌, ◌*ℤ◌, neg_ℤ}
use Rattle.codes.specs.Pairs.{count_below, Codeword}
use Rattle.plain.specs.declared.call.Answer.TheVariants.{Stopped, Flipped, Ended}
use Rattle.plain.specs.declared.call.Call.{Call}
use Rattle.plain.specs.declared.call.Call.TheVariants.{Round, Decode}
use Rattle.plain.specs.declared.call.Verdict.TheVariants.{Decoded, Spent}
use Rattle.plain.specs.Machine.{Frame, State, opened, picks, stops, verdict_of, answers_with, step, state_after}
use Rattle.plain.specs.Mirror.{turned_at}
use Rattle.plain.specs.Scores.{open_digit, objective_of}

-- ---- the gain is minus twice the sum of the flips' scores
abbrev pub sum_of : List ℤ → ℤ
sum_of [] = pos 0
sum_of (x ∷ xs) = x +ℤ sum_of xs

abbrev pub GainLaw : Type 0 → Type 0
GainLaw S = (f : Frame S) (cs : List Call) → objective_of f.setting (state_after f cs (opened f)).digits -ℤ objective_of f.setting (open_digit f.setting) ≡ neg_ℤ (pos 2 *ℤ sum_of (state_after f cs (opened f)).flips)

-- ---- a counted round flips exactly its picks
pub record Picks {S : Type 0} (f : Frame S) (s : State S) : Type 0 where
  -- each bit that the rule says yes to is turned over, and no other
  pub turned : stops f s ≡ false → (k : ℕ) → k < f.setting.code.bits → (step f Round s).state.digits k ≡ turned_at (picks f s) s.digits k
  -- the answer is their number
  pub answer : stops f s ≡ false → (step f Round s).answer ≡ Flipped (count_below f.setting.code.bits (picks f s))
  -- the round is counted, and the rule is told the objectives before and after
  pub counted : stops f s ≡ false → (step f Round s).state.rounds ≡ s.rounds + 1
  pub told : stops f s ≡ false → (step f Round s).state.rule ≡ f.rule.next s.rule (objective_of f.setting s.digits) (objective_of f.setting (step f Round s).state.digits)

abbrev pub PicksLaw : Type 0 → Type 0
PicksLaw S = (f : Frame S) (cs : List Call) → Picks f (state_after f cs (opened f))

-- ---- what the verdicts mean
pub record Verdicts {S : Type 0} (f : Frame S) (s : State S) : Type 0 where
  -- a round that stops changes nothing
  pub still : stops f s ≡ true → step f Round s ≡ answers_with (Stopped (verdict_of f s)) s
  -- it answers decoded exactly when the digits are a codeword, and spent only otherwise, after as many rounds as the limit
  pub round_word : Codeword f.setting.code s.digits → step f Round s ≡ answers_with (Stopped Decoded) s
  pub round_decoded : (step f Round s).answer ≡ Stopped Decoded → Codeword f.setting.code s.digits
  pub round_spent : (step f Round s).answer ≡ Stopped Spent → s.rounds ≡ f.limit
  -- decode ends where a round would stop
  pub ends : stops f (step f Decode s).state ≡ true
  -- it answers decoded exactly when the digits then are a codeword
  pub word : Codeword f.setting.code (step f Decode s).state.digits → (step f Decode s).answer ≡ Ended Decoded (step f Decode s).state.rounds
  pub decoded : (step f Decode s).answer ≡ Ended Decoded (step f Decode s).state.rounds → Codeword f.setting.code (step f Decode s).state.digits
  -- and otherwise spent, with as many rounds as the limit
  pub spent : (Codeword f.setting.code (step f Decode s).state.digits → ⊥) → (step f Decode s).answer ≡ Ended Spent f.limit

abbrev pub VerdictLaw : Type 0 → Type 0
VerdictLaw S = (f : Frame S) (cs : List Call) → Verdicts f (state_after f cs (opened f))
