-- A counted round turns over exactly the bits that the rule says yes to.
use Rattle.std.proofs.Common.{◌≡◌, ℕ, zero, suc, ◌<◌, ◌≤◌, Bool, true, false, not, refl, ap, ◌∙◌, ⊎_elim, arith}
use Rattle.std.proofs.lemmas.Bool.{cases_eq, eq-eqb, ne_eqb}
use Rattle.codes.specs.Pairs.{count_below}
use Rattle.plain.specs.declared.call.Answer.TheVariants.{Flipped}
use Rattle.plain.specs.declared.call.Call.TheVariants.{Round}
use Rattle.plain.specs.Laws.{Picks, PicksLaw}
use Rattle.plain.specs.Machine.{Frame, State, opened, flip_set, picks, round_made, stops, Step, answers_with, step, state_after}
use Rattle.plain.specs.Mirror.{turned_at}
use Rattle.plain.specs.Turning.{turn}
use Rattle.plain.proofs.Keeping.{either}

-- ---- one bit
turn_here : (digit : ℕ → Bool) (n k : ℕ) → k ≡ n → turn n digit k ≡ not (digit k)
turn_here digit n k e = rw (eq-eqb k n e)

turn_other : (digit : ℕ → Bool) (n k : ℕ) → (k ≡ n → ⊥) → turn n digit k ≡ digit k
turn_other digit n k ne = rw (ne_eqb k n ne)

-- a bit in the set, and one that is not
turned_in_lem : (set digit : ℕ → Bool) (k : ℕ) → set k ≡ true → not (digit k) ≡ turned_at set digit k
turned_in_lem set digit k e = rw e

turned_out : (set digit : ℕ → Bool) (k : ℕ) → set k ≡ false → digit k ≡ turned_at set digit k
turned_out set digit k e = rw e

-- ---- the bits of a set
module _ {S : Type 0} (f : Frame S) (set : ℕ → Bool) (s : State S) where
  -- from n on, every digit stays
  set_past : (n k : ℕ) → n ≤ k → (flip_set f set n s).digits k ≡ s.digits k
  set_past zero k l = refl
  set_past (suc n) k l =
      let r = set_past n k (omega arith) in
      either (λ (x : State S). x.digits k ≡ s.digits k) (set n) _ _ (λ e. turn_other (flip_set f set n s).digits n k (omega arith) ∙ r) (λ e. r)

  -- below n, exactly the bits of the set are turned over
  set_turned : (n k : ℕ) → k < n → (flip_set f set n s).digits k ≡ turned_at set s.digits k
  set_turned zero k l = absurd (omega arith)
  set_turned (suc n) k l =
      ⊎_elim
      (λ (here : k ≡ n).
      let r = set_past n k (omega arith) in
      either (λ (x : State S). x.digits k ≡ turned_at set s.digits k) (set n) _ _
      (λ e. turn_here (flip_set f set n s).digits n k here ∙ ap not r ∙ turned_in_lem set s.digits k (ap set here ∙ e))
      (λ e. r ∙ turned_out set s.digits k (ap set here ∙ e)))
      (λ (other : k ≡ n → ⊥).
      let r = set_turned n k (omega arith) in
      either (λ (x : State S). x.digits k ≡ turned_at set s.digits k) (set n) _ _ (λ e. turn_other (flip_set f set n s).digits n k other ∙ r) (λ e. r))
      (cases_eq k n)

-- ---- a round that does not stop is counted
goes_on : {S : Type 0} (f : Frame S) (s : State S) → stops f s ≡ false → step f Round s ≡ answers_with (Flipped (count_below f.setting.code.bits (picks f s))) (round_made f s)
goes_on f s e = rw e

pub picks_at : {S : Type 0} (f : Frame S) (s : State S) → Picks f s
picks_at {S} f s = record {
  turned = λ e k l. ap (λ (x : Step S). x.state.digits k) (goes_on f s e) ∙ set_turned f (picks f s) s f.setting.code.bits k l;
  answer = λ e. ap (λ (x : Step S). x.answer) (goes_on f s e);
  counted = λ e. ap (λ (x : Step S). x.state.rounds) (goes_on f s e);
  told = λ e. rw (goes_on f s e);
}

pub picks_law : (S : Type 0) → PicksLaw S
picks_law S f cs = picks_at f (state_after f cs (opened f))
