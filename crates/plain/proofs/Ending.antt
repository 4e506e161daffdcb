-- What the verdicts mean.
use Rattle.std.proofs.Common.{◌≡◌, ℕ, zero, suc, ◌+◌, ◌%◌, ◌<◌, ◌≤◌, Bool, true, false, cond, not, ◌&&◌, ◌||◌, eqb, leb, List, pos, sym, refl, ap, ◌∙◌, ⊎_elim, arith, eq-eqb}
use lib.Signed.{lt_z}
use Rattle.std.proofs.lemmas.Bool.{cases_eq, cases_Bool, eqb-true, leb-true, leb-false, le-leb, or_cases, not-false}
use Rattle.codes.specs.Pairs.{Pairs, count_below, ones_in, Codeword}
use Rattle.codes.proofs.Counts.{count_same, count_none}
use Rattle.plain.specs.declared.call.Answer.{Answer}
use Rattle.plain.specs.declared.call.Answer.TheVariants.{Stopped, Flipped, Ended}
use Rattle.plain.specs.declared.call.Call.TheVariants.{Round}
use Rattle.plain.specs.declared.call.Verdict.TheVariants.{Decoded, Spent}
use Rattle.plain.specs.Laws.{Verdicts, VerdictLaw}
use Rattle.plain.specs.Machine.{Frame, State, opened, picks, round_made, all_met, stops, verdict_of, decoded, Step, answers_with, step, state_after}
use Rattle.plain.specs.Scores.{sign_of}
use Rattle.plain.proofs.Even.{value_of, met_of, sign_met, even_count}
use Rattle.plain.proofs.Keeping.{either, Keeps, decode_keeps, run_keeps}

-- ---- met exactly at a codeword
unmet_value : (e : Bool) → lt_z (value_of e) (pos 0) ≡ not e
unmet_value true = refl
unmet_value false = refl

unmet_is : (p : Pairs) (d : ℕ → Bool) (c : ℕ) → lt_z (sign_of p d c) (pos 0) ≡ not (eqb (ones_in p d c % 2) 0)
unmet_is p d c = ap (λ z. lt_z z (pos 0)) (sign_met p d c) ∙ unmet_value (met_of p d c) ∙ ap not (even_count p.bits (λ b. p.holds c b && d b))

one_more : (n : ℕ) (t : Bool) → n + cond t 1 0 ≡ 0 → (n ≡ 0) × (t ≡ false)
one_more n true e = absurd (omega arith)
one_more n false e = (omega arith, refl)

count_zero : (n : ℕ) (f : ℕ → Bool) → count_below n f ≡ 0 → (i : ℕ) → i < n → f i ≡ false
count_zero zero f e i h = absurd (omega arith)
count_zero (suc n) f e i h =
    let b = one_more (count_below n f) (f n) e in
    ⊎_elim
    (λ (same : i ≡ n). ap f same ∙ b.1)
    (λ (other : i ≡ n → ⊥). count_zero n f b.0 i (omega arith))
    (cases_eq i n)

module _ {S : Type 0} (f : Frame S) where
  met_word : (s : State S) → all_met f s ≡ true → Codeword f.setting.code s.digits
  met_word s e c h =
      let z = count_zero f.setting.code.checks (λ c. lt_z (sign_of f.setting.code s.digits c) (pos 0)) (eqb-true _ 0 e) c h in
      eqb-true (ones_in f.setting.code s.digits c % 2) 0 (not-false _ (sym (unmet_is f.setting.code s.digits c) ∙ z))

  word_met : (s : State S) → Codeword f.setting.code s.digits → all_met f s ≡ true
  word_met s w =
      let none = count_same f.setting.code.checks (λ c. lt_z (sign_of f.setting.code s.digits c) (pos 0)) (λ c. false) (λ c h. unmet_is f.setting.code s.digits c ∙ ap not (eq-eqb (ones_in f.setting.code s.digits c % 2) 0 (w c h))) in
      eq-eqb _ 0 (none ∙ count_none f.setting.code.checks)

  -- ---- no more rounds than the limit
  abbrev Few : State S → Type 0
  Few s = s.rounds ≤ f.limit

  or_false : (a b : Bool) → (a || b) ≡ false → b ≡ false
  or_false true b e = let z : ◌≡◌ {A = ℕ} 0 1 = cc in absurd (omega arith)
  or_false false b e = e

  goes_on : (s : State S) → stops f s ≡ false → s.rounds < f.limit
  goes_on s e = leb-false f.limit s.rounds (or_false (all_met f s) (leb f.limit s.rounds) e)

  few_round : (s : State S) → stops f s ≡ false → Few (round_made f s)
  few_round s e = let h = goes_on s e in omega arith

  few_kept : Keeps f Few
  few_kept = record { at_flip = λ k s h few. few; at_round = λ s e few. few_round s e }

  -- ---- decode ends
  or_right : (a b : Bool) → b ≡ true → (a || b) ≡ true
  or_right true b e = refl
  or_right false b e = e

  ends_at : (n : ℕ) (s : State S) → f.limit ≤ n + s.rounds → stops f (decoded f n s) ≡ true
  ends_at zero s h = or_right (all_met f s) (leb f.limit s.rounds) (le-leb f.limit s.rounds (omega arith))
  ends_at (suc n) s h = either (λ (x : State S). stops f x ≡ true) (stops f s) _ _ (λ e. e) (λ e. ends_at n (round_made f s) (omega arith))

  spent_at : (s : State S) → Few s → stops f s ≡ true → all_met f s ≡ false → s.rounds ≡ f.limit
  spent_at s few e m =
      ⊎_elim
      (λ (a : all_met f s ≡ true). let z : ◌≡◌ {A = ℕ} 0 1 = cc in absurd (omega arith))
      (λ (b : leb f.limit s.rounds ≡ true). let h = leb-true f.limit s.rounds b in omega arith)
      (or_cases (all_met f s) (leb f.limit s.rounds) e)

  -- the verdict, by whether all checks are met
  verdict_met : (s : State S) → all_met f s ≡ true → verdict_of f s ≡ Decoded
  verdict_met s e = rw e

  verdict_unmet : (s : State S) → all_met f s ≡ false → verdict_of f s ≡ Spent
  verdict_unmet s e = rw e

  met_verdict : (b : Bool) (r : ℕ) → ◌≡◌ {A = Answer (List ℕ)} (Ended (cond b Decoded Spent) r) (Ended Decoded r) → b ≡ true
  met_verdict true r e = refl
  met_verdict false r e = let z : ◌≡◌ {A = ℕ} 0 1 = cc in absurd (omega arith)

  still_round : (s : State S) → stops f s ≡ true → step f Round s ≡ answers_with (Stopped (verdict_of f s)) s
  still_round s e = rw e

  -- a round's answer, by whether all checks are met, and whether the limit is reached
  abbrev round_says : Bool → Bool → ℕ → Answer (List ℕ)
  round_says met late n = cond (met || late) (Stopped (cond met Decoded Spent)) (Flipped n)

  says_met : (met late : Bool) (n : ℕ) → round_says met late n ≡ Stopped Decoded → met ≡ true
  says_met true late n e = refl
  says_met false true n e = let z : ◌≡◌ {A = ℕ} 0 1 = cc in absurd (omega arith)
  says_met false false n e = let z : ◌≡◌ {A = ℕ} 0 1 = cc in absurd (omega arith)

  says_late : (met late : Bool) (n : ℕ) → round_says met late n ≡ Stopped Spent → late ≡ true
  says_late met true n e = refl
  says_late true false n e = let z : ◌≡◌ {A = ℕ} 0 1 = cc in absurd (omega arith)
  says_late false false n e = let z : ◌≡◌ {A = ℕ} 0 1 = cc in absurd (omega arith)

  round_says_lem : (s : State S) → (step f Round s).answer ≡ round_says (all_met f s) (leb f.limit s.rounds) (count_below f.setting.code.bits (picks f s))
  round_says_lem s = said (stops f s) (answers_with (Stopped (verdict_of f s)) s) (answers_with (Flipped (count_below f.setting.code.bits (picks f s))) (round_made f s))
    where
      said : (b : Bool) (x y : Step S) → (cond b x y).answer ≡ cond b x.answer y.answer
      said true x y = refl
      said false x y = refl

  round_at_word : (s : State S) → all_met f s ≡ true → step f Round s ≡ answers_with (Stopped Decoded) s
  round_at_word s e = rw e

  late_limit : (s : State S) → Few s → leb f.limit s.rounds ≡ true → s.rounds ≡ f.limit
  late_limit s few b = let h = leb-true f.limit s.rounds b in omega arith

  verdicts : (s : State S) → Few s → Verdicts f s
  verdicts s few =
      let t = decoded f f.limit s in
      let stop = ends_at f.limit s (omega arith) in
      record {
        still = still_round s;
        round_word = λ w. round_at_word s (word_met s w);
        round_decoded = λ e. met_word s (says_met (all_met f s) (leb f.limit s.rounds) _ (sym (round_says_lem s) ∙ e));
        round_spent = λ e. late_limit s few (says_late (all_met f s) (leb f.limit s.rounds) _ (sym (round_says_lem s) ∙ e));
        ends = stop;
        word = λ w. ap (λ v. Ended v t.rounds) (verdict_met t (word_met t w));
        decoded = λ e. met_word t (met_verdict (all_met f t) t.rounds e);
        spent = λ no.
            ⊎_elim
            (λ (m : all_met f t ≡ true). absurd (no (met_word t m)))
            (λ (m : all_met f t ≡ false). ap (λ v. Ended v t.rounds) (verdict_unmet t m) ∙ ap (Ended Spent) (spent_at t (decode_keeps f Few few_kept f.limit s few) stop m))
            (cases_Bool (all_met f t));
      }

pub verdict_law : (S : Type 0) → VerdictLaw S
verdict_law S f cs = verdicts f (state_after f cs (opened f)) (run_keeps f (Few f) (few_kept f) cs (opened f) (omega arith))
