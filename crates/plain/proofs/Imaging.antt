-- A frame and its image run alike.
use Rattle.std.proofs.Common.{◌≡◌, ℕ, zero, suc, ◌+◌, Bool, true, false, cond, not, ◌||◌, eqb, ltb, leb, List, [], ◌∷◌, ℤ, pos, ◌+ℤ◌, ◌-ℤ◌, neg_ℤ, sym, refl, ap, ◌∙◌, subst}
use mathlib.Core.Path.{fun_ext}
use lib.Signed.{lt_z}
use Rattle.codes.specs.Pairs.{count_below, Codeword}
use Rattle.codes.proofs.Counts.{count_same}
use Rattle.rules.specs.Meaning.{RuleMeaning, Telling, told, Alike}
use Rattle.plain.specs.declared.call.Call.{Call}
use Rattle.plain.specs.declared.call.Call.TheVariants.{Round, Decode, Toggle, Weigh, Unmet, Read}
use Rattle.plain.specs.declared.call.Answer.TheVariants.{Stopped, Flipped, Ended, Toggled, Weighed, Unmet as UnmetAre, Packed}
use Rattle.plain.specs.declared.call.Verdict.TheVariants.{Decoded, Spent}
use Rattle.plain.specs.Machine.{Frame, State, opened, flip, flip_set, unmet_of, all_met, perturbed, lowest, picks, counted, round_made, stops, verdict_of, decoded, bytes_for, packed, Step, answers_with, step, state_after, answers_of}
use Rattle.plain.specs.Mirror.{turned_at, mirrored, Mirrors}
use Rattle.plain.specs.Scores.{sign_of, score_of, objective_of}
use Rattle.plain.specs.Symmetry.{Image, SameBut, AllSameBut, Symmetric, SymmetryLaw}
use Rattle.plain.specs.Turning.{turn}
use Rattle.plain.proofs.Mirrored.{mirror_law, sign_turned}

module _ {S T : Type 0} (z : ℕ → Bool) (f : Frame S) (m : RuleMeaning T) (word : Codeword f.setting.code z) (levels : (k : ℕ) → z k ≡ true → f.setting.level k ≡ pos 0 → ⊥) (alike : Alike f.rule m) where
  -- the image, with its own rule
  image : Frame T
  image = record { setting = mirrored z f.setting; limit = f.limit; rule = m; noise = f.noise }

  mirrors : (d : ℕ → Bool) → Mirrors f.setting z d
  mirrors d = mirror_law f.setting z d word

  -- two rules' states that say the same after every further telling
  abbrev Twin : S → T → Type 0
  Twin s t = (ts : List Telling) (score : ℤ) (lowest-mark : Bool) → f.rule.says (told f.rule s ts) score lowest-mark ≡ m.says (told m t ts) score lowest-mark

  -- states that are alike
  record Same (s : State S) (t : State T) : Type 0 where
    digits : t.digits ≡ turned_at z s.digits
    rounds : t.rounds ≡ s.rounds
    flips : t.flips ≡ s.flips
    rule : Twin s.rule t.rule

  score_same : (s : State S) (t : State T) → Same s t → (k : ℕ) → score_of (mirrored z f.setting) t.digits k ≡ score_of f.setting s.digits k
  score_same s t e k = ap (λ (d : ℕ → Bool). score_of (mirrored z f.setting) d k) e.digits ∙ (mirrors s.digits).scores k

  objective_same : (s : State S) (t : State T) → t.digits ≡ turned_at z s.digits → objective_of (mirrored z f.setting) t.digits ≡ objective_of f.setting s.digits
  objective_same s t e = ap (objective_of (mirrored z f.setting)) e ∙ (mirrors s.digits).objective

  unmet_same : (s : State S) (t : State T) → Same s t → unmet_of image t ≡ unmet_of f s
  unfolding image
  unmet_same s t e =
      count_same f.setting.code.checks (λ c. lt_z (sign_of f.setting.code t.digits c) (pos 0)) (λ c. lt_z (sign_of f.setting.code s.digits c) (pos 0))
      (λ c h. ap (λ v. lt_z v (pos 0)) (ap (λ (d : ℕ → Bool). sign_of f.setting.code d c) e.digits ∙ (mirrors s.digits).signs c h))

  met_same : (s : State S) (t : State T) → Same s t → all_met image t ≡ all_met f s
  met_same s t e = ap (λ n. eqb n 0) (unmet_same s t e)

  stops_same : (s : State S) (t : State T) → Same s t → stops image t ≡ stops f s
  unfolding image
  stops_same s t e = λ i. met_same s t e i || leb f.limit (e.rounds i)

  verdict_same : (s : State S) (t : State T) → Same s t → verdict_of image t ≡ verdict_of f s
  verdict_same s t e = λ i. cond (met_same s t e i) Decoded Spent

  -- ---- the picks
  perturbed_same : (s : State S) (t : State T) → Same s t → perturbed image t ≡ perturbed f s
  unfolding image
  perturbed_same s t e = fun_ext (λ k. (λ i. score_same s t e k i +ℤ f.noise (e.rounds i) k))

  picks_same : (s : State S) (t : State T) → Same s t → picks image t ≡ picks f s
  unfolding image
  picks_same s t e =
      fun_ext (λ k.
      (λ i. m.says t.rule (perturbed_same s t e i k) (eqb k (lowest (perturbed_same s t e i) f.setting.code.bits)))
      ∙ sym (e.rule [] (perturbed f s k) (eqb k (lowest (perturbed f s) f.setting.code.bits))))

  -- ---- flips
  flip_same : (k : ℕ) (s : State S) (t : State T) → Same s t → Same (flip f k s) (flip image k t)
  unfolding image
  flip_same k s t e = record {
    digits = ap (turn k) e.digits ∙ (mirrors s.digits).flips k;
    rounds = e.rounds;
    flips = λ i. score_same s t e k i ∷ e.flips i;
    rule = e.rule;
  }

  either_same : (b : Bool) (s s' : State S) (t t' : State T) → Same s t → Same s' t' → Same (cond b s s') (cond b t t')
  either_same true s s' t t' p q = p
  either_same false s s' t t' p q = q

  set_same : (set : ℕ → Bool) (n : ℕ) (s : State S) (t : State T) → Same s t → Same (flip_set f set n s) (flip_set image set n t)
  set_same set zero s t e = e
  set_same set (suc n) s t e = let r = set_same set n s t e in either_same (set n) _ _ _ _ (flip_same n _ _ r) r

  -- ---- rounds
  counted_same : (s u : State S) (t v : State T) → Same s t → Same u v → Same (counted f s u) (counted image t v)
  unfolding image
  counted_same s u t v e g =
      let before = objective_same s t e.digits in
      let after = objective_same u v g.digits in
      record {
        digits = g.digits;
        rounds = ap (λ n. n + 1) e.rounds;
        flips = g.flips;
        rule = λ ts score low.
            e.rule (record { before = objective_of f.setting s.digits; after = objective_of f.setting u.digits } ∷ ts) score low
            ∙ (λ i. m.says (told m (m.next t.rule (sym before i) (sym after i)) ts) score low);
      }

  round_same : (s : State S) (t : State T) → Same s t → Same (round_made f s) (round_made image t)
  unfolding image
  round_same s t e =
      let n = f.setting.code.bits in
      let r = set_same (picks f s) n s t e in
      counted_same s (flip_set f (picks f s) n s) t (flip_set image (picks image t) n t) e (subst (λ (p : ℕ → Bool). Same (flip_set f (picks f s) n s) (flip_set image p n t)) (sym (picks_same s t e)) r)

  decode_same : (n : ℕ) (s : State S) (t : State T) → Same s t → Same (decoded f n s) (decoded image n t)
  decode_same zero s t e = e
  decode_same (suc n) s t e =
      subst (λ (b : Bool). Same (decoded f (suc n) s) (cond b t (decoded image n (round_made image t)))) (sym (stops_same s t e))
      (either_same (stops f s) s (decoded f n (round_made f s)) t (decoded image n (round_made image t)) e (decode_same n (round_made f s) (round_made image t) (round_same s t e)))

  -- ---- the opening
  open_digit_lem : (b : Bool) (y : ℤ) → (b ≡ true → y ≡ pos 0 → ⊥) → lt_z (cond b (neg_ℤ y) y) (pos 0) ≡ cond b (not (lt_z y (pos 0))) (lt_z y (pos 0))
  open_digit_lem true y ne = sign_turned true y (ne refl)
  open_digit_lem false y ne = refl

  opened_same : Same (opened f) (opened image)
  unfolding image
  opened_same = record {
    digits = fun_ext (λ k. open_digit_lem (z k) (f.setting.level k) (levels k));
    rounds = refl;
    flips = refl;
    rule = alike.agree;
  }

  -- ---- calls
  record Together (a : Step S) (b : Step T) : Type 0 where
    answer : SameBut z f.setting.code.bits a.answer b.answer
    state : Same a.state b.state

  either_step : (b : Bool) (x x' : Step S) (y y' : Step T) → Together x y → Together x' y' → Together (cond b x x') (cond b y y')
  either_step true x x' y y' p q = p
  either_step false x x' y y' p q = q

  step_same : (c : Call) (s : State S) (t : State T) → Same s t → Together (step f c s) (step image c t)
  unfolding image
  step_same Round s t e =
      subst (λ (b : Bool). Together (step f Round s) (cond b (answers_with (Stopped (verdict_of image t)) t) (answers_with (Flipped (count_below f.setting.code.bits (picks image t))) (round_made image t)))) (sym (stops_same s t e))
      (either_step (stops f s) _ _ _ _
      (record { answer = ap Stopped (verdict_same s t e); state = e })
      (record { answer = ap (λ (p : ℕ → Bool). Flipped (count_below f.setting.code.bits p)) (picks_same s t e); state = round_same s t e }))
  step_same Decode s t e =
      let r = decode_same f.limit s t e in
      record { answer = λ i. Ended (verdict_same (decoded f f.limit s) (decoded image f.limit t) r i) (r.rounds i); state = r }
  step_same (Toggle k) s t e =
      let r = flip_same k s t e in
      either_step (ltb k f.setting.code.bits) _ _ _ _ (record { answer = ap Toggled (score_same (flip f k s) (flip image k t) r k); state = r }) (record { answer = refl; state = e })
  step_same (Weigh k) s t e =
      either_step (ltb k f.setting.code.bits) _ _ _ _
      (record {
        answer = λ i. Weighed (score_same s t e k i) (objective_same s t e.digits i) (objective_same s t e.digits i -ℤ objective_same (opened f) (opened image) opened_same.digits i);
        state = e;
      })
      (record { answer = refl; state = e })
  step_same Unmet s t e = record { answer = ap UnmetAre (unmet_same s t e); state = e }
  step_same (Read n) s t e =
      either_step (eqb n (bytes_for f.setting.code.bits)) _ _ _ _
      (record { answer = (s.digits, refl, ap (λ (d : ℕ → Bool). Packed (packed f.setting.code.bits d)) e.digits); state = e })
      (record { answer = refl; state = e })

  -- ---- runs
  answers_same : (cs : List Call) (s : State S) (t : State T) → Same s t → AllSameBut z f.setting.code.bits (answers_of f cs s) (answers_of image cs t)
  answers_same [] s t e = refl
  answers_same (c ∷ cs) s t e = let r = step_same c s t e in (r.answer, answers_same cs (step f c s).state (step image c t).state r.state)

  states_same : (cs : List Call) (s : State S) (t : State T) → Same s t → Same (state_after f cs s) (state_after image cs t)
  states_same [] s t e = e
  states_same (c ∷ cs) s t e = states_same cs (step f c s).state (step image c t).state (step_same c s t e).state

  image_runs : (cs : List Call) → Symmetric z f image cs
  image_runs cs = record { answers = answers_same cs (opened f) (opened image) opened_same; digits = (states_same cs (opened f) (opened image) opened_same).digits }

  image_rounds : (cs : List Call) → (state_after image cs (opened image)).rounds ≡ (state_after f cs (opened f)).rounds
  image_rounds cs = (states_same cs (opened f) (opened image) opened_same).rounds

-- ---- every image is this one
module _ {S T : Type 0} (z : ℕ → Bool) (f : Frame S) (g : Frame T) (i : Image z f g) where
  image_is : image z f g.rule i.word i.levels i.rule ≡ g
  unfolding image
  image_is = λ j. record { setting = sym i.setting j; limit = sym i.limit j; rule = g.rule; noise = sym i.noise j }

  symmetric : (cs : List Call) → Symmetric z f g cs
  symmetric cs = subst (λ (h : Frame T). Symmetric z f h cs) image_is (image_runs z f g.rule i.word i.levels i.rule cs)

  -- as many rounds are done
  pub rounds_same : (cs : List Call) → (state_after g cs (opened g)).rounds ≡ (state_after f cs (opened f)).rounds
  rounds_same cs = subst (λ (h : Frame T). (state_after h cs (opened h)).rounds ≡ (state_after f cs (opened f)).rounds) image_is (image_rounds z f g.rule i.word i.levels i.rule cs)

pub symmetry_law : (S T : Type 0) → SymmetryLaw S T
symmetry_law S T z f g cs i = symmetric z f g i cs
