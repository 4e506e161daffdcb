-- That the flips of a round are exactly those of its picks.
use Rattle.std.proofs.Common.{◌≡◌, ℕ, zero, suc, ◌+◌, ◌*◌, ◌<◌, ◌≤◌, Bool, true, false, cond, eqb, ltb, List, length, get_or, ℤ, ◌+ℤ◌, Some, None, Option, sym, refl, ap, ◌∙◌, subst, ⊎_elim, arith}
use Rattle.std.specs.Int.{saturate_to_bits}
use Rattle.std.proofs.lemmas.List.{get_or_past}
use Rattle.std.proofs.lemmas.Int.{ints}
use Rattle.std.proofs.lemmas.Bool.{cases_eq, cases_Bool, cases_lt}
use Rattle.codes.specs.Answers.{Answers}
use Rattle.codes.specs.Limits.{most_at_bit}
use Rattle.codes.specs.Pairs.{count_below}
use Rattle.codes.proofs.Counts.{count_same}
use Rattle.noise.specs.Sources.{Lawful, most_amplitude}
use Rattle.rules.specs.Meaning.{RuleMeaning}
use Rattle.plain.specs.Bounds.{most_level, most_weight, Within}
use Rattle.plain.specs.Machine.{Frame, State, flip, flip_set, lowest, perturbed, picks}
use Rattle.plain.specs.Scores.{Setting}
use Rattle.plain.specs.Turning.{turn}
use Rattle.plain.proofs.Bounding.{bounds_law}
use Rattle.engine.specs.declared.bit.Bit.{Bit}
use Rattle.engine.specs.declared.bit.Sign.{Sign}
use Rattle.engine.specs.declared.bit.Sign.TheVariants.{Met}
use Rattle.engine.specs.Opening.{Whole, whole}
use Rattle.engine.specs.Stands.{Fits, StandsFor, Unmarked}
use Rattle.engine.specs.Sweeps.{sum_at, lowest_of, picks_at, marked, mark_places, flip_whole, flip_marked, flip_places, swept, swept_count, Sweeps, SweepsExactly}
use Rattle.engine.specs.Turns.{Memory, memory, blank, turned_sign, turn_bit, alter, push, raise_row, sign_to, turn_check, turn_places, turn_column, turn_checks, flipped, fallen}
use Rattle.engine.proofs.Between.{modest, flip_stands}
use Rattle.engine.proofs.Lows.{lowest_same}
use Rattle.engine.proofs.Marked.{mark_length, mark_keeps, mark_at}
use Rattle.engine.proofs.Rows.{alter_length, alter_same, alter_other, alter_keeps, row_kept}

-- ---- a flip keeps the marks
abbrev mark_of : Bit → Bool
mark_of b = b.mark

marks_row : (place : ℕ → Option ℕ) (k : ℕ) (by : ℤ) (o : Option ℕ) (rs : List Bit) (b : ℕ) → mark_of (get_or (raise_row place k by o rs) b blank) ≡ mark_of (get_or rs b blank)
marks_row place k by None rs b = refl
marks_row place k by (Some n) rs b = row_kept mark_of place k by (λ r. refl) b n rs

marks_sign : (a : Answers) (k w c : ℕ) (t : Bool) (e : Sign) (m : Memory) (b : ℕ) → mark_of (get_or (cond t (sign_to a k w c e m) m).records b blank) ≡ mark_of (get_or m.records b blank)
marks_sign a k w c true e m b = marks_row (a.check_bit c) k (push w e) (a.check_degree c) m.records b
marks_sign a k w c false e m b = refl

marks_check : (a : Answers) (k w : ℕ) (o : Option ℕ) (m : Memory) (b : ℕ) → mark_of (get_or (turn_check a k w o m).records b blank) ≡ mark_of (get_or m.records b blank)
marks_check a k w None m b = refl
marks_check a k w (Some c) m b = marks_sign a k w c (ltb c (length m.signs)) (turned_sign (get_or m.signs c Met)) m b

marks_places : (a : Answers) (k w n : ℕ) (m : Memory) (b : ℕ) → mark_of (get_or (turn_places a k w n m).records b blank) ≡ mark_of (get_or m.records b blank)
marks_places a k w zero m b = refl
marks_places a k w (suc n) m b = marks_check a k w (a.bit_check k n) (turn_places a k w n m) b ∙ marks_places a k w n m b

marks_column : (a : Answers) (k w : ℕ) (o : Option ℕ) (m : Memory) (b : ℕ) → mark_of (get_or (turn_column a k w o m).records b blank) ≡ mark_of (get_or m.records b blank)
marks_column a k w None m b = refl
marks_column a k w (Some n) m b = marks_places a k w n m b

marks_cond : (a : Answers) (k w : ℕ) (t : Bool) (m : Memory) (b : ℕ) → mark_of (get_or (cond t (turn_checks a k w (memory (alter turn_bit k m.records) m.signs)) m).records b blank) ≡ mark_of (get_or m.records b blank)
marks_cond a k w true m b = marks_column a k w (a.bit_degree k) (memory (alter turn_bit k m.records) m.signs) b ∙ alter_keeps mark_of turn_bit (λ r. refl) k m.records b
marks_cond a k w false m b = refl

pub marks_flip : (a : Answers) (k w : ℕ) (m : Memory) (b : ℕ) → (get_or (flipped a k w m).records b blank).mark ≡ (get_or m.records b blank).mark
marks_flip a k w m b = marks_cond a k w (ltb k (length m.records)) m b

-- ---- marks do not matter to what the memory stands for
remark : (s : Setting) (d : ℕ → Bool) (rs rs' : List Bit) (ss : List Sign) (e : ℤ) → length rs' ≡ length rs → ((b : ℕ) → (get_or rs' b blank).digit ≡ (get_or rs b blank).digit) → ((b : ℕ) → (get_or rs' b blank).level ≡ (get_or rs b blank).level) → ((b : ℕ) → (get_or rs' b blank).score ≡ (get_or rs b blank).score) → StandsFor s d (memory rs ss) e → StandsFor s d (memory rs' ss) e
remark s d rs rs' ss e n p q r S = record {
  bits = n ∙ S.bits;
  checks = S.checks;
  digits = λ b l. p b ∙ S.digits b l;
  levels = λ b l. q b ∙ S.levels b l;
  scores = λ b l. r b ∙ S.scores b l;
  signs = S.signs;
  computed = S.computed;
}

-- ---- the flips of the marked bits
module _ {S : Type 0} (f : Frame S) (p : State S) (a : Answers) (w : ℕ) (fits : Fits a w f.setting) (set : ℕ → Bool) where
  -- the first n bits are done, and the marks of the others stand
  record Turning (n : ℕ) (h : Whole) : Type 0 where
    stands : StandsFor f.setting (flip_set f set n p).digits (memory h.records h.signs) h.objective
    done : (b : ℕ) → b < n → (get_or h.records b blank).mark ≡ false
    left : (b : ℕ) → n ≤ b → b < f.setting.code.bits → (get_or h.records b blank).mark ≡ set b

  turn_yes : (n : ℕ) (h : Whole) → n < f.setting.code.bits → set n ≡ true → Turning n h → Turning (suc n) (flip_marked a w n h)
  turn_yes n h l yes-n T =
      let St = T.stands in
      let d = (flip_set f set n p).digits in
      let rs = alter (marked false) n h.records in
      let m = memory rs h.signs in
      let bits = St.bits in
      let off : StandsFor f.setting d m h.objective = remark f.setting d h.records rs h.signs h.objective (alter_length (marked false) n h.records) (alter_keeps (λ (r : Bit). r.digit) (marked false) (λ r. refl) n h.records) (alter_keeps (λ (r : Bit). r.level) (marked false) (λ r. refl) n h.records) (alter_keeps (λ (r : Bit). r.score) (marked false) (λ r. refl) n h.records) St in
      let on : StandsFor f.setting (turn n d) (flipped a n w m) (fallen n rs h.objective) = flip_stands a w f.setting fits d n m h.objective l off in
      let digits : (flip_set f set (suc n) p).digits ≡ turn n d = ap (λ (t : Bool). (cond t (flip f n (flip_set f set n p)) (flip_set f set n p)).digits) yes-n in
      let mark : (get_or h.records n blank).mark ≡ true = T.left n (omega arith) l ∙ yes-n in
      let is : flip_marked a w n h ≡ flip_whole a w n m h.objective = rw mark in
      let lt : n < length h.records = omega arith in
      let after : Turning (suc n) (flip_whole a w n m h.objective) = record {
        stands = subst (λ (D : ℕ → Bool). StandsFor f.setting D (flipped a n w m) (fallen n rs h.objective)) (sym digits) on;
        done = λ b q. marks_flip a n w m b ∙ ⊎_elim
            (λ (same : b ≡ n). ap (λ j. (get_or rs j blank).mark) same ∙ ap mark_of (alter_same (marked false) n h.records lt))
            (λ (ne : b ≡ n → ⊥). ap mark_of (alter_other (marked false) n b h.records ne) ∙ T.done b (omega arith))
            (cases_eq b n);
        left = λ b q r. marks_flip a n w m b ∙ ap mark_of (alter_other (marked false) n b h.records (λ e. omega arith)) ∙ T.left b (omega arith) r;
      } in
      subst (Turning (suc n)) (sym is) after

  turn_no : (n : ℕ) (h : Whole) → n < f.setting.code.bits → set n ≡ false → Turning n h → Turning (suc n) (flip_marked a w n h)
  turn_no n h l no-n T =
      let digits : (flip_set f set (suc n) p).digits ≡ (flip_set f set n p).digits = ap (λ (t : Bool). (cond t (flip f n (flip_set f set n p)) (flip_set f set n p)).digits) no-n in
      let mark : (get_or h.records n blank).mark ≡ false = T.left n (omega arith) l ∙ no-n in
      let is : flip_marked a w n h ≡ h = rw mark in
      let after : Turning (suc n) h = record {
        stands = subst (λ (D : ℕ → Bool). StandsFor f.setting D (memory h.records h.signs) h.objective) (sym digits) T.stands;
        done = λ b q. ⊎_elim
            (λ (same : b ≡ n). ap (λ j. (get_or h.records j blank).mark) same ∙ mark)
            (λ (ne : b ≡ n → ⊥). T.done b (omega arith))
            (cases_eq b n);
        left = λ b q r. T.left b (omega arith) r;
      } in
      subst (Turning (suc n)) (sym is) after

  turn_all : (h : Whole) → Turning 0 h → (n : ℕ) → n ≤ f.setting.code.bits → Turning n (flip_places a w n h)
  turn_all h T zero l = T
  turn_all h T (suc n) l =
      let rest = turn_all h T n (omega arith) in
      ⊎_elim
      (λ (on : set n ≡ true). turn_yes n (flip_places a w n h) (omega arith) on rest)
      (λ (off : set n ≡ false). turn_no n (flip_places a w n h) (omega arith) off rest)
      (cases_Bool (set n))

  -- from records marked by the set
  marked_turns : (h : Whole) → StandsFor f.setting p.digits (memory h.records h.signs) h.objective → ((k : ℕ) → k < f.setting.code.bits → (get_or h.records k blank).mark ≡ set k) → Turning f.setting.code.bits (flip_places a w f.setting.code.bits h)
  marked_turns h St marks = turn_all h (record { stands = St; done = λ b l. absurd (omega arith); left = λ b q r. marks b r }) f.setting.code.bits (omega arith)

-- ---- the picks
-- no perturbed score is so large that it is held
small_sum : (z : ℤ) → Within (most_level + most_weight * most_at_bit + most_amplitude) z → saturate_to_bits 15 z ≡ z
small_sum z h = let l = h.low in let g = h.high in grind (arith, ints)

flips_same : {S : Type 0} (f : Frame S) (p : State S) (u v : ℕ → Bool) (n : ℕ) → ((k : ℕ) → k < n → u k ≡ v k) → flip_set f u n p ≡ flip_set f v n p
flips_same f p u v zero same = refl
flips_same f p u v (suc n) same = rw (flips_same f p u v n (λ k l. same k (omega arith)), same n (omega arith))

module _ {S : Type 0} (f : Frame S) (p : State S) (a : Answers) (w : ℕ) (fits : Fits a w f.setting) (law : Lawful f.noise) where
  sums_are : (h : Whole) → StandsFor f.setting p.digits (memory h.records h.signs) h.objective → (k : ℕ) → k < f.setting.code.bits → sum_at (f.noise p.rounds) h.records k ≡ perturbed f p k
  sums_are h St k l =
      ap (λ (z : ℤ). saturate_to_bits 15 (z +ℤ f.noise p.rounds k)) (St.scores k l)
      ∙ small_sum (perturbed f p k) ((bounds_law f.setting p.digits (modest a w f.setting fits)).perturbed f.noise law p.rounds k l)

  picks_are : (h : Whole) → StandsFor f.setting p.digits (memory h.records h.signs) h.objective → (k : ℕ) → k < f.setting.code.bits → picks_at (f.rule.says p.rule) (f.noise p.rounds) (lowest_of (f.noise p.rounds) h.records) h.records k ≡ picks f p k
  picks_are h St k l =
      let sums = sums_are h St in
      let low : lowest_of (f.noise p.rounds) h.records ≡ lowest (perturbed f p) f.setting.code.bits = ap (lowest (sum_at (f.noise p.rounds) h.records)) St.bits ∙ lowest_same (sum_at (f.noise p.rounds) h.records) (perturbed f p) f.setting.code.bits sums in
      ap (λ (z : ℤ). f.rule.says p.rule z (eqb k (lowest_of (f.noise p.rounds) h.records))) (sums k l)
      ∙ ap (λ (j : ℕ). f.rule.says p.rule (perturbed f p k) (eqb k j)) low

  sweep_one : (h : Whole) → StandsFor f.setting p.digits (memory h.records h.signs) h.objective → Unmarked h.records → Sweeps f p (swept a w (f.rule.says p.rule) (f.noise p.rounds) h) (swept_count (f.rule.says p.rule) (f.noise p.rounds) h.records)
  sweep_one h St none =
      let bits = St.bits in
      let P = picks_at (f.rule.says p.rule) (f.noise p.rounds) (lowest_of (f.noise p.rounds) h.records) h.records in
      let rs = mark_places P (length h.records) h.records in
      let n = length h.records in
      let start = whole rs h.signs h.objective in
      let St' : StandsFor f.setting p.digits (memory rs h.signs) h.objective = remark f.setting p.digits h.records rs h.signs h.objective (mark_length P n h.records) (mark_keeps (λ (r : Bit). r.digit) (λ t r. refl) P n h.records) (mark_keeps (λ (r : Bit). r.level) (λ t r. refl) P n h.records) (mark_keeps (λ (r : Bit). r.score) (λ t r. refl) P n h.records) St in
      let T = marked_turns f p a w fits (picks f p) start St' (λ k l. mark_at P n h.records (omega arith) k (omega arith) ∙ picks_are h St k l) in
      let end = flip_places a w f.setting.code.bits start in
      let same : flip_places a w n start ≡ end = ap (λ (i : ℕ). flip_places a w i start) bits in
      let ends = T.stands.bits in
      subst (λ (x : Whole). Sweeps f p x (swept_count (f.rule.says p.rule) (f.noise p.rounds) h.records)) (sym same) (record {
        stands = T.stands;
        unmarked = λ k. ⊎_elim
            (λ (lt : k < f.setting.code.bits). T.done k lt)
            (λ (ge : f.setting.code.bits ≤ k). ap mark_of (get_or_past end.records k blank (omega arith)))
            (cases_lt k f.setting.code.bits);
        counts = ap (λ (i : ℕ). count_below i P) bits ∙ count_same f.setting.code.bits P (picks f p) (picks_are h St);
      })

pub sweep_exact : {S : Type 0} (a : Answers) (w : ℕ) (m : RuleMeaning S) (u : S) (noise : ℕ → ℕ → ℤ) → Lawful noise → (r : ℕ) (h h' : Whole) (count : ℕ) → h' ≡ swept a w (m.says u) (noise r) h → count ≡ swept_count (m.says u) (noise r) h.records → SweepsExactly a w m u noise r h h' count
sweep_exact {S} a w m u noise law r h h' count is counts f p rule state source rounds fits St none =
    let law' : Lawful f.noise = subst (λ (x : ℕ → ℕ → ℤ). Lawful x) (sym source) law in
    let says : f.rule.says p.rule ≡ m.says u = ap (λ (x : RuleMeaning S). x.says p.rule) rule ∙ ap m.says state in
    let at : f.noise p.rounds ≡ noise r = ap (λ (x : ℕ → ℕ → ℤ). x p.rounds) source ∙ ap noise rounds in
    let after : swept a w (f.rule.says p.rule) (f.noise p.rounds) h ≡ h' = ap (λ x. swept a w x (f.noise p.rounds) h) says ∙ ap (λ x. swept a w (m.says u) x h) at ∙ sym is in
    let number : swept_count (f.rule.says p.rule) (f.noise p.rounds) h.records ≡ count = ap (λ x. swept_count x (f.noise p.rounds) h.records) says ∙ ap (λ x. swept_count (m.says u) x h.records) at ∙ sym counts in
    subst (λ (x : Whole). Sweeps f p x count) after (subst (Sweeps f p (swept a w (f.rule.says p.rule) (f.noise p.rounds) h)) number (sweep_one f p a w fits law' h St none))
