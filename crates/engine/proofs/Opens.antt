-- That an opening stands for the first digits, and leaves no record marked.
use Rattle.std.proofs.Common.{◌≡◌, ℕ, zero, suc, ◌<◌, ◌≤◌, Bool, true, false, cond, not, List, length, get_or, set, ℤ, pos, ◌+ℤ◌, neg_ℤ, Some, None, Option, sym, refl, ap, ◌∙◌, subst, ⊎_elim, arith, length-set, get_or-set_other, get_or-set_same}
use Rattle.std.specs.Int.{saturate_to_bits}
use Rattle.std.proofs.lemmas.List.{get_or_past}
use Rattle.std.proofs.lemmas.Int.{ints}
use Rattle.std.proofs.lemmas.Bool.{cases_eq, cases_lt, cases_Bool}
use Rattle.codes.specs.Answers.{Answers}
use Rattle.codes.specs.Pairs.{count_below}
use Rattle.plain.specs.Bounds.{Modest}
use Rattle.plain.specs.Scores.{Setting, sum_below, open_digit}
use Rattle.plain.proofs.Bounding.{score_by_within, sums_within}
use Rattle.plain.proofs.Even.{value_of, met_of, signed, sign_met, own, voice, heard, score_is, objective_is}
use Rattle.engine.specs.declared.bit.Bit.{Bit}
use Rattle.engine.specs.declared.bit.Sign.{Sign}
use Rattle.engine.specs.declared.bit.Sign.TheVariants.{Met, Unmet}
use Rattle.engine.specs.Opening.{fresh, fresh_places, score_places, sign_places, sign_check, voice as voiced, Whole, whole, open_check, open_checks, start, filled, OpensExactly}
use Rattle.engine.specs.Stands.{Fits, StandsFor, Unmarked}
use Rattle.engine.specs.Turns.{memory, blank, raise_places, raise_row}
use Rattle.engine.proofs.Between.{is_met, met_value, small_16, small_32, modest}
use Rattle.engine.proofs.Parity.{row_even}
use Rattle.engine.proofs.Rows.{raise_length, row_hit, row_miss, row_kept}

-- ---- the levels put down
fresh_length : (ys : List ℤ) (n : ℕ) (rs : List Bit) → length (fresh_places ys n rs) ≡ length rs
fresh_length ys zero rs = refl
fresh_length ys (suc n) rs = length-set (fresh_places ys n rs) n _ ∙ fresh_length ys n rs

fresh_at : (ys : List ℤ) (n : ℕ) (rs : List Bit) → n ≤ length rs → (b : ℕ) → b < n → get_or (fresh_places ys n rs) b blank ≡ fresh (get_or ys b (pos 0))
fresh_at ys zero rs h b l = absurd (omega arith)
fresh_at ys (suc n) rs h b l =
    ⊎_elim
    (λ (same : b ≡ n).
    let lt : n < length (fresh_places ys n rs) = rw (fresh_length ys n rs) (omega arith) in
    ap (λ i. get_or (fresh_places ys (suc n) rs) i blank) same ∙ get_or-set_same (fresh_places ys n rs) n (fresh (get_or ys n (pos 0))) blank lt ∙ ap (λ i. fresh (get_or ys i (pos 0))) (sym same))
    (λ (ne : b ≡ n → ⊥). get_or-set_other (fresh_places ys n rs) n b (fresh (get_or ys n (pos 0))) blank ne ∙ fresh_at ys n rs (omega arith) b (omega arith))
    (cases_eq b n)

-- a level's size is its own part of the score
size_is : (y : ℤ) (t : Bool) → cond t (neg_ℤ y) y ≡ signed (not t) y
size_is y true = refl
size_is y false = refl

voiced_is : (w : ℕ) (t : Sign) → voiced w t ≡ signed (is_met t) (pos w)
voiced_is w Met = refl
voiced_is w Unmet = refl

-- ---- no mark
row_unmarked : (place : ℕ → Option ℕ) (k : ℕ) (by : ℤ) (o : Option ℕ) (rs : List Bit) → Unmarked rs → Unmarked (raise_row place k by o rs)
row_unmarked place k by None rs u = u
row_unmarked place k by (Some n) rs u = λ b. row_kept (λ (r : Bit). r.mark) place k by (λ r. refl) b n rs ∙ u b

checks_unmarked : (a : Answers) (w n : ℕ) (h : Whole) → Unmarked h.records → Unmarked (open_checks a w n h).records
checks_unmarked a w zero h u = u
checks_unmarked a w (suc n) h u =
    let g = open_checks a w n h in
    row_unmarked (a.check_bit n) (length g.records) (voiced w (sign_check a n g.records)) (a.check_degree n) g.records (checks_unmarked a w n h u)

fresh_unmarked : (ys : List ℤ) (rs : List Bit) → Unmarked (fresh_places ys (length rs) rs)
fresh_unmarked ys rs k =
    ⊎_elim
    (λ (lt : k < length rs). ap (λ (r : Bit). r.mark) (fresh_at ys (length rs) rs (omega arith) k lt))
    (λ (ge : length rs ≤ k). ap (λ (r : Bit). r.mark) (get_or_past (fresh_places ys (length rs) rs) k blank (rw (fresh_length ys (length rs) rs) ge)))
    (cases_lt k (length rs))

pub filled_unmarked : (a : Answers) (w : ℕ) (ys : List ℤ) (rs : List Bit) (ss : List Sign) → Unmarked (filled a w ys rs ss).records
filled_unmarked a w ys rs ss = checks_unmarked a w (length ss) (start ys rs ss) (fresh_unmarked ys rs)

-- ---- the first n checks alone
count_fewer : (f : ℕ → Bool) (n m : ℕ) → n ≤ m → count_below n f ≤ count_below m f
count_fewer f n zero l = let e : n ≡ 0 = omega arith in subst (λ i. count_below i f ≤ 0) (sym e) (omega arith)
count_fewer f n (suc m) l =
    ⊎_elim
    (λ (same : n ≡ suc m). subst (λ i. count_below i f ≤ count_below (suc m) f) (sym same) (omega arith))
    (λ (ne : n ≡ suc m → ⊥). let r = count_fewer f n m (omega arith) in omega arith)
    (cases_eq n (suc m))

abbrev first_checks : ℕ → Setting → Setting
first_checks n s = record { code = record { bits = s.code.bits; checks = n; holds = s.code.holds }; weight = s.weight; level = s.level }

first_modest : (n : ℕ) (s : Setting) → n ≤ s.code.checks → Modest s → Modest (first_checks n s)
first_modest n s l ok = record {
  levels = ok.levels;
  weights = λ c h. ok.weights c (omega arith);
  degrees = λ k h. let d = ok.degrees k h in let f = count_fewer (λ c. s.code.holds c k) n s.code.checks l in omega arith;
}

-- the memory after n checks
record Heard (s : Setting) (d : ℕ → Bool) (n : ℕ) (h : Whole) : Type 0 where
  bits : length h.records ≡ s.code.bits
  checks : length h.signs ≡ s.code.checks
  digits : (b : ℕ) → b < s.code.bits → (get_or h.records b blank).digit ≡ d b
  levels : (b : ℕ) → b < s.code.bits → (get_or h.records b blank).level ≡ s.level b
  scores : (b : ℕ) → b < s.code.bits → (get_or h.records b blank).score ≡ own s d b +ℤ sum_below n (heard s (met_of s.code d) b)
  signs : (c : ℕ) → c < n → is_met (get_or h.signs c Met) ≡ met_of s.code d c
  objective : h.objective ≡ sum_below s.code.bits (own s d) +ℤ sum_below n (voice s (met_of s.code d))

module _ (a : Answers) (w : ℕ) (s : Setting) (fits : Fits a w s) (d : ℕ → Bool) where
  -- nothing saturates on the way
  part_score : (b n : ℕ) → b < s.code.bits → n ≤ s.code.checks → saturate_to_bits 15 (own s d b +ℤ sum_below n (heard s (met_of s.code d) b)) ≡ own s d b +ℤ sum_below n (heard s (met_of s.code d) b)
  part_score b n l m = small_16 _ (score_by_within (first_checks n s) d (first_modest n s m (modest a w s fits)) (met_of s.code d) b l)

  part_objective : (k n : ℕ) → k ≤ s.code.bits → n ≤ s.code.checks → saturate_to_bits 31 (sum_below k (own s d) +ℤ sum_below n (voice s (met_of s.code d))) ≡ sum_below k (own s d) +ℤ sum_below n (voice s (met_of s.code d))
  part_objective k n l m =
      let fb = fits.lawful.few_bits in
      let fc = fits.lawful.few_checks in
      small_32 k n _ (omega arith) (omega arith) (sums_within s d (modest a w s fits) (met_of s.code d) k n l m)

  score_sum : (rs : List Bit) → ((b : ℕ) → b < s.code.bits → (get_or rs b blank).score ≡ own s d b) → (n : ℕ) → n ≤ s.code.bits → score_places rs n ≡ sum_below n (own s d)
  score_sum rs scores zero l = refl
  score_sum rs scores (suc n) l =
      let e = score_sum rs scores n (omega arith) in
      let t = scores n (omega arith) in
      let sum : score_places rs n +ℤ (get_or rs n blank).score ≡ sum_below (suc n) (own s d) +ℤ pos 0 = omega (arith, ints) in
      ap (saturate_to_bits 31) sum ∙ part_objective (suc n) 0 l (omega arith) ∙ (omega (arith, ints))

  -- one check more
  hear_one : (n : ℕ) (h : Whole) → n < s.code.checks → Heard s d n h → Heard s d (suc n) (open_check a w n h)
  hear_one n h l H =
      let row = fits.lawful.rows.lists n l in
      let met = met_of s.code d in
      let t = sign_places (a.check_bit n) h.records row.count in
      let t-is : is_met t ≡ met n = row_even (a.check_degree n) (a.check_bit n) s.code.bits (s.code.holds n) _ _ row h.records d H.digits in
      let k = length h.records in
      let by = voiced w t in
      let by-is : by ≡ voice s met n = voiced_is w t ∙ ap (λ e. signed e (pos w)) t-is ∙ ap (λ v. signed (met n) (pos v)) (sym (fits.weights n l)) in
      let rs = raise_places (a.check_bit n) k by row.count h.records in
      let ln : n < length h.signs = (let q = H.checks in omega arith) in
      let after : Heard s d (suc n) (whole rs (set h.signs n t) (saturate_to_bits 31 (h.objective +ℤ by))) = record {
        bits = raise_length (a.check_bit n) k by row.count h.records ∙ H.bits;
        checks = length-set h.signs n t ∙ H.checks;
        digits = λ b g. row_kept (λ (r : Bit). r.digit) (a.check_bit n) k by (λ r. refl) b row.count h.records ∙ H.digits b g;
        levels = λ b g. row_kept (λ (r : Bit). r.level) (a.check_bit n) k by (λ r. refl) b row.count h.records ∙ H.levels b g;
        scores = λ b g.
            ⊎_elim
            (λ (on : s.code.holds n b ≡ true).
            let lb : b < length h.records = (let q = H.bits in omega arith) in
            let hit = row_hit (a.check_degree n) (a.check_bit n) s.code.bits (s.code.holds n) _ _ row k by h.records b (λ q. omega arith) lb g on in
            let old = H.scores b g in
            let part : heard s met b n ≡ voice s met n = rw on in
            let sum : (get_or h.records b blank).score +ℤ by ≡ own s d b +ℤ sum_below (suc n) (heard s met b) = omega (arith, ints) in
            ap (λ (r : Bit). r.score) hit ∙ ap (saturate_to_bits 15) sum ∙ part_score b (suc n) g (omega arith))
            (λ (f : s.code.holds n b ≡ false).
            let miss = ap (λ (r : Bit). r.score) (row_miss (a.check_degree n) (a.check_bit n) s.code.bits (s.code.holds n) _ _ row k by h.records b f) in
            let old = H.scores b g in
            let part : heard s met b n ≡ pos 0 = rw f in
            omega (arith, ints))
            (cases_Bool (s.code.holds n b));
        signs = λ c g.
            ⊎_elim
            (λ (same : c ≡ n). ap (λ i. is_met (get_or (set h.signs n t) i Met)) same ∙ ap is_met (get_or-set_same h.signs n t Met ln) ∙ t-is ∙ ap met (sym same))
            (λ (ne : c ≡ n → ⊥). ap is_met (get_or-set_other h.signs n c t Met ne) ∙ H.signs c (omega arith))
            (cases_eq c n);
        objective =
            let old = H.objective in
            let sum : h.objective +ℤ by ≡ sum_below s.code.bits (own s d) +ℤ sum_below (suc n) (voice s met) = omega (arith, ints) in
            ap (saturate_to_bits 31) sum ∙ part_objective s.code.bits (suc n) (omega arith) (omega arith);
      } in
      let is : open_check a w n h ≡ whole rs (set h.signs n t) (saturate_to_bits 31 (h.objective +ℤ by)) = rw row.sized in
      subst (Heard s d (suc n)) (sym is) after

  hear_all : (h : Whole) → Heard s d 0 h → (n : ℕ) → n ≤ s.code.checks → Heard s d n (open_checks a w n h)
  hear_all h H zero l = H
  hear_all h H (suc n) l = hear_one n (open_checks a w n h) (omega arith) (hear_all h H n (omega arith))

  -- all checks
  all_heard : (h : Whole) (n : ℕ) → n ≡ s.code.checks → Heard s d n h → StandsFor s d (memory h.records h.signs) h.objective
  all_heard h n e K = record {
    bits = K.bits;
    checks = K.checks;
    digits = K.digits;
    levels = K.levels;
    scores = λ b l. K.scores b l ∙ ap (λ i. own s d b +ℤ sum_below i (heard s (met_of s.code d) b)) e ∙ sym (score_is s d b);
    signs = λ c l. met_value (get_or h.signs c Met) ∙ ap value_of (K.signs c (omega arith)) ∙ sym (sign_met s.code d c);
    computed = K.objective ∙ ap (λ i. sum_below s.code.bits (own s d) +ℤ sum_below i (voice s (met_of s.code d))) e ∙ sym (objective_is s d);
  }

fill_stands : (a : Answers) (w : ℕ) (ys : List ℤ) (rs : List Bit) (ss : List Sign) → OpensExactly a w ys rs ss (memory (filled a w ys rs ss).records (filled a w ys rs ss).signs) (filled a w ys rs ss).objective
fill_stands a w ys rs ss s fits bits checks levels =
    let d = open_digit s in
    let fs = fresh_places ys (length rs) rs in
    let at : (b : ℕ) → b < s.code.bits → get_or fs b blank ≡ fresh (s.level b) = λ b l. fresh_at ys (length rs) rs (omega arith) b (omega arith) ∙ ap fresh (levels b l) in
    let scores : (b : ℕ) → b < s.code.bits → (get_or fs b blank).score ≡ own s d b = λ b l. ap (λ (r : Bit). r.score) (at b l) ∙ size_is (s.level b) (d b) in
    let first : Heard s d 0 (start ys rs ss) = record {
      bits = fresh_length ys (length rs) rs ∙ bits;
      checks = checks;
      digits = λ b l. ap (λ (r : Bit). r.digit) (at b l);
      levels = λ b l. ap (λ (r : Bit). r.level) (at b l);
      scores = λ b l. let t = scores b l in omega (arith, ints);
      signs = λ c l. absurd (omega arith);
      objective =
          let t = score_sum a w s fits d fs scores (length rs) (omega arith) in
          let u : sum_below (length rs) (own s d) ≡ sum_below s.code.bits (own s d) = ap (λ n. sum_below n (own s d)) bits in
          omega (arith, ints);
    } in
    all_heard a w s fits d (filled a w ys rs ss) (length ss) checks (hear_all a w s fits d (start ys rs ss) first (length ss) (omega arith))

pub fill_exact : (a : Answers) (w : ℕ) (ys : List ℤ) (rs : List Bit) (ss : List Sign) (h : Whole) → h ≡ filled a w ys rs ss → OpensExactly a w ys rs ss (memory h.records h.signs) h.objective
fill_exact a w ys rs ss h after = subst (λ (g : Whole). OpensExactly a w ys rs ss (memory g.records g.signs) g.objective) (sym after) (fill_stands a w ys rs ss)

pub fill_unmarked : (a : Answers) (w : ℕ) (ys : List ℤ) (rs : List Bit) (ss : List Sign) (h : Whole) → h ≡ filled a w ys rs ss → Unmarked h.records
fill_unmarked a w ys rs ss h after = subst (λ (g : Whole). Unmarked g.records) (sym after) (filled_unmarked a w ys rs ss)
