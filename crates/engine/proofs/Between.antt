-- The memory in the middle of a flip, check by check.
use Rattle.std.proofs.Common.{◌≡◌, ℕ, zero, suc, ◌+◌, ◌*◌, ◌<◌, ◌≤◌, Bool, true, false, cond, not, length, get_or, set, ℤ, pos, ◌+ℤ◌, ◌-ℤ◌, ◌*ℤ◌, neg_ℤ, Some, None, Option, sym, refl, ap, ◌∙◌, subst, ⊎_elim, arith, length-set, get_or-set_other, get_or-set_same, lt-ltb}
use Rattle.std.specs.Int.{saturate_to_bits}
use Rattle.std.proofs.lemmas.Int.{ints}
use Rattle.std.proofs.lemmas.Bool.{cases_eq, cases_Bool}
use Rattle.codes.specs.Answers.{Answers}
use Rattle.codes.specs.Limits.{most_at_bit}
use Rattle.codes.proofs.Counts.{lists_count}
use Rattle.plain.specs.Bounds.{most_level, most_weight, Within, Modest}
use Rattle.plain.specs.Scores.{Setting, sum_below, score_of}
use Rattle.plain.specs.Turning.{turn}
use Rattle.plain.proofs.Bounding.{score_by_within, sums_within}
use Rattle.plain.proofs.Even.{value_of, met_of, signed, sign_met, value_once, own, heard, score_by, objective_by, score_is, objective_is, turn_same, turn_other, met_held, met_free}
use Rattle.plain.proofs.FlipLaw.{own_kept, score_turned, objective_turned}
use Rattle.plain.proofs.Sums.{sum_ext, sum_but}
use Rattle.engine.specs.declared.bit.Bit.{Bit}
use Rattle.engine.specs.declared.bit.Sign.{Sign}
use Rattle.engine.specs.declared.bit.Sign.TheVariants.{Met, Unmet}
use Rattle.engine.specs.Stands.{Fits, sign_value, StandsFor, FlipsExactly}
use Rattle.engine.specs.Turns.{Memory, memory, blank, turned_sign, turn_bit, alter, push, raise_places, turn_check, turn_places, flipped, fallen}
use Rattle.engine.proofs.Rows.{alter_length, alter_same, alter_other, raise_length, raise_self, row_hit, row_miss, row_kept, once_only, not_listed}

-- ---- signs as yes and no
abbrev pub is_met : Sign → Bool
is_met Met = true
is_met Unmet = false

pub met_turned : (t : Sign) → is_met (turned_sign t) ≡ not (is_met t)
met_turned Met = refl
met_turned Unmet = refl

pub met_value : (t : Sign) → sign_value t ≡ value_of (is_met t)
met_value Met = refl
met_value Unmet = refl

-- ---- what is within its bounds fits
pub small_16 : (z : ℤ) → Within (most_level + most_weight * most_at_bit) z → saturate_to_bits 15 z ≡ z
small_16 z h = let l = h.low in let g = h.high in grind (arith, ints)

pub small_32 : (n m : ℕ) (z : ℤ) → n ≤ 4096 → m ≤ 4096 → Within (most_level * n + most_weight * m) z → saturate_to_bits 31 z ≡ z
small_32 n m z i j h = let l = h.low in let g = h.high in grind (arith, ints)

-- a setting that fits is modest
pub modest : (a : Answers) (w : ℕ) (s : Setting) → Fits a w s → Modest s
modest a w s f = record {
  levels = f.levels;
  weights = λ c l. let e = f.weights c l in let h = f.weight in omega arith;
  degrees = λ k l. let col = f.lawful.columns.lists k l in let e = lists_count col in let h = col.few in omega arith;
}

-- a check's turn adds twice its new voice
pub push_is : (w : ℕ) (t : Sign) → signed (is_met t) (pos w) +ℤ push w (turned_sign t) ≡ signed (not (is_met t)) (pos w)
push_is w Met = omega (arith, ints)
push_is w Unmet = omega (arith, ints)

-- the score of a bit, as one sign turns over
pub score_hit : (s : Setting) (d met : ℕ → Bool) (c b : ℕ) (t : Sign) → is_met t ≡ met c → c < s.code.checks → s.code.holds c b ≡ true → score_by s d (turn c met) b ≡ score_by s d met b +ℤ push (s.weight c) (turned_sign t)
score_hit s d met c b t is l h =
    let v = sum_but s.code.checks c (heard s (turn c met) b) (heard s met b) l (λ i m ne. ap (λ e. cond (s.code.holds i b) (signed e (pos (s.weight i))) (pos 0)) (turn_other c i met ne)) in
    let new : heard s (turn c met) b c ≡ signed (not (is_met t)) (pos (s.weight c)) = rw (h, turn_same c met, is) in
    let old : heard s met b c ≡ signed (is_met t) (pos (s.weight c)) = rw (h, is) in
    let p = push_is (s.weight c) t in
    omega (arith, ints)

pub score_miss : (s : Setting) (d met : ℕ → Bool) (c b : ℕ) → s.code.holds c b ≡ false → score_by s d (turn c met) b ≡ score_by s d met b
score_miss s d met c b h =
    ap (λ z. own s d b +ℤ z) (sum_ext s.code.checks (heard s (turn c met) b) (heard s met b) (λ i l.
    ⊎_elim
    (λ (same : i ≡ c). let g : s.code.holds i b ≡ false = ap (λ j. s.code.holds j b) same ∙ h in rw g)
    (λ (ne : i ≡ c → ⊥). ap (λ e. cond (s.code.holds i b) (signed e (pos (s.weight i))) (pos 0)) (turn_other c i met ne))
    (cases_eq i c)))

-- digits and signs that need not belong to one another; the score of k is z
pub record Between (s : Setting) (d : ℕ → Bool) (k : ℕ) (z : ℤ) (met : ℕ → Bool) (m : Memory) : Type 0 where
  pub bits : length m.records ≡ s.code.bits
  pub checks : length m.signs ≡ s.code.checks
  pub digits : (b : ℕ) → b < s.code.bits → (get_or m.records b blank).digit ≡ d b
  pub levels : (b : ℕ) → b < s.code.bits → (get_or m.records b blank).level ≡ s.level b
  pub score : (get_or m.records k blank).score ≡ z
  pub scores : (b : ℕ) → b < s.code.bits → (b ≡ k → ⊥) → (get_or m.records b blank).score ≡ score_by s d met b
  pub signs : (c : ℕ) → c < s.code.checks → is_met (get_or m.signs c Met) ≡ met c

module _ (a : Answers) (w : ℕ) (s : Setting) (fits : Fits a w s) where
  -- a raise is exact, where it leads to a score
  raise_exact : (d met : ℕ → Bool) (b : ℕ) (x by : ℤ) → b < s.code.bits → x +ℤ by ≡ score_by s d met b → saturate_to_bits 15 (x +ℤ by) ≡ score_by s d met b
  raise_exact d met b x by l e = ap (saturate_to_bits 15) e ∙ small_16 (score_by s d met b) (score_by_within s d (modest a w s fits) met b l)

  turn_is : (k c : ℕ) (m : Memory) (n : ℕ) → c < length m.signs → a.check_degree c ≡ Some n → turn_check a k w (Some c) m ≡ memory (raise_places (a.check_bit c) k (push w (turned_sign (get_or m.signs c Met))) n m.records) (set m.signs c (turned_sign (get_or m.signs c Met)))
  turn_is k c m n l e = rw (lt-ltb c (length m.signs) l, e)

  -- one check of k
  check_between : (d : ℕ → Bool) (k : ℕ) (z : ℤ) (met : ℕ → Bool) (m : Memory) (c : ℕ) → c < s.code.checks → Between s d k z met m → Between s d k z (turn c met) (turn_check a k w (Some c) m)
  check_between d k z met m c l B =
      let row = fits.lawful.rows.lists c l in
      let e = B.checks in
      let lc : c < length m.signs = omega arith in
      let sign : is_met (get_or m.signs c Met) ≡ met c = B.signs c l in
      let by = push w (turned_sign (get_or m.signs c Met)) in
      let rs = raise_places (a.check_bit c) k by row.count m.records in
      let ss = set m.signs c (turned_sign (get_or m.signs c Met)) in
      let by-is : by ≡ push (s.weight c) (turned_sign (get_or m.signs c Met)) = ap (λ v. push v (turned_sign (get_or m.signs c Met))) (sym (fits.weights c l)) in
      let after : Between s d k z (turn c met) (memory rs ss) = record {
        bits = raise_length (a.check_bit c) k by row.count m.records ∙ B.bits;
        checks = length-set m.signs c _ ∙ B.checks;
        digits = λ b h. row_kept (λ (r : Bit). r.digit) (a.check_bit c) k by (λ r. refl) b row.count m.records ∙ B.digits b h;
        levels = λ b h. row_kept (λ (r : Bit). r.level) (a.check_bit c) k by (λ r. refl) b row.count m.records ∙ B.levels b h;
        score = ap (λ (r : Bit). r.score) (raise_self (a.check_bit c) k by row.count m.records) ∙ B.score;
        scores = λ b h ne.
            ⊎_elim
            (λ (t : s.code.holds c b ≡ true).
            let lb : b < length m.records = (let q = B.bits in omega arith) in
            let hit = row_hit (a.check_degree c) (a.check_bit c) s.code.bits (s.code.holds c) _ _ row k by m.records b ne lb h t in
            let sum : (get_or m.records b blank).score +ℤ by ≡ score_by s d (turn c met) b = ap (λ v. v +ℤ by) (B.scores b h ne) ∙ ap (λ v. score_by s d met b +ℤ v) by-is ∙ sym (score_hit s d met c b (get_or m.signs c Met) sign l t) in
            ap (λ (r : Bit). r.score) hit ∙ raise_exact d (turn c met) b (get_or m.records b blank).score by h sum)
            (λ (f : s.code.holds c b ≡ false).
            ap (λ (r : Bit). r.score) (row_miss (a.check_degree c) (a.check_bit c) s.code.bits (s.code.holds c) _ _ row k by m.records b f) ∙ B.scores b h ne ∙ sym (score_miss s d met c b f))
            (cases_Bool (s.code.holds c b));
        signs = λ i h.
            ⊎_elim
            (λ (same : i ≡ c). ap (λ j. is_met (get_or ss j Met)) same ∙ ap is_met (get_or-set_same m.signs c _ Met lc) ∙ met_turned (get_or m.signs c Met) ∙ ap not sign ∙ sym (ap (turn c met) same ∙ turn_same c met))
            (λ (ne : i ≡ c → ⊥). ap is_met (get_or-set_other m.signs c i _ Met ne) ∙ B.signs i h ∙ sym (turn_other c i met ne))
            (cases_eq i c);
      } in
      subst (Between s d k z (turn c met)) (sym (turn_is k c m row.count lc row.sized)) after

  -- the first checks of k
  abbrev toggle_at : Option ℕ → (ℕ → Bool) → ℕ → Bool
  toggle_at None met = met
  toggle_at (Some c) met = turn c met

  abbrev toggles : (ℕ → Option ℕ) → (ℕ → Bool) → ℕ → ℕ → Bool
  toggles place met zero = met
  toggles place met (suc p) = toggle_at (place p) (toggles place met p)

  places_between : (d : ℕ → Bool) (k : ℕ) (z : ℤ) (met : ℕ → Bool) (m : Memory) → Between s d k z met m → (n : ℕ) → ((p : ℕ) → p < n → (c : ℕ) × (a.bit_check k p ≡ Some c) × (c < s.code.checks)) → Between s d k z (toggles (a.bit_check k) met n) (turn_places a k w n m)
  places_between d k z met m B zero inside = B
  places_between d k z met m B (suc n) inside =
      let here = inside n (omega arith) in
      let rest = places_between d k z met m B n (λ p l. inside p (omega arith)) in
      let one = check_between d k z (toggles (a.bit_check k) met n) (turn_places a k w n m) here.0 here.2 rest in
      subst (λ (o : Option ℕ). Between s d k z (toggle_at o (toggles (a.bit_check k) met n)) (turn_check a k w o (turn_places a k w n m))) (sym here.1) one

  toggle_miss : (c : ℕ) (o : Option ℕ) (met : ℕ → Bool) → (o ≡ Some c → ⊥) → toggle_at o met c ≡ met c
  toggle_miss c None met never = refl
  toggle_miss c (Some x) met never = turn_other x c met (λ e. never (ap Some (sym e)))

  toggles_miss : (place : ℕ → Option ℕ) (met : ℕ → Bool) (c n : ℕ) → ((q : ℕ) → q < n → place q ≡ Some c → ⊥) → toggles place met n c ≡ met c
  toggles_miss place met c zero never = refl
  toggles_miss place met c (suc n) never = toggle_miss c (place n) (toggles place met n) (never n (omega arith)) ∙ toggles_miss place met c n (λ q l. never q (omega arith))

  toggles_hit : (place : ℕ → Option ℕ) (met : ℕ → Bool) (c n p : ℕ) → ((q : ℕ) → (q ≡ p → ⊥) → place q ≡ Some c → ⊥) → p < n → place p ≡ Some c → toggles place met n c ≡ not (met c)
  toggles_hit place met c zero p once l e = absurd (omega arith)
  toggles_hit place met c (suc n) p once l e =
      ⊎_elim
      (λ (same : p ≡ n).
      ap (λ o. toggle_at o (toggles place met n) c) (ap place (sym same) ∙ e)
      ∙ turn_same c (toggles place met n)
      ∙ ap not (toggles_miss place met c n (λ q m. once q (λ z. omega arith))))
      (λ (other : p ≡ n → ⊥).
      toggle_miss c (place n) (toggles place met n) (once n (λ z. other (sym z)))
      ∙ toggles_hit place met c n p once (omega arith) e)
      (cases_eq p n)

  -- the whole column turns exactly the signs of the checks that hold k
  column_met : (d : ℕ → Bool) (k : ℕ) (l : k < s.code.bits) (c : ℕ) → c < s.code.checks → toggles (a.bit_check k) (met_of s.code d) (fits.lawful.columns.lists k l).count c ≡ met_of s.code (turn k d) c
  column_met d k l c h =
      let col = fits.lawful.columns.lists k l in
      ⊎_elim
      (λ (t : s.code.holds c k ≡ true).
      let w = col.all c h t in
      toggles_hit (a.bit_check k) (met_of s.code d) c col.count w.0 (once_only (a.bit_check k) col.rises c w.0 w.2) w.1 w.2
      ∙ sym (met_held s.code d k c l t))
      (λ (f : s.code.holds c k ≡ false).
      toggles_miss (a.bit_check k) (met_of s.code d) c col.count (not_listed (a.bit_degree k) (a.bit_check k) s.code.checks (λ e. s.code.holds e k) _ _ col c f)
      ∙ sym (met_free s.code d k c f))
      (cases_Bool (s.code.holds c k))

  -- the digit and the score of k turn_bit, before its checks
  start_between : (d : ℕ → Bool) (k : ℕ) (m : Memory) (e : ℤ) → k < s.code.bits → StandsFor s d m e → Between s (turn k d) k (neg_ℤ (score_by s d (met_of s.code d) k)) (met_of s.code d) (memory (alter turn_bit k m.records) m.signs)
  start_between d k m e l S =
      let lk : k < length m.records = (let q = S.bits in omega arith) in
      let same = alter_same turn_bit k m.records lk in
      record {
        bits = alter_length turn_bit k m.records ∙ S.bits;
        checks = S.checks;
        digits = λ b h.
            ⊎_elim
            (λ (q : b ≡ k). ap (λ i. (get_or (alter turn_bit k m.records) i blank).digit) q ∙ ap (λ (r : Bit). r.digit) same ∙ ap not (S.digits k l) ∙ sym (ap (turn k d) q ∙ turn_same k d))
            (λ (ne : b ≡ k → ⊥). ap (λ (r : Bit). r.digit) (alter_other turn_bit k b m.records ne) ∙ S.digits b h ∙ sym (turn_other k b d ne))
            (cases_eq b k);
        levels = λ b h.
            ⊎_elim
            (λ (q : b ≡ k). ap (λ i. (get_or (alter turn_bit k m.records) i blank).level) q ∙ ap (λ (r : Bit). r.level) same ∙ S.levels k l ∙ ap s.level (sym q))
            (λ (ne : b ≡ k → ⊥). ap (λ (r : Bit). r.level) (alter_other turn_bit k b m.records ne) ∙ S.levels b h)
            (cases_eq b k);
        score =
            let old : (get_or m.records k blank).score ≡ score_by s d (met_of s.code d) k = S.scores k l ∙ score_is s d k in
            let small = score_by_within s (turn k d) (modest a w s fits) (met_of s.code (turn k d)) k l in
            let t = score_turned s d k l in
            let zero-less : pos 0 -ℤ (get_or m.records k blank).score ≡ score_by s (turn k d) (met_of s.code (turn k d)) k = omega (arith, ints) in
            ap (λ (r : Bit). r.score) same ∙ ap (saturate_to_bits 15) zero-less ∙ small_16 (score_by s (turn k d) (met_of s.code (turn k d)) k) small ∙ t;
        scores = λ b h ne. ap (λ (r : Bit). r.score) (alter_other turn_bit k b m.records ne) ∙ S.scores b h ∙ score_is s d b ∙ ap (λ v. v +ℤ sum_below s.code.checks (heard s (met_of s.code d) b)) (sym (own_kept s d k b ne));
        signs = λ c h. value_once _ _ (sym (met_value (get_or m.signs c Met)) ∙ S.signs c h ∙ sign_met s.code d c);
      }

  column_is : (k : ℕ) (m : Memory) (n : ℕ) → k < length m.records → a.bit_degree k ≡ Some n → flipped a k w m ≡ turn_places a k w n (memory (alter turn_bit k m.records) m.signs)
  column_is k m n l e = rw (lt-ltb k (length m.records) l, e)

  -- a flip keeps the memory exact
  pub flip_stands : (d : ℕ → Bool) (k : ℕ) (m : Memory) (e : ℤ) → k < s.code.bits → StandsFor s d m e → StandsFor s (turn k d) (flipped a k w m) (fallen k m.records e)
  flip_stands d k m e l S =
      let col = fits.lawful.columns.lists k l in
      let lk : k < length m.records = (let q = S.bits in omega arith) in
      let z = neg_ℤ (score_by s d (met_of s.code d) k) in
      let done : Between s (turn k d) k z (toggles (a.bit_check k) (met_of s.code d) col.count) (turn_places a k w col.count (memory (alter turn_bit k m.records) m.signs)) =
      places_between (turn k d) k z (met_of s.code d) _ (start_between d k m e l S) col.count (λ p h. let i = col.inside p h in (i.0, i.1, i.2)) in
      let B : Between s (turn k d) k z (toggles (a.bit_check k) (met_of s.code d) col.count) (flipped a k w m) = subst (Between s (turn k d) k z (toggles (a.bit_check k) (met_of s.code d) col.count)) (sym (column_is k m col.count lk col.sized)) done in
      record {
        bits = B.bits;
        checks = B.checks;
        digits = B.digits;
        levels = B.levels;
        scores = λ b h.
            ⊎_elim
            (λ (q : b ≡ k). ap (λ i. (get_or (flipped a k w m).records i blank).score) q ∙ B.score ∙ sym (score_turned s d k l) ∙ sym (score_is s (turn k d) k) ∙ ap (score_of s (turn k d)) (sym q))
            (λ (ne : b ≡ k → ⊥).
            B.scores b h ne
            ∙ ap (λ v. own s (turn k d) b +ℤ v) (sum_ext s.code.checks (heard s (toggles (a.bit_check k) (met_of s.code d) col.count) b) (heard s (met_of s.code (turn k d)) b) (λ c g. ap (λ t. cond (s.code.holds c b) (signed t (pos (s.weight c))) (pos 0)) (column_met d k l c g)))
            ∙ sym (score_is s (turn k d) b))
            (cases_eq b k);
        signs = λ c h. met_value (get_or (flipped a k w m).signs c Met) ∙ ap value_of (B.signs c h ∙ column_met d k l c h) ∙ sym (sign_met s.code (turn k d) c);
        computed =
            let old = S.computed ∙ objective_is s d in
            let own-score : (get_or m.records k blank).score ≡ score_by s d (met_of s.code d) k = S.scores k l ∙ score_is s d k in
            let t = objective_turned s d k l in
            let new = objective_is s (turn k d) in
            let sum : e -ℤ pos 2 *ℤ (get_or m.records k blank).score ≡ objective_by s (turn k d) (met_of s.code (turn k d)) = omega (arith, ints) in
            let is : fallen k m.records e ≡ saturate_to_bits 31 (e -ℤ pos 2 *ℤ (get_or m.records k blank).score) = rw (lt-ltb k (length m.records) lk) in
            is ∙ ap (saturate_to_bits 31) sum ∙ small_32 s.code.bits s.code.checks _ fits.lawful.few_bits fits.lawful.few_checks (sums_within s (turn k d) (modest a w s fits) (met_of s.code (turn k d)) s.code.bits s.code.checks (omega arith) (omega arith)) ∙ sym new;
      }

pub flip_exact : (a : Answers) (k w : ℕ) (m : Memory) (e : ℤ) (m' : Memory) (e' : ℤ) → m' ≡ flipped a k w m → e' ≡ fallen k m.records e → FlipsExactly a k w m e m' e'
flip_exact a k w m e m' e' after fell s d fits l S =
    subst (λ (x : Memory). StandsFor s (turn k d) x e') (sym after) (subst (StandsFor s (turn k d) (flipped a k w m)) (sym fell) (flip_stands a w s fits d k m e l S))
