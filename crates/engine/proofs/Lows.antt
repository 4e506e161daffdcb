-- The lowest bit, as `min_by_key` finds it.
use Rattle.std.proofs.Common.{◌≡◌, ℕ, zero, suc, ◌+◌, ◌<◌, Bool, true, false, cond, List, [], ◌∷◌, length, get_or, map, fold, Bor, ℤ, ◌<ℤ◌, Some, None, Option, MatchOption, sym, refl, ap, ◌∙◌, subst, add-zero, add-one, arith}
use Rattle.std.specs.Cmp.{int_ranks}
use Rattle.std.specs.Fn.{Mut, CalledAt}
use Rattle.std.specs.Iterator.{KeyTurn, PicksMinByKey}
use Rattle.std.specs.List.{enumerate_from, FoldsTo}
use Rattle.std.specs.declared.cmp.Ordering.{Ordering}
use Rattle.std.specs.declared.cmp.Ordering.TheVariants.{Less, Equal, Greater}
use Rattle.std.specs.Ordering.{MatchOrdering, int_cmp, min_by_ordering}
use Rattle.std.proofs.lemmas.Int.{ints}
use Rattle.std.proofs.iter.Yields.{gives_Drains}
use Rattle.std.proofs.lemmas.Iterator.{YieldsList}
use lib.Signed.{lt_z}
use Rattle.plain.specs.Machine.{lowest}
use Rattle.engine.specs.declared.bit.Bit.{Bit}
use Rattle.engine.specs.Turns.{blank}

-- ---- a bit with its number, and the lower of two by a key
picked : (a b : ℤ) {X : Type 0} (p z : X) (o : Ordering) → MatchOrdering o (a <ℤ b) (a ≡ b) (b <ℤ a) → min_by_ordering o p z ≡ cond (lt_z b a) z p
picked a b p z Less h = let no-lt : lt_z b a ≡ false = grind (arith, ints) in rw no-lt
picked a b p z Equal h = let no-lt : lt_z b a ≡ false = grind (arith, ints) in rw no-lt
picked a b p z Greater h = let is-lt : lt_z b a ≡ true = grind (arith, ints) in rw is-lt

pick_under : {X Y : Type 0} (w : X → Y) (o : Ordering) (p z : X) → w (min_by_ordering o p z) ≡ min_by_ordering o (w p) (w z)
pick_under w Less p z = refl
pick_under w Equal p z = refl
pick_under w Greater p z = refl

abbrev lower_by : {B : Type 0} → (B → ℤ) → B → B → B
lower_by h p z = min_by_ordering (int_cmp (h p) (h z)) p z

-- the lower of the best so far and the next
low_step : (G : ℕ → ℤ) (h : ℕ × Bit → ℤ) (n l : ℕ) (t : Bool) (best next : ℕ × Bit) → best.0 ≡ l → h best ≡ G l → next.0 ≡ n → h next ≡ G n → ((cond t next best).0 ≡ cond t n l) × (h (cond t next best) ≡ G (cond t n l))
low_step G h n l true best next a s b u = (b, u)
low_step G h n l false best next a s b u = (a, s)

lowest_fold : (G : ℕ → ℤ) (h : ℕ × Bit → ℤ) (bs : List Bit) (n : ℕ) (best : ℕ × Bit) → best.0 ≡ lowest G n → h best ≡ G (lowest G n) → ((i : ℕ) → i < length bs → h (n + i, get_or bs i blank) ≡ G (n + i)) → (fold (lower_by h) best (enumerate_from n bs)).0 ≡ lowest G (n + length bs)
lowest_fold G h [] n best at key same = let e : n ≡ n + 0 = omega arith in at ∙ ap (lowest G) e
lowest_fold G h (b ∷ bs) n best at key same =
    let here : h (n, b) ≡ G n = rw add-zero at (same 0 (omega arith)) in
    let step = low_step G h n (lowest G n) (lt_z (G n) (G (lowest G n))) best (n, b) at key refl here in
    let chosen : lower_by h best (n, b) ≡ cond (lt_z (G n) (G (lowest G n))) (n, b) best = picked (h best) (h (n, b)) best (n, b) _ (int_ranks (h best) (h (n, b))) ∙ ap (λ z. cond (lt_z z (h best)) (n, b) best) here ∙ ap (λ z. cond (lt_z (G n) z) (n, b) best) key in
    let more : (i : ℕ) → i < length bs → h (n + 1 + i, get_or bs i blank) ≡ G (n + 1 + i) = λ i l. let e : n + suc i ≡ n + 1 + i = omega arith in subst (λ j. h (j, get_or bs i blank) ≡ G j) e (same (suc i) (omega arith)) in
    let rest = lowest_fold G h bs (n + 1) (lower_by h best (n, b)) (rw add-one (ap (λ (p : ℕ × Bit). p.0) chosen ∙ step.0)) (rw add-one (ap h chosen ∙ step.1)) more in
    let e : n + 1 + length bs ≡ n + length (b ∷ bs) = omega arith in
    rest ∙ ap (lowest G) e

-- the calls of `min_by_key`, where the closure answers the key h of what v reads
module _ {A B F : Type 0} (v : A → B) (h : B → ℤ) (g : Mut F (Bor A × Unit {0}) ℤ) (f : F) (acts : (x : A) (r : ℤ) (q : F) → CalledAt g f x r q → (q ≡ f) × (r ≡ h (v x))) where
  key_folds : (xs : List A) (p q : (F × ℤ) × A) → p.0.0 ≡ f → p.0.1 ≡ h (v p.1) → FoldsTo (KeyTurn min_by_ordering min_by_ordering g int_cmp) p xs q → v q.1 ≡ fold (lower_by h) (v p.1) (map v xs)
  key_folds [] p q same key d = ap (λ (w : (F × ℤ) × A). v w.1) (sym d)
  key_folds (x ∷ xs) p q same key d =
      let j = d.0 in
      let k = d.1.0 in
      let o = d.1.1 in
      let call = acts x k j.0.0 (subst (λ w. CalledAt g w x k j.0.0) same d.1.2) in
      let is : o ≡ int_cmp (h (v p.1)) (h (v x)) = sym d.1.3 ∙ ap (λ z. int_cmp z k) key ∙ ap (int_cmp (h (v p.1))) call.1 in
      let low : v j.1 ≡ lower_by h (v p.1) (v x) = ap v d.1.5 ∙ pick_under v o p.1 x ∙ ap (λ r. min_by_ordering r (v p.1) (v x)) is in
      let kept : j.0.1 ≡ h (v j.1) = d.1.4 ∙ ap (λ z. min_by_ordering o z k) key ∙ ap (min_by_ordering o (h (v p.1))) call.1 ∙ sym (pick_under h o (v p.1) (v x)) ∙ ap h (sym (pick_under v o p.1 x)) ∙ ap (λ y. h (v y)) (sym d.1.5) in
      key_folds xs j q call.0 kept d.2 ∙ ap (λ b. fold (lower_by h) b (map v xs)) low

first_low : (G : ℕ → ℤ) → lowest G 1 ≡ 0
first_low G = either_way (lt_z (G 0) (G 0))
  where
    either_way : (t : Bool) → ◌≡◌ {A = ℕ} (cond t 0 0) 0
    either_way true = refl
    either_way false = refl

-- the bit that `min_by_key` finds among all of them, or that there is none
module _ {S A F : Type 0} {steps : S → Option A → S → Type 0} {v : A → ℕ × Bit} {s : S} (g : Mut F (Bor A × Unit {0}) ℤ) (h : ℕ × Bit → ℤ) {f : F} (acts : (x : A) (r : ℤ) (q : F) → CalledAt g f x r q → (q ≡ f) × (r ≡ h (v x))) (G : ℕ → ℤ) where
  min_is : (rs : List Bit) (r : Option A) → ((i : ℕ) → i < length rs → h (i, get_or rs i blank) ≡ G i) → YieldsList steps v s (enumerate_from 0 rs) → PicksMinByKey steps g int_cmp s f r → MatchOption r (0 ≡ lowest G (length rs)) (λ y. (v y).0 ≡ lowest G (length rs))
  min_is [] None same all d = refl
  min_is (b ∷ bs) None same all d = let e : [] ≡ enumerate_from 0 (b ∷ bs) = gives_Drains steps v [] (enumerate_from 0 (b ∷ bs)) s all.runs d in cc
  min_is [] (Some y) same all d = let e : map v (d.0 ∷ d.1) ≡ [] = gives_Drains steps v (d.0 ∷ d.1) [] s all.runs d.5 in cc
  min_is (b ∷ bs) (Some y) same all d =
      let e : v d.0 ∷ map v d.1 ≡ (0, b) ∷ enumerate_from 1 bs = gives_Drains steps v (d.0 ∷ d.1) (enumerate_from 0 (b ∷ bs)) s all.runs d.5 in
      let call = acts d.0 d.2 d.3 d.6 in
      let folds : v y ≡ fold (lower_by h) (v d.0) (map v d.1) = key_folds v h g f acts d.1 ((d.3, d.2), d.0) (d.4, y) call.0 call.1 d.7 in
      let first : v d.0 ≡ (0, b) = cc in
      let rest : map v d.1 ≡ enumerate_from 1 bs = cc in
      let zero-is : h (0, b) ≡ G (lowest G 1) = same 0 (omega arith) ∙ ap G (sym (first_low G)) in
      let size : 1 + length bs ≡ length (b ∷ bs) = omega arith in
      ap (λ (p : ℕ × Bit). p.0) (folds ∙ ap (λ p. fold (lower_by h) p (map v d.1)) first ∙ ap (fold (lower_by h) (0, b)) rest)
      ∙ lowest_fold G h bs 1 (0, b) (sym (first_low G)) zero-is (λ i l. let e : suc i ≡ 1 + i = omega arith in subst (λ j. h (j, get_or bs i blank) ≡ G j) e (same (suc i) (omega arith)))
      ∙ ap (lowest G) size

  pub found_is : (rs : List Bit) (r : Option A) (at : ℕ) → ((i : ℕ) → i < length rs → h (i, get_or rs i blank) ≡ G i) → YieldsList steps v s (enumerate_from 0 rs) → PicksMinByKey steps g int_cmp s f r → MatchOption r (at ≡ 0) (λ y. at ≡ (v y).0) → at ≡ lowest G (length rs)
  found_is rs None at same all d e = e ∙ min_is rs None same all d
  found_is rs (Some y) at same all d e = e ∙ min_is rs (Some y) same all d

lowest_cond : (t : Bool) (n l : ℕ) → l < suc n → cond t n l < suc (suc n)
lowest_cond true n l h = omega arith
lowest_cond false n l h = omega arith

pub lowest_below : (g : ℕ → ℤ) (n : ℕ) → lowest g n < suc n
lowest_below g zero = omega arith
lowest_below g (suc n) = lowest_cond (lt_z (g n) (g (lowest g n))) n (lowest g n) (lowest_below g n)

-- the same values have the same lowest
pub lowest_same : (g h : ℕ → ℤ) (n : ℕ) → ((i : ℕ) → i < n → g i ≡ h i) → lowest g n ≡ lowest h n
lowest_same g h zero same = refl
lowest_same g h (suc n) same =
    let e = lowest_same g h n (λ i l. same i (omega arith)) in
    let here = same n (omega arith) in
    let low = same (lowest g n) (lowest_below g n) in
    let tests : lt_z (g n) (g (lowest g n)) ≡ lt_z (h n) (h (lowest h n)) = ap (λ (z : ℤ). lt_z z (g (lowest g n))) here ∙ ap (lt_z (h n)) (low ∙ ap h e) in
    ap (λ (t : Bool). cond t n (lowest g n)) tests ∙ ap (cond (lt_z (h n) (h (lowest h n))) n) e
