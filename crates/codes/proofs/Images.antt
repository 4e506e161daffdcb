-- Lists made from other lists: each number moved by a rising function, and one list after another.
use Rattle.std.proofs.Common.{◌≡◌, ℕ, ◌+◌, ◌-◌, ◌<◌, ◌≤◌, Bool, true, ◌⊎◌, Some, None, Option, sym, ap, ◌∙◌, ⊎_elim, arith}
use Rattle.std.proofs.lemmas.Bool.{cases_lt}
use Rattle.codes.specs.Lawful.{Lists, Table}
use Rattle.codes.proofs.Absent.{none_some, same_some}

-- what an entry says
pub entry_of : {size : Option ℕ} {place : ℕ → Option ℕ} {bound : ℕ} {has : ℕ → Bool} {least most : ℕ} (l : Lists size place bound has least most) (p x : ℕ) → place p ≡ Some x → (p < l.count) × (x < bound) × (has x ≡ true)
entry_of {bound = bound} {has = has} l p x e =
    ⊎_elim
    (λ (h : p < l.count).
    let w = l.inside p h in
    let same : w.0 ≡ x = same_some w.0 x (sym w.1 ∙ e) in
    (h, omega (arith, same, w.2), ap has (sym same) ∙ w.3))
    (λ (h : l.count ≤ p). none_some x (sym (l.past p h) ∙ e))
    (cases_lt p l.count)

-- what has a size is below the count
pub has_list : {size : ℕ → Option ℕ} {place : ℕ → ℕ → Option ℕ} {count bound : ℕ} {has : ℕ → ℕ → Bool} {least most : ℕ} (t : Table size place count bound has least most) (i n : ℕ) → size i ≡ Some n → i < count
has_list {count = count} t i n e = ⊎_elim (λ (h : i < count). h) (λ (h : count ≤ i). none_some n (sym (t.no_size i h) ∙ e)) (cases_lt i count)

-- each number moved by g
pub lists_image :
    {size : Option ℕ} {place : ℕ → Option ℕ} {bound : ℕ} {has : ℕ → Bool} {least most : ℕ} (l : Lists size place bound has least most)
    (size' : Option ℕ) (place' : ℕ → Option ℕ) (bound' : ℕ) (has' : ℕ → Bool) (g : ℕ → ℕ)
    → size' ≡ size
    → ((p : ℕ) → place p ≡ None → place' p ≡ None)
    → ((p x : ℕ) → x < bound → place p ≡ Some x → place' p ≡ Some (g x))
    → ((x y : ℕ) → x < y → y < bound → g x < g y)
    → ((x : ℕ) → x < bound → g x < bound')
    → ((x : ℕ) → x < bound → has x ≡ true → has' (g x) ≡ true)
    → ((y : ℕ) → y < bound' → has' y ≡ true → (x : ℕ) × (x < bound) × (has x ≡ true) × (g x ≡ y))
    → Lists size' place' bound' has' least most
lists_image {place = place} {bound = bound} l size' place' bound' has' g same none some mono below into out =
    let read : (p y : ℕ) → place' p ≡ Some y → (x : ℕ) × (place p ≡ Some x) × (x < bound) × (g x ≡ y) =
    λ p y e.
    ⊎_elim
    (λ (h : p < l.count). let w = l.inside p h in (w.0, w.1, w.2, same_some _ y (sym (some p w.0 w.2 w.1) ∙ e)))
    (λ (h : l.count ≤ p). none_some y (sym (none p (l.past p h)) ∙ e))
    (cases_lt p l.count) in
    record {
      count = l.count;
      sized = same ∙ l.sized;
      enough = l.enough;
      few = l.few;
      inside = λ p h. let w = l.inside p h in (g w.0, some p w.0 w.2 w.1, below w.0 w.2, into w.0 w.2 w.3);
      past = λ p h. none p (l.past p h);
      rises = λ p q x y h e f.
          let a = read p x e in
          let b = read q y f in
          omega (arith, mono a.0 b.0 (l.rises p q a.0 b.0 h a.1 b.1) b.2, a.3, b.3);
      all = λ y h e.
          let w = out y h e in
          let r = l.all w.0 w.1 w.2 in
          (r.0, r.1, some r.0 w.0 w.1 r.2 ∙ ap Some w.3);
    }

-- one list after another, all of whose numbers are larger
pub lists_joined :
    {size₁ : Option ℕ} {place₁ : ℕ → Option ℕ} {bound : ℕ} {has₁ : ℕ → Bool} {least₁ most₁ : ℕ} (l : Lists size₁ place₁ bound has₁ least₁ most₁)
    {size₂ : Option ℕ} {place₂ : ℕ → Option ℕ} {has₂ : ℕ → Bool} {least₂ most₂ : ℕ} (m : Lists size₂ place₂ bound has₂ least₂ most₂)
    (size : Option ℕ) (place : ℕ → Option ℕ) (has : ℕ → Bool) (least most : ℕ)
    → size ≡ Some (l.count + m.count)
    → least ≤ l.count + m.count
    → l.count + m.count ≤ most
    → ((p : ℕ) → p < l.count → place p ≡ place₁ p)
    → ((p : ℕ) → l.count ≤ p → place p ≡ place₂ (p - l.count))
    → ((x y : ℕ) → has₁ x ≡ true → has₂ y ≡ true → x < y)
    → ((x : ℕ) → has₁ x ≡ true → has x ≡ true)
    → ((x : ℕ) → has₂ x ≡ true → has x ≡ true)
    → ((x : ℕ) → has x ≡ true → (has₁ x ≡ true) ⊎ (has₂ x ≡ true))
    → Lists size place bound has least most
lists_joined {place₁ = place₁} {has₁ = has₁} l {place₂ = place₂} {has₂ = has₂} m size place has least most same enough few before after apart in₁ in₂ split =
    record {
      count = l.count + m.count;
      sized = same;
      enough = enough;
      few = few;
      inside = λ p h.
          ⊎_elim
          (λ (k : p < l.count). let w = l.inside p k in (w.0, before p k ∙ w.1, w.2, in₁ w.0 w.3))
          (λ (k : l.count ≤ p). let w = m.inside (p - l.count) (omega arith) in (w.0, after p k ∙ w.1, w.2, in₂ w.0 w.3))
          (cases_lt p l.count);
      past = λ p h. after p (omega arith) ∙ m.past (p - l.count) (omega arith);
      rises = λ p q x y h e f.
          ⊎_elim
          (λ (k : q < l.count). l.rises p q x y h (sym (before p (omega arith)) ∙ e) (sym (before q k) ∙ f))
          (λ (k : l.count ≤ q).
          let f₂ : place₂ (q - l.count) ≡ Some y = sym (after q k) ∙ f in
          ⊎_elim
          (λ (j : p < l.count). apart x y (entry_of l p x (sym (before p j) ∙ e)).2 (entry_of m (q - l.count) y f₂).2)
          (λ (j : l.count ≤ p). m.rises (p - l.count) (q - l.count) x y (omega arith) (sym (after p j) ∙ e) f₂)
          (cases_lt p l.count))
          (cases_lt q l.count);
      all = λ x h e.
          ⊎_elim
          (λ (k : has₁ x ≡ true). let r = l.all x h k in (r.0, omega (arith, r.1), before r.0 r.1 ∙ r.2))
          (λ (k : has₂ x ≡ true).
          let r = m.all x h k in
          let at : (l.count + r.0) - l.count ≡ r.0 = omega arith in
          (l.count + r.0, omega (arith, r.1), after (l.count + r.0) (omega arith) ∙ ap place₂ at ∙ r.2))
          (split x e);
    }
