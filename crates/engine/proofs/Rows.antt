-- What raising the bits of a row does to each record.
use Rattle.std.proofs.Common.{◌≡◌, ℕ, zero, suc, ◌<◌, ◌≤◌, Bool, true, false, cond, eqb, List, length, get_or, ℤ, Some, None, Option, sym, refl, ap, ◌∙◌, ⊎_elim, arith, length-set, get_or-set_other, get_or-set_same, eq-eqb, ne_eqb}
use Rattle.std.proofs.lemmas.Bool.{cases_eq, cases_lt}
use Rattle.std.proofs.lemmas.List.{set_past}
use Rattle.engine.specs.declared.bit.Bit.{Bit}
use Rattle.engine.specs.Turns.{blank, raised, alter, raise_other, raise_places}
use Rattle.codes.specs.Lawful.{Lists}
use Rattle.codes.proofs.Absent.{same_some}

pub alter_length : (f : Bit → Bit) (i : ℕ) (rs : List Bit) → length (alter f i rs) ≡ length rs
alter_length f i rs = length-set rs i (f (get_or rs i blank))

pub alter_same : (f : Bit → Bit) (i : ℕ) (rs : List Bit) → i < length rs → get_or (alter f i rs) i blank ≡ f (get_or rs i blank)
alter_same f i rs h = get_or-set_same rs i (f (get_or rs i blank)) blank h

pub alter_other : (f : Bit → Bit) (i j : ℕ) (rs : List Bit) → (j ≡ i → ⊥) → get_or (alter f i rs) j blank ≡ get_or rs j blank
alter_other f i j rs ne = get_or-set_other rs i j (f (get_or rs i blank)) blank ne

-- one place
cond_length : (t : Bool) (by : ℤ) (b : ℕ) (rs : List Bit) → length (cond t rs (alter (raised by) b rs)) ≡ length rs
cond_length true by b rs = refl
cond_length false by b rs = alter_length (raised by) b rs

other_length : (k : ℕ) (by : ℤ) (o : Option ℕ) (rs : List Bit) → length (raise_other k by o rs) ≡ length rs
other_length k by None rs = refl
other_length k by (Some b) rs = cond_length (eqb b k) by b rs

cond_miss : (t : Bool) (by : ℤ) (x b : ℕ) (rs : List Bit) → (b ≡ x → ⊥) → get_or (cond t rs (alter (raised by) x rs)) b blank ≡ get_or rs b blank
cond_miss true by x b rs ne = refl
cond_miss false by x b rs ne = alter_other (raised by) x b rs ne

other_miss : (k : ℕ) (by : ℤ) (b : ℕ) (o : Option ℕ) (rs : List Bit) → (o ≡ Some b → ⊥) → get_or (raise_other k by o rs) b blank ≡ get_or rs b blank
other_miss k by b None rs never = refl
other_miss k by b (Some x) rs never = cond_miss (eqb x k) by x b rs (λ e. never (ap Some (sym e)))

other_self : (k : ℕ) (by : ℤ) (o : Option ℕ) (rs : List Bit) → get_or (raise_other k by o rs) k blank ≡ get_or rs k blank
other_self k by None rs = refl
other_self k by (Some x) rs =
    ⊎_elim
    (λ (same : x ≡ k). rw (eq-eqb x k same))
    (λ (other : x ≡ k → ⊥). cond_miss (eqb x k) by x k rs (λ e. other (sym e)))
    (cases_eq x k)

other_hit : (k : ℕ) (by : ℤ) (b : ℕ) (rs : List Bit) → (b ≡ k → ⊥) → b < length rs → get_or (raise_other k by (Some b) rs) b blank ≡ raised by (get_or rs b blank)
other_hit k by b rs ne h = rw (ne_eqb b k ne) (alter_same (raised by) b rs h)

-- the first places
pub raise_length : (place : ℕ → Option ℕ) (k : ℕ) (by : ℤ) (n : ℕ) (rs : List Bit) → length (raise_places place k by n rs) ≡ length rs
raise_length place k by zero rs = refl
raise_length place k by (suc n) rs = other_length k by (place n) (raise_places place k by n rs) ∙ raise_length place k by n rs

pub raise_self : (place : ℕ → Option ℕ) (k : ℕ) (by : ℤ) (n : ℕ) (rs : List Bit) → get_or (raise_places place k by n rs) k blank ≡ get_or rs k blank
raise_self place k by zero rs = refl
raise_self place k by (suc n) rs = other_self k by (place n) (raise_places place k by n rs) ∙ raise_self place k by n rs

pub raise_miss : (place : ℕ → Option ℕ) (k : ℕ) (by : ℤ) (b n : ℕ) (rs : List Bit) → ((q : ℕ) → q < n → place q ≡ Some b → ⊥) → get_or (raise_places place k by n rs) b blank ≡ get_or rs b blank
raise_miss place k by b zero rs never = refl
raise_miss place k by b (suc n) rs never = other_miss k by b (place n) (raise_places place k by n rs) (never n (omega arith)) ∙ raise_miss place k by b n rs (λ q l. never q (omega arith))

pub raise_hit : (place : ℕ → Option ℕ) (k : ℕ) (by : ℤ) (b n p : ℕ) (rs : List Bit) → (b ≡ k → ⊥) → b < length rs → ((q : ℕ) → (q ≡ p → ⊥) → place q ≡ Some b → ⊥) → p < n → place p ≡ Some b → get_or (raise_places place k by n rs) b blank ≡ raised by (get_or rs b blank)
raise_hit place k by b zero p rs ne h once l e = absurd (omega arith)
raise_hit place k by b (suc n) p rs ne h once l e =
    ⊎_elim
    (λ (same : p ≡ n).
    let here : place n ≡ Some b = ap place (sym same) ∙ e in
    let before : get_or (raise_places place k by n rs) b blank ≡ get_or rs b blank = raise_miss place k by b n rs (λ q m. once q (λ z. omega arith)) in
    ap (λ o. get_or (raise_other k by o (raise_places place k by n rs)) b blank) here
    ∙ other_hit k by b (raise_places place k by n rs) ne (rw (raise_length place k by n rs) h)
    ∙ ap (raised by) before)
    (λ (other : p ≡ n → ⊥).
    other_miss k by b (place n) (raise_places place k by n rs) (once n (λ z. other (sym z)))
    ∙ raise_hit place k by b n p rs ne h once (omega arith) e)
    (cases_eq p n)

-- what rises has a number at one place alone
pub once_only : (place : ℕ → Option ℕ) → ((p q x y : ℕ) → p < q → place p ≡ Some x → place q ≡ Some y → x < y) → (b p : ℕ) → place p ≡ Some b → (q : ℕ) → (q ≡ p → ⊥) → place q ≡ Some b → ⊥
once_only place rises b p e q ne f =
    ⊎_elim
    (λ (lt : q < p). let r : b < b = rises q p b b lt f e in omega arith)
    (λ (ge : p ≤ q). let r : b < b = rises p q b b (omega arith) e f in omega arith)
    (cases_lt q p)

-- a whole row, by the set that it lists
pub row_hit : (size : Option ℕ) (place : ℕ → Option ℕ) (n : ℕ) (has : ℕ → Bool) (lo hi : ℕ) (l : Lists size place n has lo hi) (k : ℕ) (by : ℤ) (rs : List Bit) (b : ℕ) → (b ≡ k → ⊥) → b < length rs → b < n → has b ≡ true → get_or (raise_places place k by l.count rs) b blank ≡ raised by (get_or rs b blank)
row_hit size place n has lo hi l k by rs b ne h m t =
    let w = l.all b m t in
    raise_hit place k by b l.count w.0 rs ne h (once_only place l.rises b w.0 w.2) w.1 w.2

pub not_listed : (size : Option ℕ) (place : ℕ → Option ℕ) (n : ℕ) (has : ℕ → Bool) (lo hi : ℕ) (l : Lists size place n has lo hi) (b : ℕ) → has b ≡ false → (q : ℕ) → q < l.count → place q ≡ Some b → ⊥
not_listed size place n has lo hi l b f q m e =
    let w = l.inside q m in
    let x : w.0 ≡ b = same_some w.0 b (sym w.1 ∙ e) in
    let t : has b ≡ true = ap has (sym x) ∙ w.3 in
    let z : ◌≡◌ {A = ℕ} 0 1 = cc in
    omega arith

pub row_miss : (size : Option ℕ) (place : ℕ → Option ℕ) (n : ℕ) (has : ℕ → Bool) (lo hi : ℕ) (l : Lists size place n has lo hi) (k : ℕ) (by : ℤ) (rs : List Bit) (b : ℕ) → has b ≡ false → get_or (raise_places place k by l.count rs) b blank ≡ get_or rs b blank
row_miss size place n has lo hi l k by rs b f = raise_miss place k by b l.count rs (not_listed size place n has lo hi l b f)

-- what a change of one record keeps
pub alter_keeps : {X : Type 0} (f : Bit → X) (g : Bit → Bit) → ((r : Bit) → f (g r) ≡ f r) → (i : ℕ) (rs : List Bit) (b : ℕ) → f (get_or (alter g i rs) b blank) ≡ f (get_or rs b blank)
alter_keeps f g same i rs b =
    ⊎_elim
    (λ (e : b ≡ i).
    ⊎_elim
    (λ (lt : i < length rs). ap (λ j. f (get_or (alter g i rs) j blank)) e ∙ ap f (alter_same g i rs lt) ∙ same (get_or rs i blank) ∙ ap (λ j. f (get_or rs j blank)) (sym e))
    (λ (ge : length rs ≤ i). ap (λ (l : List Bit). f (get_or l b blank)) (set_past rs i (g (get_or rs i blank)) ge))
    (cases_lt i (length rs)))
    (λ (ne : b ≡ i → ⊥). ap f (alter_other g i b rs ne))
    (cases_eq b i)

cond_kept : {X : Type 0} (f : Bit → X) (t : Bool) (by : ℤ) → ((r : Bit) → f (raised by r) ≡ f r) → (b x : ℕ) (rs : List Bit) → f (get_or (cond t rs (alter (raised by) x rs)) b blank) ≡ f (get_or rs b blank)
cond_kept f true by same b x rs = refl
cond_kept f false by same b x rs = alter_keeps f (raised by) same x rs b

other_kept : {X : Type 0} (f : Bit → X) (k : ℕ) (by : ℤ) → ((r : Bit) → f (raised by r) ≡ f r) → (b : ℕ) (o : Option ℕ) (rs : List Bit) → f (get_or (raise_other k by o rs) b blank) ≡ f (get_or rs b blank)
other_kept f k by same b None rs = refl
other_kept f k by same b (Some x) rs = cond_kept f (eqb x k) by same b x rs

-- what no raise changes
pub row_kept : {X : Type 0} (f : Bit → X) (place : ℕ → Option ℕ) (k : ℕ) (by : ℤ) → ((r : Bit) → f (raised by r) ≡ f r) → (b n : ℕ) (rs : List Bit) → f (get_or (raise_places place k by n rs) b blank) ≡ f (get_or rs b blank)
row_kept f place k by same b zero rs = refl
row_kept f place k by same b (suc n) rs = other_kept f k by same b (place n) (raise_places place k by n rs) ∙ row_kept f place k by same b n rs
