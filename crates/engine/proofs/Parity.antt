-- The sign of a row, place by place, is the parity of the set that it lists.
use Rattle.std.proofs.Common.{◌≡◌, ℕ, zero, suc, ◌<◌, Bool, true, false, not, ◌&&◌, eqb, List, get_or, Some, Option, sym, refl, ap, ◌∙◌, ⊎_elim, arith, eq-eqb, ne_eqb}
use Rattle.std.proofs.lemmas.Bool.{cases_eq}
use Rattle.codes.specs.Lawful.{Lists}
use Rattle.codes.proofs.Absent.{same_some}
use Rattle.plain.proofs.Even.{flip_if, even_below, even_ext, even_but}
use Rattle.engine.specs.declared.bit.Bit.{Bit}
use Rattle.engine.specs.declared.bit.Sign.{Sign}
use Rattle.engine.specs.Opening.{turn_if, sign_at, sign_places}
use Rattle.engine.specs.Turns.{blank}
use Rattle.engine.proofs.Between.{is_met, met_turned}
use Rattle.engine.proofs.Rows.{once_only}

even_none : (n : ℕ) (f : ℕ → Bool) → ((i : ℕ) → i < n → f i ≡ false) → even_below n f ≡ true
even_none zero f h = refl
even_none (suc n) f h =
    let e = even_none n f (λ i l. h i (omega arith)) in
    let t = h n (omega arith) in
    rw (t, e)

turn_met : (one : Bool) (t : Sign) → is_met (turn_if one t) ≡ flip_if one (is_met t)
turn_met true t = met_turned t
turn_met false t = refl

-- tests
and_false : (t e u : Bool) → e ≡ true → ((t && not e) && u) ≡ false
and_false true true u q = refl
and_false true false u q = absurd (let z : ◌≡◌ {A = ℕ} 0 1 = cc in omega arith)
and_false false e u q = refl

and_true : (t e : Bool) → e ≡ false → (t && not e) ≡ t
and_true true e q = ap not q
and_true false e q = refl

off : (t u d : Bool) → d ≡ false → (t && d) ≡ (u && d)
off true true d q = refl
off true false d q = q
off false true d q = sym q
off false false d q = refl

none : (t d : Bool) → (t ≡ true → ⊥) → (t && d) ≡ false
none true d h = absurd (h refl)
none false d h = refl

-- the set without x
abbrev less : ℕ → (ℕ → Bool) → ℕ → Bool
less x f b = f b && not (eqb b x)

less_same : (x : ℕ) (f : ℕ → Bool) (t : Bool) → (less x f x && t) ≡ false
less_same x f t = and_false (f x) (eqb x x) t (eq-eqb x x refl)

less_other : (x b : ℕ) (f : ℕ → Bool) → (b ≡ x → ⊥) → less x f b ≡ f b
less_other x b f ne = and_true (f b) (eqb b x) (ne_eqb b x ne)

less_in : (c x : ℕ) (t : Bool) → (t && not (eqb c x)) ≡ true → (t ≡ true) × (c ≡ x → ⊥)
less_in c x true e = (refl, λ same. let z : ◌≡◌ {A = ℕ} 0 1 = (let q = eq-eqb c x same in cc) in omega arith)
less_in c x false e = absurd (let z : ◌≡◌ {A = ℕ} 0 1 = cc in omega arith)

-- one more number changes the parity by its digit
even_less : (n x : ℕ) (f d : ℕ → Bool) → x < n → f x ≡ true → (t : Bool) → d x ≡ t → even_below n (λ b. f b && d b) ≡ flip_if t (even_below n (λ b. less x f b && d b))
even_less n x f d l on true e =
    even_but n x (λ b. less x f b && d b) (λ b. f b && d b) l
    (ap (λ t. t && d x) on ∙ e ∙ sym (ap not (less_same x f (d x))))
    (λ b m ne. ap (λ t. t && d b) (sym (less_other x b f ne)))
even_less n x f d l on false e =
    even_ext n (λ b. f b && d b) (λ b. less x f b && d b)
    (λ b m.
    ⊎_elim
    (λ (same : b ≡ x). let g : d b ≡ false = ap d same ∙ e in off (f b) (less x f b) (d b) g)
    (λ (ne : b ≡ x → ⊥). ap (λ t. t && d b) (sym (less_other x b f ne)))
    (cases_eq b x))

-- the first m places list the set f
places_even : (place : ℕ → Option ℕ) (rs : List Bit) (d : ℕ → Bool) (n : ℕ) → ((p q x y : ℕ) → p < q → place p ≡ Some x → place q ≡ Some y → x < y) → ((b : ℕ) → b < n → (get_or rs b blank).digit ≡ d b) → (m : ℕ) (f : ℕ → Bool) → ((p : ℕ) → p < m → (x : ℕ) × (place p ≡ Some x) × (x < n) × (f x ≡ true)) → ((x : ℕ) → x < n → f x ≡ true → (p : ℕ) × (p < m) × (place p ≡ Some x)) → is_met (sign_places place rs m) ≡ even_below n (λ b. f b && d b)
places_even place rs d n rises digits zero f inside all = sym (even_none n (λ b. f b && d b) (λ b l. none (f b) (d b) (λ t. let w = all b l t in omega (arith, w.1))))
places_even place rs d n rises digits (suc m) f inside all =
    let here = inside m (omega arith) in
    let x = here.0 in
    let rest : is_met (sign_places place rs m) ≡ even_below n (λ b. less x f b && d b) =
    places_even place rs d n rises digits m (less x f)
    (λ p l.
    let w = inside p (omega arith) in
    let ne : w.0 ≡ x → ⊥ = λ same. once_only place rises x m here.1 p (λ e. omega arith) (w.1 ∙ ap Some same) in
    (w.0, w.1, w.2, less_other x w.0 f ne ∙ w.3))
    (λ y l t.
    let q = less_in y x (f y) t in
    let w = all y l q.0 in
    let ne : w.0 ≡ m → ⊥ = λ same. q.1 (same_some y x (sym w.2 ∙ ap place same ∙ here.1)) in
    (w.0, omega (arith, w.1), w.2)) in
    ap (λ o. is_met (sign_at rs o (sign_places place rs m))) here.1
    ∙ turn_met (get_or rs x blank).digit (sign_places place rs m)
    ∙ ap (λ t. flip_if t (is_met (sign_places place rs m))) (digits x here.2)
    ∙ ap (flip_if (d x)) rest
    ∙ sym (even_less n x f d here.2 here.3 (d x) refl)

pub row_even : (size : Option ℕ) (place : ℕ → Option ℕ) (n : ℕ) (has : ℕ → Bool) (lo hi : ℕ) (l : Lists size place n has lo hi) (rs : List Bit) (d : ℕ → Bool) → ((b : ℕ) → b < n → (get_or rs b blank).digit ≡ d b) → is_met (sign_places place rs l.count) ≡ even_below n (λ b. has b && d b)
row_even size place n has lo hi l rs d digits = places_even place rs d n l.rises digits l.count has l.inside l.all
