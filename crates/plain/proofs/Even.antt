-- Signs as parities.
use Rattle.std.proofs.Common.{◌≡◌, ℕ, zero, suc, ◌+◌, ◌%◌, ◌<◌, Bool, true, false, cond, not, ◌&&◌, eqb, ℤ, pos, negsuc, ◌+ℤ◌, ◌*ℤ◌, neg_ℤ, sym, refl, ap, ◌∙◌, ⊎_elim, arith, eq-eqb, ne_eqb}
use Rattle.std.proofs.lemmas.Int.{ints}
use Rattle.std.proofs.lemmas.Bool.{cases_eq}
use Rattle.std.proofs.lemmas.Bool.Decides.{nat_tests}
use Rattle.codes.specs.Pairs.{Pairs, count_below}
use Rattle.plain.specs.Scores.{Setting, sum_below, product_below, unit, sign_of, own_of, voice_of, score_of, objective_of}
use Rattle.plain.specs.Turning.{turn}
use Rattle.plain.proofs.Sums.{sum_ext}

-- a parity, turned over by a one
abbrev pub flip_if : Bool → Bool → Bool
flip_if t e = cond t (not e) e

-- a parity as a sign
abbrev pub value_of : Bool → ℤ
value_of true = pos 1
value_of false = negsuc 0

-- whether the ones below n are even in number
abbrev pub even_below : ℕ → (ℕ → Bool) → Bool
even_below zero f = true
even_below (suc n) f = flip_if (f n) (even_below n f)

parity_step : (t : Bool) (n : ℕ) → flip_if t (eqb (n % 2) 0) ≡ eqb ((n + cond t 1 0) % 2) 0
parity_step true n = grind (arith, nat_tests)
parity_step false n = grind (arith, nat_tests)

-- the parity is that of their number
pub even_count : (n : ℕ) (f : ℕ → Bool) → even_below n f ≡ eqb (count_below n f % 2) 0
even_count zero f = refl
even_count (suc n) f = ap (flip_if (f n)) (even_count n f) ∙ parity_step (f n) (count_below n f)

pub even_met : (n : ℕ) (f : ℕ → Bool) → count_below n f % 2 ≡ 0 → even_below n f ≡ true
even_met n f e = even_count n f ∙ eq-eqb (count_below n f % 2) 0 e

-- whether a check is met
abbrev pub met_of : Pairs → (ℕ → Bool) → ℕ → Bool
met_of p digit c = even_below p.bits (λ k. p.holds c k && digit k)

-- a number with a sign
abbrev pub signed : Bool → ℤ → ℤ
signed true z = z
signed false z = neg_ℤ z

step_even : (h d e : Bool) → value_of e *ℤ cond h (unit d) (pos 1) ≡ value_of (flip_if (h && d) e)
step_even true true true = refl
step_even true true false = refl
step_even true false true = refl
step_even true false false = refl
step_even false d true = refl
step_even false d false = refl

product_even : (n : ℕ) (h d : ℕ → Bool) → product_below n (λ k. cond (h k) (unit (d k)) (pos 1)) ≡ value_of (even_below n (λ k. h k && d k))
product_even zero h d = refl
product_even (suc n) h d = ap (λ z. z *ℤ cond (h n) (unit (d n)) (pos 1)) (product_even n h d) ∙ step_even (h n) (d n) (even_below n (λ k. h k && d k))

-- the sign is the parity's value
pub sign_met : (p : Pairs) (d : ℕ → Bool) (c : ℕ) → sign_of p d c ≡ value_of (met_of p d c)
sign_met p d c = product_even p.bits (p.holds c) d

pub value_once : (e f : Bool) → value_of e ≡ value_of f → e ≡ f
value_once true true q = refl
value_once true false q = absurd (omega (arith, ints))
value_once false true q = absurd (omega (arith, ints))
value_once false false q = refl

times_value : (w : ℕ) (e : Bool) → pos w *ℤ value_of e ≡ signed e (pos w)
times_value w true = omega (arith, ints)
times_value w false = omega (arith, ints)

pub unit_times : (d : Bool) (y : ℤ) → unit d *ℤ y ≡ signed (not d) y
unit_times true y = omega (arith, ints)
unit_times false y = omega (arith, ints)

abbrev pub own : Setting → (ℕ → Bool) → ℕ → ℤ
own s d k = signed (not (d k)) (s.level k)

abbrev pub voice : Setting → (ℕ → Bool) → ℕ → ℤ
voice s met c = signed (met c) (pos (s.weight c))

abbrev pub heard : Setting → (ℕ → Bool) → ℕ → ℕ → ℤ
heard s met k c = cond (s.code.holds c k) (voice s met c) (pos 0)

-- the score of digits and signs that need not belong to one another
abbrev pub score_by : Setting → (ℕ → Bool) → (ℕ → Bool) → ℕ → ℤ
score_by s d met k = own s d k +ℤ sum_below s.code.checks (heard s met k)

abbrev pub objective_by : Setting → (ℕ → Bool) → (ℕ → Bool) → ℤ
objective_by s d met = sum_below s.code.bits (own s d) +ℤ sum_below s.code.checks (voice s met)

pub voice_is : (s : Setting) (d : ℕ → Bool) (c : ℕ) → voice_of s d c ≡ voice s (met_of s.code d) c
voice_is s d c = ap (λ z. pos (s.weight c) *ℤ z) (sign_met s.code d c) ∙ times_value (s.weight c) (met_of s.code d c)

pub score_is : (s : Setting) (d : ℕ → Bool) (k : ℕ) → score_of s d k ≡ score_by s d (met_of s.code d) k
score_is s d k =
    let e : own_of s d k ≡ own s d k = unit_times (d k) (s.level k) in
    let t : sum_below s.code.checks (λ c. cond (s.code.holds c k) (voice_of s d c) (pos 0)) ≡ sum_below s.code.checks (heard s (met_of s.code d) k) = sum_ext s.code.checks _ _ (λ c l. ap (λ z. cond (s.code.holds c k) z (pos 0)) (voice_is s d c)) in
    ap (λ z. z +ℤ sum_below s.code.checks (λ c. cond (s.code.holds c k) (voice_of s d c) (pos 0))) e ∙ ap (λ z. own s d k +ℤ z) t

pub objective_is : (s : Setting) (d : ℕ → Bool) → objective_of s d ≡ objective_by s d (met_of s.code d)
objective_is s d =
    ap (λ z. z +ℤ sum_below s.code.checks (voice_of s d)) (sum_ext s.code.bits (own_of s d) (own s d) (λ k l. unit_times (d k) (s.level k)))
    ∙ ap (λ z. sum_below s.code.bits (own s d) +ℤ z) (sum_ext s.code.checks (voice_of s d) (voice s (met_of s.code d)) (λ c l. voice_is s d c))

-- ---- one digit turned over
pub even_ext : (n : ℕ) (f g : ℕ → Bool) → ((i : ℕ) → i < n → f i ≡ g i) → even_below n f ≡ even_below n g
even_ext zero f g h = refl
even_ext (suc n) f g h =
    let e = even_ext n f g (λ i l. h i (omega arith)) in
    let t = h n (omega arith) in
    cc

not_flip : (t e : Bool) → flip_if (not t) e ≡ not (flip_if t e)
not_flip true true = refl
not_flip true false = refl
not_flip false e = refl

flip_not : (t e : Bool) → flip_if t (not e) ≡ not (flip_if t e)
flip_not true e = refl
flip_not false e = refl

pub even_but : (n k : ℕ) (f g : ℕ → Bool) → k < n → g k ≡ not (f k) → ((i : ℕ) → i < n → (i ≡ k → ⊥) → g i ≡ f i) → even_below n g ≡ not (even_below n f)
even_but zero k f g l at h = absurd (omega arith)
even_but (suc n) k f g l at h =
    ⊎_elim
    (λ (same : n ≡ k).
    let r = even_ext n g f (λ i m. h i (omega arith) (λ q. omega arith)) in
    let t : g n ≡ not (f n) = ap g same ∙ at ∙ ap (λ j. not (f j)) (sym same) in
    rw (t, r) (not_flip (f n) (even_below n f)))
    (λ (other : n ≡ k → ⊥).
    let r = even_but n k f g (omega arith) at (λ i m. h i (omega arith)) in
    let t = h n (omega arith) other in
    rw (t, r) (flip_not (f n) (even_below n f)))
    (cases_eq n k)

pub turn_same : (k : ℕ) (d : ℕ → Bool) → turn k d k ≡ not (d k)
turn_same k d = rw (eq-eqb k k refl)

pub turn_other : (k i : ℕ) (d : ℕ → Bool) → (i ≡ k → ⊥) → turn k d i ≡ d i
turn_other k i d ne = rw (ne_eqb i k ne)

and_not : (h d : Bool) → h ≡ true → (h && not d) ≡ not (h && d)
and_not true d e = refl
and_not false d e = absurd (let q : ◌≡◌ {A = ℕ} 0 1 = cc in omega arith)

and_off : (h d e : Bool) → h ≡ false → (h && d) ≡ (h && e)
and_off true d e q = absurd (let z : ◌≡◌ {A = ℕ} 0 1 = cc in omega arith)
and_off false d e q = refl

-- the checks that hold k turn over
pub met_held : (p : Pairs) (d : ℕ → Bool) (k c : ℕ) → k < p.bits → p.holds c k ≡ true → met_of p (turn k d) c ≡ not (met_of p d c)
met_held p d k c l h =
    even_but p.bits k (λ i. p.holds c i && d i) (λ i. p.holds c i && turn k d i) l
    (ap (λ b. p.holds c k && b) (turn_same k d) ∙ and_not (p.holds c k) (d k) h)
    (λ i m ne. ap (λ b. p.holds c i && b) (turn_other k i d ne))

-- and no other
pub met_free : (p : Pairs) (d : ℕ → Bool) (k c : ℕ) → p.holds c k ≡ false → met_of p (turn k d) c ≡ met_of p d c
met_free p d k c h =
    even_ext p.bits (λ i. p.holds c i && turn k d i) (λ i. p.holds c i && d i)
    (λ i m.
    ⊎_elim
    (λ (same : i ≡ k). and_off (p.holds c i) (turn k d i) (d i) (ap (p.holds c) same ∙ h))
    (λ (other : i ≡ k → ⊥). ap (λ b. p.holds c i && b) (turn_other k i d other))
    (cases_eq i k))
