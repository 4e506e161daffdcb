-- Sums below a number.
use Rattle.std.proofs.Common.{◌≡◌, ℕ, zero, suc, ◌+◌, ◌*◌, ◌<◌, Bool, true, false, cond, ℤ, ◌+ℤ◌, neg_ℤ, refl, ap, ⊎_elim, arith}
use Rattle.std.proofs.lemmas.Int.{ints}
use Rattle.std.proofs.lemmas.Bool.{cases_eq}
use Rattle.codes.specs.Pairs.{count_below}
use Rattle.plain.specs.Bounds.{Within}
use Rattle.plain.specs.Scores.{sum_below}

pub sum_ext : (n : ℕ) (f g : ℕ → ℤ) → ((i : ℕ) → i < n → f i ≡ g i) → sum_below n f ≡ sum_below n g
sum_ext zero f g h = refl
sum_ext (suc n) f g h =
    let e = sum_ext n f g (λ i l. h i (omega arith)) in
    let t = h n (omega arith) in
    cc

pub sum_negated : (n : ℕ) (f g : ℕ → ℤ) → ((i : ℕ) → i < n → g i ≡ neg_ℤ (f i)) → sum_below n g ≡ neg_ℤ (sum_below n f)
sum_negated zero f g h = refl
sum_negated (suc n) f g h =
    let e = sum_negated n f g (λ i l. h i (omega arith)) in
    let t = h n (omega arith) in
    omega (arith, ints)

-- each term of f is that of g and twice that of h
pub sum_twice : (n : ℕ) (f g h : ℕ → ℤ) → ((i : ℕ) → i < n → f i ≡ g i +ℤ (h i +ℤ h i)) → sum_below n f ≡ sum_below n g +ℤ (sum_below n h +ℤ sum_below n h)
sum_twice zero f g h e = refl
sum_twice (suc n) f g h e =
    let r = sum_twice n f g h (λ i l. e i (omega arith)) in
    let t = e n (omega arith) in
    omega (arith, ints)

pub sum_plus : (n : ℕ) (f g h : ℕ → ℤ) → ((i : ℕ) → i < n → f i ≡ g i +ℤ h i) → sum_below n f ≡ sum_below n g +ℤ sum_below n h
sum_plus zero f g h e = refl
sum_plus (suc n) f g h e =
    let r = sum_plus n f g h (λ i l. e i (omega arith)) in
    let t = e n (omega arith) in
    omega (arith, ints)

-- f and g differ at k alone
pub sum_but : (n k : ℕ) (f g : ℕ → ℤ) → k < n → ((i : ℕ) → i < n → (i ≡ k → ⊥) → f i ≡ g i) → sum_below n f +ℤ g k ≡ sum_below n g +ℤ f k
sum_but zero k f g l h = absurd (omega arith)
sum_but (suc n) k f g l h =
    ⊎_elim
    (λ (same : n ≡ k).
    let e = sum_ext n f g (λ i m. h i (omega arith) (λ q. omega arith)) in
    let ef : f n ≡ f k = ap f same in
    let eg : g n ≡ g k = ap g same in
    omega (arith, ints))
    (λ (other : n ≡ k → ⊥).
    let r = sum_but n k f g (omega arith) (λ i m. h i (omega arith)) in
    let t = h n (omega arith) other in
    omega (arith, ints))
    (cases_eq n k)

small_step : (b c : ℕ) (t : Bool) (y z : ℤ) → Within (b * c) y → Within (cond t b 0) z → Within (b * (c + cond t 1 0)) (y +ℤ z)
small_step b c true y z p q =
    let l = p.low in let h = p.high in let m = q.low in let g = q.high in
    record { low = omega (arith, ints); high = omega (arith, ints) }
small_step b c false y z p q =
    let l = p.low in let h = p.high in let m = q.low in let g = q.high in
    record { low = omega (arith, ints); high = omega (arith, ints) }

pub sum_small : (b n : ℕ) (h : ℕ → Bool) (f : ℕ → ℤ) → ((i : ℕ) → i < n → Within (cond (h i) b 0) (f i)) → Within (b * count_below n h) (sum_below n f)
sum_small b zero h f each = record { low = omega (arith, ints); high = omega (arith, ints) }
sum_small b (suc n) h f each = small_step b (count_below n h) (h n) (sum_below n f) (f n) (sum_small b n h f (λ i l. each i (omega arith))) (each n (omega arith))
