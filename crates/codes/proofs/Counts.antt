-- How many numbers below a bound are in a set, and how many a list of them has.
use Rattle.std.proofs.Common.{◌≡◌, ℕ, zero, suc, ◌+◌, ◌<◌, ◌≤◌, Bool, true, false, cond, List, [], ◌∷◌, length, get_or, count_by, Some, Option, sym, refl, ap, ◌∙◌, ⊎_elim, arith}
use Rattle.std.specs.List.{range_with_len}
use Rattle.std.proofs.lemmas.List.Sums.{sum_by-cons}
use Rattle.std.proofs.lemmas.List.FromFn.{length-range_with_len, get_or-range_with_len}
use Rattle.std.proofs.lemmas.Bool.{cases_eq, cases_lt, cases_Bool}
use Rattle.codes.specs.Lawful.{Lists}
use Rattle.codes.specs.Pairs.{count_below}
use Rattle.codes.proofs.Absent.{same_some}
use Rattle.codes.proofs.Images.{entry_of}

pub unit_few : (b : Bool) → cond b 1 0 ≤ 1
unit_few true = omega arith
unit_few false = omega arith

-- the places of the numbers below m come first, and there are as many as the set has below m
record Split (count : ℕ) (place : ℕ → Option ℕ) (has : ℕ → Bool) (m : ℕ) : Type 0 where
  at : ℕ
  inside : at ≤ count
  below : (p x : ℕ) → p < at → place p ≡ Some x → x < m
  above : (p x : ℕ) → at ≤ p → place p ≡ Some x → m ≤ x
  counts : count_below m has ≡ at

-- one number more, in the set or not
module _ {size : Option ℕ} {place : ℕ → Option ℕ} {bound : ℕ} {has : ℕ → Bool} {least most : ℕ} (l : Lists size place bound has least most) where
  split_in : (m : ℕ) → m < bound → has m ≡ true → Split l.count place has m → Split l.count place has (suc m)
  split_in m h e s =
      let r = l.all m h e in
      let low : s.at ≤ r.0 = ⊎_elim (λ (k : r.0 < s.at). let z : m < m = s.below r.0 m k r.2 in absurd (omega arith)) (λ (k : s.at ≤ r.0). k) (cases_lt r.0 s.at) in
      let here : r.0 ≡ s.at =
      ⊎_elim
      (λ (k : s.at < r.0).
      let w = l.inside s.at (omega (arith, r.1)) in
      let a = s.above s.at w.0 (omega arith) w.1 in
      let b = l.rises s.at r.0 w.0 m k w.1 r.2 in
      absurd (omega arith))
      (λ (k : r.0 ≤ s.at). omega arith)
      (cases_lt s.at r.0) in
      let c = s.counts in
      record {
        at = suc s.at;
        inside = omega (arith, r.1);
        below = λ p x k f.
            ⊎_elim
            (λ (j : p < s.at). let d = s.below p x j f in omega arith)
            (λ (j : s.at ≤ p). let q : p ≡ r.0 = omega arith in let t : x ≡ m = same_some x m (sym f ∙ ap place q ∙ r.2) in omega arith)
            (cases_lt p s.at);
        above = λ p x k f. let d = l.rises r.0 p m x (omega arith) r.2 f in omega arith;
        counts = rw e (omega arith);
      }

  split_out : (m : ℕ) → has m ≡ false → Split l.count place has m → Split l.count place has (suc m)
  split_out m e s =
      let c = s.counts in
      record {
        at = s.at;
        inside = s.inside;
        below = λ p x k f. let d = s.below p x k f in omega arith;
        above = λ p x k f.
            let d = s.above p x k f in
            ⊎_elim
            (λ (same : x ≡ m). let t = (entry_of l p x f).2 in let u : has m ≡ true = ap has (sym same) ∙ t in let z : ◌≡◌ {A = ℕ} 0 1 = cc in absurd (omega arith))
            (λ (other : x ≡ m → ⊥). omega arith)
            (cases_eq x m);
        counts = rw e (omega arith);
      }

  split : (m : ℕ) → m ≤ bound → Split l.count place has m
  split zero h = record { at = 0; inside = omega arith; below = λ p x k f. absurd (omega arith); above = λ p x k f. omega arith; counts = refl }
  split (suc m) h =
      let s = split m (omega arith) in
      ⊎_elim (λ (e : has m ≡ true). split_in m (omega arith) e s) (λ (e : has m ≡ false). split_out m e s) (cases_Bool (has m))

  -- a list has as many numbers as the set
  pub lists_count : l.count ≡ count_below bound has
  lists_count =
      let s = split bound (omega arith) in
      let all : l.count ≤ s.at =
      ⊎_elim
      (λ (k : s.at < l.count).
      let w = l.inside s.at k in
      let a = s.above s.at w.0 (omega arith) w.1 in
      absurd (omega (arith, a, w.2)))
      (λ (k : l.count ≤ s.at). k)
      (cases_lt s.at l.count) in
      omega (arith, s.inside, s.counts, all)

-- ---- sets that differ in one number, or in none
pub count_same : (n : ℕ) (f g : ℕ → Bool) → ((i : ℕ) → i < n → f i ≡ g i) → count_below n f ≡ count_below n g
count_same zero f g same = refl
count_same (suc n) f g same = rw (count_same n f g (λ i h. same i (omega arith)), same n (omega arith))

pub count_none : (n : ℕ) → count_below n (λ i. false) ≡ 0
count_none zero = refl
count_none (suc n) = omega (arith, count_none n)

pub count_one_more : (n k : ℕ) (f g : ℕ → Bool) → k < n → f k ≡ false → g k ≡ true → ((i : ℕ) → (i ≡ k → ⊥) → g i ≡ f i) → count_below n g ≡ count_below n f + 1
count_one_more zero k f g h out into other = absurd (omega arith)
count_one_more (suc n) k f g h out into other =
    ⊎_elim
    (λ (same : k ≡ n).
    let fo : f n ≡ false = ap f (sym same) ∙ out in
    let gi : g n ≡ true = ap g (sym same) ∙ into in
    rw (fo, gi, count_same n g f (λ i l. other i (λ e. omega arith))) (omega arith))
    (λ (apart : k ≡ n → ⊥). rw (count_one_more n k f g (omega arith) out into other, other n (λ e. apart (sym e))) (omega arith))
    (cases_eq k n)

-- ---- counts of a list and of a range, as counts of numbers
first_out : (n : ℕ) (has : ℕ → Bool) → count_below (suc n) has ≡ cond (has 0) 1 0 + count_below n (λ i. has (suc i))
first_out zero has = omega arith
first_out (suc n) has = let e = first_out n has in omega arith

pub count_by_below : {X : Type 0} (p : X → Bool) (d : X) (xs : List X) → count_by p xs ≡ count_below (length xs) (λ i. p (get_or xs i d))
count_by_below p d [] = refl
count_by_below p d (x ∷ xs) =
    let rest : cond (p x) 1 0 + count_by p xs ≡ cond (p x) 1 0 + count_below (length xs) (λ i. p (get_or xs i d)) = ap (λ n. cond (p x) 1 0 + n) (count_by_below p d xs) in
    let all : count_by p (x ∷ xs) ≡ cond (p x) 1 0 + count_by p xs = sum_by-cons (λ y. cond (p y) 1 0) x xs in
    let size : length (x ∷ xs) ≡ suc (length xs) = omega arith in
    all ∙ rest ∙ sym (first_out (length xs) (λ i. p (get_or (x ∷ xs) i d))) ∙ ap (λ n. count_below n (λ i. p (get_or (x ∷ xs) i d))) (sym size)

pub count_by_range : (has : ℕ → Bool) (n : ℕ) → count_by has (range_with_len 0 n) ≡ count_below n has
count_by_range has n = count_by_below has 0 (range_with_len 0 n) ∙ rw (length-range_with_len 0 n) (same_below has n n (omega arith))
  where
    same_below : (has : ℕ → Bool) (n m : ℕ) → m ≤ n → count_below m (λ i. has (get_or (range_with_len 0 n) i 0)) ≡ count_below m has
    same_below has n zero h = refl
    same_below has n (suc m) h =
        let e : get_or (range_with_len 0 n) m 0 ≡ m = omega (arith, get_or-range_with_len 0 n m 0 (omega arith)) in
        rw (same_below has n m (omega arith), e)
