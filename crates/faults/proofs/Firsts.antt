-- The least number that passes a test.
use Rattle.std.proofs.Common.{◌≡◌, ℕ, zero, suc, ◌+◌, ◌*◌, ◌/◌, ◌<◌, ◌≤◌, ◌⊎◌, inl, inr, Bool, true, false, cond, List, [], ◌∷◌, ◌++◌, length, get_or, Some, None, Option, position, sym, refl, ap, ◌∙◌, ⊎_elim, arith}
use Rattle.std.specs.List.{range_with_len, find, position_or_len}
use Rattle.std.specs.Option.{option_or}
use Rattle.std.proofs.lemmas.List.Folds.{find-append}
use Rattle.std.proofs.lemmas.List.Sums.{fails_before_first, passes_at_first}
use Rattle.std.proofs.lemmas.Nat.{mul-add-lt, div-mul-add, div_below}
use Rattle.std.proofs.lemmas.Bool.{cases_eq, cases_lt}
use Rattle.faults.specs.First.{or_else, first}

first_here : (t : ℕ → Bool) (n : ℕ) → first t n ≡ None → t n ≡ true → first t (suc n) ≡ Some n
first_here t n e f = rw (e, f)

first_kept : (t : ℕ → Bool) (n i : ℕ) → first t n ≡ Some i → first t (suc n) ≡ Some i
first_kept t n i e = rw e

-- the first that passes
pub first_found : (t : ℕ → Bool) (i n : ℕ) → first t i ≡ None → t i ≡ true → i < n → first t n ≡ Some i
first_found t i zero e f h = absurd (omega arith)
first_found t i (suc n) e f h =
    ⊎_elim
    (λ (same : i ≡ n). let g : first t n ≡ None = rw same at e in let k : t n ≡ true = rw same at f in first_here t n g k ∙ ap Some (sym same))
    (λ (other : i ≡ n → ⊥). first_kept t n i (first_found t i n e f (omega arith)))
    (cases_eq i n)

or_else_none : (o u : Option ℕ) → or_else o u ≡ None → (o ≡ None) × (u ≡ None)
or_else_none None u e = (refl, e)
or_else_none (Some i) u e = let z : ◌≡◌ {A = ℕ} 0 1 = cc in absurd (omega arith)

cond_none : (b : Bool) (n : ℕ) → cond b (Some n) None ≡ None → b ≡ false
cond_none true n e = let z : ◌≡◌ {A = ℕ} 0 1 = cc in absurd (omega arith)
cond_none false n e = refl

-- where none passes, each fails
pub first_none : (t : ℕ → Bool) (n : ℕ) → first t n ≡ None → (i : ℕ) → i < n → t i ≡ false
first_none t zero e i h = absurd (omega arith)
first_none t (suc n) e i h =
    let b = or_else_none (first t n) (cond (t n) (Some n) None) e in
    ⊎_elim
    (λ (same : i ≡ n). rw same (cond_none (t n) n b.1))
    (λ (other : i ≡ n → ⊥). first_none t n b.0 i (omega arith))
    (cases_eq i n)

pub first_all : (t : ℕ → Bool) (n : ℕ) → ((i : ℕ) → i < n → t i ≡ false) → first t n ≡ None
first_all t zero none = refl
first_all t (suc n) none = rw (first_all t n (λ i h. none i (omega arith)), none n (omega arith))

-- tests that agree
pub first_same : (t u : ℕ → Bool) (n : ℕ) → ((i : ℕ) → i < n → t i ≡ u i) → first t n ≡ first u n
first_same t u zero same = refl
first_same t u (suc n) same = rw (first_same t u n (λ i h. same i (omega arith)), same n (omega arith))

-- a test of blocks passes first at the start of the first block
block_false : (t u : ℕ → Bool) (i size : ℕ) → 0 < size → ((x : ℕ) → x < i * size → t x ≡ u (x / size)) → first u i ≡ None → first t (i * size) ≡ None
block_false t u i size some same e = first_all t (i * size) (λ x h. same x h ∙ first_none u i e (x / size) (div_below x size i some h))

pub first_block : (t u : ℕ → Bool) (i n size : ℕ) → 0 < size → ((x : ℕ) → x < n * size → t x ≡ u (x / size)) → i < n → first u i ≡ None → u i ≡ true → first t (n * size) ≡ Some (i * size)
first_block t u i n size some same h e f =
    let le : i * size + 0 < n * size = omega (arith, mul-add-lt i size 0 n h some) in
    let z : i * size + 0 ≡ i * size = omega arith in
    let at : t (i * size) ≡ true = same (i * size) (omega arith) ∙ ap (λ k. u (k / size)) (sym z) ∙ ap u (div-mul-add i size 0 some) ∙ f in
    first_found t (i * size) (n * size) (block_false t u i size some (λ x l. same x (omega arith)) e) at (omega arith)

pub first_no_block : (t u : ℕ → Bool) (n size : ℕ) → 0 < size → ((x : ℕ) → x < n * size → t x ≡ u (x / size)) → first u n ≡ None → first t (n * size) ≡ None
first_no_block t u n size some same e = block_false t u n size some same e

-- the first item of a list that passes
module _ {X : Type 0} (p : X → Bool) (d : X) where
  pub position_first : (xs : List X) → position p xs ≡ first (λ i. p (get_or xs i d)) (length xs)
  position_first xs = by (cases_lt (position_or_len p xs) (length xs))
    where
      t : ℕ → Bool
      t i = p (get_or xs i d)

      by : (position_or_len p xs < length xs) ⊎ (length xs ≤ position_or_len p xs) → position p xs ≡ first t (length xs)
      by (inl h) =
          let found : position p xs ≡ Some (position_or_len p xs) = grind arith in
          found ∙ sym (first_found t (position_or_len p xs) (length xs) (first_all t (position_or_len p xs) (λ i k. fails_before_first p xs i d k)) (passes_at_first p xs d h) h)
      by (inr h) =
          let none : position p xs ≡ None = grind arith in
          none ∙ sym (first_all t (length xs) (λ i k. fails_before_first p xs i d (omega arith)))

-- the first number of a range that passes
pub range_more : (a n : ℕ) → range_with_len a (suc n) ≡ range_with_len a n ++ (a + n) ∷ []
range_more a zero = let e : a ≡ a + 0 = omega arith in ap (λ k. k ∷ []) e
range_more a (suc n) = let e : (a + 1) + n ≡ a + suc n = omega arith in ap (λ l. a ∷ l) (range_more (a + 1) n ∙ ap (λ k. range_with_len (a + 1) n ++ k ∷ []) e)

or_else_same : (o u : Option ℕ) → option_or o u ≡ or_else o u
or_else_same None u = refl
or_else_same (Some i) u = refl

pub find_first : (t : ℕ → Bool) (n : ℕ) → find t (range_with_len 0 n) ≡ first t n
find_first t zero = refl
find_first t (suc n) =
    let e : 0 + n ≡ n = omega arith in
    let more : range_with_len 0 (suc n) ≡ range_with_len 0 n ++ n ∷ [] = range_more 0 n ∙ ap (λ k. range_with_len 0 n ++ k ∷ []) e in
    ap (find t) more ∙ find-append t (range_with_len 0 n) (n ∷ []) ∙ or_else_same (find t (range_with_len 0 n)) (find t (n ∷ [])) ∙ ap (λ o. or_else o (cond (t n) (Some n) None)) (find_first t n)
