-- The numbers of a range that pass a test, as a list.
use Rattle.std.proofs.Common.{◌≡◌, ℕ, zero, suc, ◌+◌, ◌*◌, ◌%◌, ◌<◌, ◌≤◌, Bool, true, false, cond, eqb, List, [], ◌∷◌, ◌++◌, map, length, get_or, Some, None, Option, sym, refl, ap, ◌∙◌, ⊎_elim, arith, zero-add, zero-mul, mul-le-mul_right}
use Rattle.std.proofs.lemmas.List.{map-append}
use Rattle.std.specs.List.{All, Contains, filter, filter_map, cons_option, range_with_len, slice_get}
use Rattle.std.specs.Option.{option_map}
use Rattle.std.proofs.lemmas.Bool.{cases_eq}
use Rattle.std.proofs.lemmas.Bool.Decides.{nat_tests}
use Rattle.std.proofs.lemmas.List.Elements.{All-cons, All-filter, All-nil, Contains-append_right, filter-append, filter_map-append, filter_passes}
use Rattle.std.proofs.lemmas.List.FromFn.{get_or-range_with_len, length-range_with_len}
use Rattle.std.proofs.lemmas.List.Kept.{AllPairs-filter}
use Rattle.std.proofs.lemmas.List.Sums.{length-filter}
use Rattle.std.proofs.lemmas.Nat.{mod_below}
use Rattle.std.proofs.lemmas.Option.{get_or_from_slice_get, slice_get-get_or, slice_get_past, slice_get_within}
use Rattle.circulant.specs.declared.turn.Turn.{Turn}
use Rattle.circulant.specs.Circles.{leads_to}
use Rattle.circulant.specs.Turns.{landing}
use Rattle.codes.specs.Lawful.{Lists}
use Rattle.codes.specs.Limits.{stride}
use Rattle.codes.specs.Pairs.{count_below}
use Rattle.codes.proofs.Counts.{count_by_range}
use Rattle.faults.proofs.Firsts.{range_more}

-- the numbers below n in a set
abbrev pub numbers : (ℕ → Bool) → ℕ → List ℕ
numbers has n = filter has (range_with_len 0 n)

pub numbers_many : (has : ℕ → Bool) (n : ℕ) → length (numbers has n) ≡ count_below n has
numbers_many has n = length-filter has (range_with_len 0 n) ∙ count_by_range has n

-- each number of the set is among them
one_more : (b : Bool) (a x : ℕ) (l : List ℕ) → Contains l x → Contains (cond b (a ∷ l) l) x
one_more true a x l h = Contains-append_right (a ∷ []) l x h
one_more false a x l h = h

kept : (has : ℕ → Bool) (a n x : ℕ) → a ≤ x → x < a + n → has x ≡ true → Contains (filter has (range_with_len a n)) x
kept has a zero x l h e = absurd (omega arith)
kept has a (suc n) x l h e =
    ⊎_elim
    (λ (same : x ≡ a). let f : has a ≡ true = ap has (sym same) ∙ e in rw (same, f) (0, omega arith, refl))
    (λ (other : x ≡ a → ⊥). one_more (has a) a x (filter has (range_with_len (a + 1) n)) (kept has (a + 1) n x (omega arith) (omega arith) e))
    (cases_eq x a)

-- so they are a lawful list, if there are neither too few nor too many
pub numbers_list : (has : ℕ → Bool) (n least most : ℕ) → least ≤ count_below n has → count_below n has ≤ most → Lists (Some (length (numbers has n))) (slice_get (numbers has n)) n has least most
numbers_list has n least most enough few =
    let l = numbers has n in
    let many = numbers_many has n in
    let size = length-range_with_len 0 n in
    record {
      count = length l;
      sized = refl;
      enough = omega arith;
      few = omega arith;
      inside = λ p h. (get_or l p 0, slice_get-get_or l p 0 h, All-filter has (λ y. y < n) (range_with_len 0 n) (λ k d i. omega (arith, get_or-range_with_len 0 n k d (omega arith))) p 0 h, filter_passes has (range_with_len 0 n) p 0 h);
      past = λ p h. slice_get_past l p h;
      rises = λ p q x y h e f.
          let rise = AllPairs-filter (λ x y. x < y) has (range_with_len 0 n) (λ i j d k m. omega (arith, get_or-range_with_len 0 n i d (omega arith), get_or-range_with_len 0 n j d (omega arith))) in
          omega (arith, rise p q 0 h (slice_get_within l q y f), get_or_from_slice_get l p x 0 e, get_or_from_slice_get l q y 0 f);
      all = λ x h e. let r = kept has 0 n x (omega arith) (omega arith) e in (r.0, r.1, slice_get-get_or l r.0 x r.1 ∙ ap Some r.2);
    }

-- ---- a range in two parts, and a part with one number of the set or none
range_add : (a m n : ℕ) → range_with_len a (m + n) ≡ range_with_len a m ++ range_with_len (a + m) n
range_add a zero n =
    let e : zero + n ≡ n = omega arith in
    let f : a + zero ≡ a = omega arith in
    rw (e, f) refl
range_add a (suc m) n =
    let e : suc m + n ≡ suc (m + n) = omega arith in
    let f : a + suc m ≡ (a + 1) + m = omega arith in
    rw (e, f) (ap (λ l. a ∷ l) (range_add (a + 1) m n))

filter_none : (has : ℕ → Bool) (a n : ℕ) → ((k : ℕ) → k < n → has (a + k) ≡ false) → filter has (range_with_len a n) ≡ []
filter_none has a zero none = refl
filter_none has a (suc n) none =
    let z : a ≡ a + 0 = omega arith in
    let e : has a ≡ false = ap has z ∙ none 0 (omega arith) in
    rw e (filter_none has (a + 1) n (λ k h. let s : (a + 1) + k ≡ a + (k + 1) = omega arith in ap has s ∙ none (k + 1) (omega arith)))

filter_one : (has : ℕ → Bool) (a n t : ℕ) → t < n → ((k : ℕ) → k < n → has (a + k) ≡ eqb k t) → filter has (range_with_len a n) ≡ (a + t) ∷ []
filter_one has a zero t h one = absurd (omega arith)
filter_one has a (suc n) zero h one =
    let z : a ≡ a + 0 = omega arith in
    let e : has a ≡ true = ap has z ∙ one 0 (omega arith) in
    rw e (ap (λ l. a ∷ l) (filter_none has (a + 1) n (λ k h. let s : (a + 1) + k ≡ a + (k + 1) = omega arith in ap has s ∙ one (k + 1) (omega arith) ∙ grind (arith, nat_tests))) ∙ ap (λ k. k ∷ []) z)
filter_one has a (suc n) (suc t) h one =
    let z : a ≡ a + 0 = omega arith in
    let e : has a ≡ false = ap has z ∙ one 0 (omega arith) ∙ grind (arith, nat_tests) in
    let f : (a + 1) + t ≡ a + suc t = omega arith in
    rw e (filter_one has (a + 1) n t (omega arith) (λ k h. let s : (a + 1) + k ≡ a + (k + 1) = omega arith in ap has s ∙ one (k + 1) (omega arith) ∙ grind (arith, nat_tests)) ∙ ap (λ k. k ∷ []) f)

-- ---- the turns of a row or a column, as the numbers that they lead to from the place r
module _ (size r : ℕ) (some : 0 < size) (f : ℕ → ℕ) where
  abbrev pub turn : ℕ → Option ℕ → Option Turn
  turn a o = option_map (λ u. record { start = a; by = f u }) o

  block : (has : ℕ → Bool) (a : ℕ) (o : Option ℕ) → ((t : ℕ) → t < size → has (a + t) ≡ leads_to size r t (option_map f o)) → map (landing size r) (cons_option (turn a o) []) ≡ filter has (range_with_len a size)
  block has a None leads = sym (filter_none has a size leads)
  block has a (Some u) leads = sym (filter_one has a size ((r + f u) % size) (mod_below (r + f u) size some) leads)

  pub landed : (has : ℕ → Bool) (o : ℕ → Option ℕ) (n : ℕ) → ((y t : ℕ) → y < n → t < size → has (y * size + t) ≡ leads_to size r t (option_map f (o y))) → map (landing size r) (filter_map (λ y. turn (y * size) (o y)) (range_with_len 0 n)) ≡ numbers has (n * size)
  landed has o zero leads = rw (zero-mul size) refl
  landed has o (suc n) leads =
      let h : ℕ → Option Turn = λ y. turn (y * size) (o y) in
      let more : range_with_len 0 (suc n) ≡ range_with_len 0 n ++ n ∷ [] = range_more 0 n ∙ ap (λ k. range_with_len 0 n ++ k ∷ []) (zero-add n) in
      let turned = ap (λ l. map (landing size r) (filter_map h l)) more ∙ ap (map (landing size r)) (filter_map-append h (range_with_len 0 n) (n ∷ [])) ∙ map-append (landing size r) (filter_map h (range_with_len 0 n)) (cons_option (h n) []) in
      let long : suc n * size ≡ n * size + size = omega arith in
      let parts : range_with_len 0 (n * size + size) ≡ range_with_len 0 (n * size) ++ range_with_len (n * size) size = range_add 0 (n * size) size ∙ ap (λ a. range_with_len 0 (n * size) ++ range_with_len a size) (zero-add (n * size)) in
      let filtered = ap (numbers has) long ∙ ap (filter has) parts ∙ filter-append has (range_with_len 0 (n * size)) (range_with_len (n * size) size) in
      let before = landed has o n (λ y t k m. leads y t (omega arith) m) in
      let last = block has (n * size) (o n) (λ t m. leads n t (omega arith) m) in
      turned ∙ ap (λ l. l ++ map (landing size r) (cons_option (h n) [])) before ∙ ap (λ l. numbers has (n * size) ++ l) last ∙ sym filtered

-- no turn begins past the end
pub turns_near : (o : ℕ → Option ℕ) (f : ℕ → ℕ) (size a n : ℕ) → (a + n) * size ≤ stride → All (λ (t : Turn). t.start ≤ stride) (filter_map (λ y. option_map (λ u. record { start = y * size; by = f u }) (o y)) (range_with_len a n))
turns_near o f size a zero h = All-nil (λ (t : Turn). t.start ≤ stride)
turns_near o f size a (suc n) h =
    let few : a * size ≤ (a + suc n) * size = mul-le-mul_right size (omega arith) in
    let same : (a + 1) + n ≡ a + suc n = omega arith in
    let rest = turns_near o f size (a + 1) n (rw same h) in
    near (o a) _ (omega arith) rest
  where
    near : (u : Option ℕ) (ts : List Turn) → a * size ≤ stride → All (λ (t : Turn). t.start ≤ stride) ts → All (λ (t : Turn). t.start ≤ stride) (cons_option (option_map (λ v. record { start = a * size; by = f v }) u) ts)
    near None ts k rest = rest
    near (Some v) ts k rest = All-cons (λ (t : Turn). t.start ≤ stride) (record { start = a * size; by = f v }) ts k rest
