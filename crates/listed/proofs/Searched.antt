-- Lists of pairs that rise, and what a search in one finds.
use Rattle.std.proofs.Common.{◌≡◌, ℕ, zero, suc, ◌+◌, ◌-◌, ◌*◌, ◌<◌, ◌≤◌, Bool, true, false, eqb, ltb, List, [], ◌∷◌, length, get_or, take, drop, filter, Result, Ok, Err, sym, refl, ap, ◌∙◌, ⊎_elim, arith}
use denote.Param.Members.{Mut}
use denote.Ref.{Bor}
use Rattle.std.specs.Fn.{Called, ComputesKey}
use Rattle.std.specs.List.{AllWithin, prefix_len}
use Rattle.std.specs.List.Sorted.{IsNonDecreasingBy, IsPartitionedBy, IsPartitionPoint, IsBinarySearchResult, IsSearchInRange}
use Rattle.std.specs.declared.cmp.Ordering.{Ordering}
use Rattle.std.specs.Ordering.{is_eq, nat_cmp, ordering_then, ordering_index}
use Rattle.std.specs.Result.{is_ok}
use Rattle.std.proofs.lemmas.Bool.{cases_eq, cases_lt, cases_Bool, and_parts, eqb-true}
use Rattle.std.proofs.lemmas.Bool.Decides.{nat_tests}
use Rattle.std.proofs.lemmas.Fn.{always_returns_same}
use Rattle.std.proofs.lemmas.List.{get_or_default, get_or-drop, length-drop}
use Rattle.std.proofs.lemmas.List.Elements.{All-filter}
use Rattle.std.proofs.lemmas.List.Recursion.{or_at, or_from_places}
use Rattle.std.proofs.lemmas.List.Sums.{prefix_len_passes, prefix_len_stops, prefix_len-le-length}
use Rattle.std.proofs.lemmas.List.Sorted.{IsNonDecreasingBy-from_default, IsPartitionPoint-from_clause, IsPartitionedBy-ltb}
use Rattle.listed.specs.declared.pair.Pair.{Pair}
use Rattle.codes.specs.declared.side.Side.{Side}
use Rattle.codes.specs.declared.side.Side.TheVariants.{ByCheck, ByBit}
use Rattle.codes.specs.Limits.{stride}
use Rattle.listed.specs.Order.{blank, major_of, minor_of, same_pair, has_pair, code_of, Sorted}

pub upto : (s : Side) (xs : List Pair) → Sorted s xs → (i j : ℕ) → i ≤ j → j < length xs → code_of s (get_or xs i blank) ≤ code_of s (get_or xs j blank)
upto s xs o i j h l =
    ⊎_elim
    (λ (same : i ≡ j). let e : code_of s (get_or xs i blank) ≡ code_of s (get_or xs j blank) = ap (λ k. code_of s (get_or xs k blank)) same in omega arith)
    (λ (other : i ≡ j → ⊥). let r = o.rises i j (omega arith) l in omega arith)
    (cases_eq i j)

pub minor_small : (s : Side) (xs : List Pair) → Sorted s xs → (i : ℕ) → i < length xs → minor_of s (get_or xs i blank) < stride
minor_small ByCheck xs o i h = o.small_bit i h
minor_small ByBit xs o i h = o.small_check i h

-- ---- membership
pub has_here : (xs : List Pair) (p : Pair) (i : ℕ) → i < length xs → same_pair (get_or xs i blank) p ≡ true → has_pair xs p ≡ true
has_here xs p i h e = or_at (λ l. has_pair l p) (λ x. same_pair x p) refl (λ x l. refl) xs i blank h e

pub has_nowhere : (xs : List Pair) (p : Pair) → ((i : ℕ) → i < length xs → same_pair (get_or xs i blank) p ≡ true → ⊥) → has_pair xs p ≡ false
has_nowhere xs p never = or_from_places (λ l. has_pair l p) (λ x. same_pair x p) refl (λ x l. refl) xs blank (λ i h. ⊎_elim (λ (y : same_pair (get_or xs i blank) p ≡ true). absurd (never i h y)) (λ (y : same_pair (get_or xs i blank) p ≡ false). y) (cases_Bool (same_pair (get_or xs i blank) p)))

pub has_where : (xs : List Pair) (p : Pair) → has_pair xs p ≡ true → (i : ℕ) × (i < length xs) × (same_pair (get_or xs i blank) p ≡ true)
has_where [] p e = let z : ◌≡◌ {A = ℕ} 0 1 = cc in absurd (omega arith)
has_where (x ∷ xs) p e =
    ⊎_elim
    (λ (y : same_pair x p ≡ true). (0, omega arith, y))
    (λ (y : same_pair x p ≡ false). let r = has_where xs p (rw y at e) in (suc r.0, omega (arith, r.1), r.2))
    (cases_Bool (same_pair x p))

pub same_code : (s : Side) (p q : Pair) → same_pair p q ≡ true → code_of s p ≡ code_of s q
same_code ByCheck p q e =
    let b = and_parts (eqb p.check q.check) (eqb p.bit q.bit) e in
    omega (arith, eqb-true p.check q.check b.0, eqb-true p.bit q.bit b.1)
same_code ByBit p q e =
    let b = and_parts (eqb p.check q.check) (eqb p.bit q.bit) e in
    omega (arith, eqb-true p.check q.check b.0, eqb-true p.bit q.bit b.1)

-- ---- a search for a pair
abbrev pub compared : Side → Pair → Pair → Ordering
compared s p q = ordering_then (nat_cmp (major_of s p) (major_of s q)) (nat_cmp (minor_of s p) (minor_of s q))

climbs : (a b c d m n : ℕ) → b < 4096 → d < 4096 → a * 4096 + b ≤ c * 4096 + d → ordering_index (ordering_then (nat_cmp a m) (nat_cmp b n)) ≤ ordering_index (ordering_then (nat_cmp c m) (nat_cmp d n))
climbs a b c d m n hb hd h = grind (arith, nat_tests)

ties : (s : Side) (p q : Pair) → is_eq (compared s p q) ≡ same_pair p q
ties ByCheck p q = grind (arith, nat_tests)
ties ByBit p q = grind (arith, nat_tests)

searched : (s : Side) (xs : List Pair) (p : Pair) (r : Result ℕ ℕ) → Sorted s xs → IsSearchInRange r (length xs) → IsBinarySearchResult (λ y. compared s y p) xs r → is_ok r ≡ has_pair xs p
searched s xs p (Ok i) o h found = sym (has_here xs p i h (sym (ties s (get_or xs i blank) p) ∙ ap is_eq (found blank)))
searched s xs p (Err i) o h part =
    let up : IsNonDecreasingBy (λ y. ordering_index (compared s y p)) xs = IsNonDecreasingBy-from_default (λ y. ordering_index (compared s y p)) xs blank (λ a b l m. climbs _ _ _ _ (major_of s p) (minor_of s p) (minor_small s xs o a (omega arith)) (minor_small s xs o b m) (upto s xs o a b l m)) in
    let f = part up in
    sym (has_nowhere xs p (λ j l e.
    let t = sym e ∙ sym (ties s (get_or xs j blank) p) in
    ⊎_elim
    (λ (k : j < i). let no-tie : true ≡ false = t ∙ ap is_eq (f.0 j blank (omega arith) k) in cc)
    (λ (k : i ≤ j). let no-tie : true ≡ false = t ∙ ap is_eq (f.1 j blank k l) in cc)
    (cases_lt j i)))

-- the same from the clause of the search, by a closure that gives both numbers
pub found : {F : Type 0} {g : Mut F (Bor Pair × Unit {0}) (ℕ × ℕ)} {f : F} (s : Side) (xs : List Pair) (p : Pair) (key : ℕ × ℕ) (r : Result ℕ ℕ) → key ≡ (major_of s p, minor_of s p) → Sorted s xs → IsSearchInRange r (length xs)
    → ((of : Pair → ℕ × ℕ) → ComputesKey g of f → IsBinarySearchResult (λ y. ordering_then (nat_cmp (of y).0 key.0) (nat_cmp (of y).1 key.1)) xs r)
    → ((a : Bor Pair × Unit {0}) (k : ℕ × ℕ) (t : F) → Called g f a k t → (k ≡ (major_of s a.0.now, minor_of s a.0.now)) × (t ≡ f))
    → is_ok r ≡ has_pair xs p
found {g = g} {f = f} s xs p key r is o h clause calls =
    let by = clause (λ y. (major_of s y, minor_of s y)) (always_returns_same g (λ a k. k ≡ (major_of s a.0.now, minor_of s a.0.now)) f calls) in
    searched s xs p r o h (rw is at by)

-- ---- the pairs of a number
-- between two places a filter keeps all, and around them nothing
part_kept : {X : Type 0} (p : X → Bool) (xs : List X) (a n : ℕ) → a + n ≤ length xs → AllWithin (λ y. p y ≡ false) xs 0 a → AllWithin (λ y. p y ≡ true) xs a (a + n) → AllWithin (λ y. p y ≡ false) xs (a + n) (length xs) → take n (drop a xs) ≡ filter p xs
part_kept p [] a n h low in-part high = let e : a ≡ 0 = omega arith in let f : n ≡ 0 = omega arith in rw (e, f)
part_kept p (x ∷ xs) (suc a) n h low in-part high =
    let out : p x ≡ false = low 0 x (omega arith) (omega arith) in
    let rest = part_kept p xs a n (omega arith) (λ k d l m. low (suc k) d (omega arith) (omega arith)) (λ k d l m. in-part (suc k) d (omega arith) (omega arith)) (λ k d l m. high (suc k) d (omega arith) (omega arith)) in
    rw out rest
part_kept p (x ∷ xs) zero (suc n) h low in-part high =
    let into : p x ≡ true = in-part 0 x (omega arith) (omega arith) in
    let rest = part_kept p xs zero n (omega arith) (λ k d l m. absurd (omega arith)) (λ k d l m. in-part (suc k) d (omega arith) (omega arith)) (λ k d l m. high (suc k) d (omega arith) (omega arith)) in
    rw into (ap (λ l. x ∷ l) rest)
part_kept p (x ∷ xs) zero zero h low in-part high =
    let out : p x ≡ false = high 0 x (omega arith) (omega arith) in
    let rest = part_kept p xs zero zero (omega arith) (λ k d l m. absurd (omega arith)) (λ k d l m. absurd (omega arith)) (λ k d l m. high (suc k) d (omega arith) (omega arith)) in
    rw out rest

pub majors_rise : (s : Side) (xs : List Pair) → Sorted s xs → IsNonDecreasingBy (major_of s) xs
majors_rise s xs o = IsNonDecreasingBy-from_default (major_of s) xs blank (λ i j l h. omega (arith, upto s xs o i j l h, minor_small s xs o i (omega arith), minor_small s xs o j h))

pub minors_small : (s : Side) (xs : List Pair) (at k : ℕ) (d : Pair) → Sorted s xs → k < length (filter (λ p. eqb (major_of s p) at) xs) → minor_of s (get_or (filter (λ p. eqb (major_of s p) at) xs) k d) < stride
minors_small s xs at k d o = All-filter (λ p. eqb (major_of s p) at) (λ p. minor_of s p < stride) xs (λ i e h. rw (get_or_default xs i e blank h) (minor_small s xs o i h)) k d

-- what the search for a number says: its pairs stand at the place that was found, and after them those of higher numbers
module _ {F : Type 0} {g : Mut F (Bor Pair × Unit {0}) Bool} {f : F} (s : Side) (xs : List Pair) (o : Sorted s xs) (at a : ℕ)
    (low : a ≤ length xs)
    (lower : (q : Pair → Bool) → ComputesKey g q f → IsPartitionedBy q xs → IsPartitionPoint (λ y. q y ≡ true) (λ y. q y ≡ false) xs a)
    (below : (y : Bor Pair × Unit {0}) (r : Bool) (t : F) → Called g f y r t → (r ≡ ltb (major_of s y.0.now) at) × (t ≡ f)) where
  lower_is : IsPartitionPoint (λ y. ltb (major_of s y) at ≡ true) (λ y. ltb (major_of s y) at ≡ false) xs a
  lower_is = IsPartitionPoint-from_clause (λ y. ltb (major_of s y) at) xs a lower (IsPartitionedBy-ltb (major_of s) xs at (majors_rise s xs o)) below

  -- the first of the higher numbers is higher, and so are those after it
  higher : (n : ℕ) → prefix_len (λ p. eqb (major_of s p) at) (drop a xs) ≡ n → (k : ℕ) (d : Pair) → a + n ≤ k → k < length xs → at < major_of s (get_or xs k d)
  higher n is k d h l =
      let stop : eqb (major_of s (get_or (drop a xs) n blank)) at ≡ false = rw (← is) (prefix_len_stops (λ p. eqb (major_of s p) at) (drop a xs) blank (omega (arith, is, length-drop a xs))) in
      let other : eqb (major_of s (get_or xs (a + n) blank)) at ≡ false = rw (get_or-drop a xs n blank) at stop in
      let least : ltb (major_of s (get_or xs (a + n) blank)) at ≡ false = lower_is.1 (a + n) blank (omega arith) (omega arith) in
      let up : major_of s (get_or xs (a + n) blank) ≤ major_of s (get_or xs k blank) = majors_rise s xs o (a + n) k blank h l in
      let here : at < major_of s (get_or xs k blank) = grind (arith, nat_tests) in
      rw (get_or_default xs k d blank l) here

  pub part_is : take (prefix_len (λ p. eqb (major_of s p) at) (drop a xs)) (drop a xs) ≡ filter (λ p. eqb (major_of s p) at) xs
  part_is =
      let n = prefix_len (λ p. eqb (major_of s p) at) (drop a xs) in
      let within : n ≤ length (drop a xs) = prefix_len-le-length (λ p. eqb (major_of s p) at) (drop a xs) in
      part_kept (λ p. eqb (major_of s p) at) xs a n (omega (arith, within, length-drop a xs))
      (λ k d m l. let f = lower_is.0 k d m l in grind (arith, nat_tests))
      (λ k d m l.
      let passes = prefix_len_passes (λ p. eqb (major_of s p) at) (drop a xs) (k - a) d (omega arith) in
      let here : a + (k - a) ≡ k = omega arith in
      rw (get_or-drop a xs (k - a) d, here) at passes)
      (λ k d m l. let up = higher n refl k d m l in grind (arith, nat_tests))
