-- Lists that are held end to end: one item more, one list more, and the list of a number.
use Rattle.std.proofs.Common.{◌≡◌, ℕ, ◌+◌, ◌-◌, ◌<◌, ◌≤◌, List, [], ◌∷◌, ◌++◌, length, map, get_or, take, drop, Some, None, vec_items, sym, refl, ap, ◌∙◌, arith, length-append, length-drop}
use Rattle.std.specs.Prelude.{slice_get, slice_index, slice_range}
use Rattle.std.specs.List.{range_with_len}
use Rattle.std.proofs.Math.ListN.{get_or-append}
use Rattle.std.proofs.Math.Seq.{drop-length, get_or-append_seam}
use Rattle.std.proofs.lemmas.List.{drop-append-le, take-append-le, take_rest, get_or_read}
use Rattle.std.proofs.lemmas.List.FromFn.{length-map-range_with_len, get_or-map-range_with_len, map-range_with_len_more, fill_by_all}
use Rattle.std.proofs.lemmas.Option.{slice_get-get_or, slice_get_past}
use Rattle.codes.specs.declared.lists.Lists.{Lists}
use Rattle.codes.specs.Held.{items_at, lists_in, open_in}

-- the lists, and the one that is being made, by the starts and the items
abbrev pub lists_held : List ℕ → List ℕ → List (List ℕ)
lists_held starts items = map (items_at starts items) (range_with_len 0 (length starts - 1))

abbrev pub open_held : List ℕ → List ℕ → List ℕ
open_held starts items = drop (slice_index starts (length starts - 1)) items

-- ---- the list of a number
many_held : (starts items : List ℕ) → length (lists_held starts items) ≡ length starts - 1
many_held starts items = length-map-range_with_len (items_at starts items) 0 (length starts - 1)

list_held : (starts items : List ℕ) (at : ℕ) → at < length starts - 1 → slice_get (lists_held starts items) at ≡ Some (items_at starts items at)
list_held starts items at h =
    slice_get-get_or (lists_held starts items) at [] (omega (arith, many_held starts items))
    ∙ ap Some (get_or-map-range_with_len (items_at starts items) 0 (length starts - 1) at at [] h (omega arith))

-- ---- lists that are the same at each number
each_same : (f g : ℕ → List ℕ) (n : ℕ) → ((i : ℕ) → i < n → f i ≡ g i) → map f (range_with_len 0 n) ≡ map g (range_with_len 0 n)
each_same f g n same = fill_by_all g (map f (range_with_len 0 n)) n [] (length-map-range_with_len f 0 n) (λ k h. get_or-map-range_with_len f 0 n k k [] h (omega arith) ∙ same k h)

-- what ends within the items is the same of more of them
same_range : (items more : List ℕ) (a b : ℕ) → a ≤ b → b ≤ length items → slice_range (items ++ more) a b ≡ slice_range items a b
same_range items more a b h l =
    ap (take (b - a)) (drop-append-le a items more (omega arith))
    ∙ take-append-le (b - a) (drop a items) more (omega (arith, length-drop a items))

module _ (starts items : List ℕ) (some : 1 ≤ length starts) (rises : (k : ℕ) → k + 1 < length starts → slice_index starts k ≤ slice_index starts (k + 1)) (within : (k : ℕ) → k < length starts → slice_index starts k ≤ length items) where
  -- ---- one item more
  pub added : (all : List ℕ) (x : ℕ) → all ≡ items ++ x ∷ [] → (lists_held starts all ≡ lists_held starts items) × (open_held starts all ≡ open_held starts items ++ x ∷ [])
  added all x is = rw is (
    each_same (items_at starts (items ++ x ∷ [])) (items_at starts items) (length starts - 1) (λ i h. same_range items (x ∷ []) (slice_index starts i) (slice_index starts (i + 1)) (rises i (omega arith)) (within (i + 1) (omega arith))),
    drop-append-le (slice_index starts (length starts - 1)) items (x ∷ []) (within (length starts - 1) (omega arith)),
  )

  -- ---- one list more
  abbrev more : List ℕ
  more = starts ++ length items ∷ []

  before : (i : ℕ) → i < length starts → slice_index more i ≡ slice_index starts i
  before i h = get_or-append starts (length items ∷ []) 0 i h

  last : slice_index more (length starts) ≡ length items
  last = get_or-append_seam starts (length items) [] 0

  last_list : (n : ℕ) → n + 1 ≡ length starts → items_at more items n ≡ drop (slice_index starts n) items
  last_list n h =
      let e : slice_index more (n + 1) ≡ length items = ap (slice_index more) h ∙ last in
      rw (before n (omega arith), e) (take_rest items (slice_index starts n))

  lists_more : (n : ℕ) → n + 1 ≡ length starts → map (items_at more items) (range_with_len 0 (n + 1)) ≡ map (items_at starts items) (range_with_len 0 n) ++ drop (slice_index starts n) items ∷ []
  lists_more n h =
      let same = each_same (items_at more items) (items_at starts items) n (λ i l. rw (before i (omega arith), before (i + 1) (omega arith))) in
      let one = last_list n h in
      let all = map-range_with_len_more (items_at more items) 0 n n (omega arith) in
      cc

  pub closed : (all : List ℕ) → all ≡ starts ++ length items ∷ [] → (lists_held all items ≡ lists_held starts items ++ open_held starts items ∷ []) × (open_held all items ≡ [])
  closed all is =
      let n : length starts - 1 + 1 ≡ length starts = omega arith in
      let m : length more - 1 ≡ length starts = omega (arith, length-append starts (length items ∷ [])) in
      let many : length more - 1 ≡ length starts - 1 + 1 = m ∙ sym n in
      rw is (
        ap (λ k. map (items_at more items) (range_with_len 0 k)) many ∙ lists_more (length starts - 1) n,
        ap (λ k. drop (slice_index more k) items) m ∙ ap (λ k. drop k items) last ∙ drop-length items,
      )

-- ---- the same of a value
module _ (l : Lists) where
  pub many_in : length (lists_in l) ≡ length (vec_items l.starts) - 1
  unfolding lists_in
  many_in = many_held (vec_items l.starts) (vec_items l.items)

  -- where a list begins and ends, as they are read
  starts_at : (at from to : ℕ) → at < length (lists_in l) → from ≡ get_or (vec_items l.starts) at from → to ≡ get_or (vec_items l.starts) (at + 1) to → (at < length (vec_items l.starts) - 1) × (from ≡ slice_index (vec_items l.starts) at) × (to ≡ slice_index (vec_items l.starts) (at + 1))
  starts_at at from to h f t = (omega (arith, many_in), get_or_read (vec_items l.starts) at from (omega (arith, many_in)) f 0, get_or_read (vec_items l.starts) (at + 1) to (omega (arith, many_in)) t 0)

  pub ends_in : (at from to : ℕ) → at < length (lists_in l) → from ≡ get_or (vec_items l.starts) at from → to ≡ get_or (vec_items l.starts) (at + 1) to → (from ≤ to) × (to ≤ length (vec_items l.items))
  ends_in at from to h f t =
      let s = starts_at at from to h f t in
      (omega (arith, l.rises at (omega (arith, s.0)), s.1, s.2), omega (arith, l.within (at + 1) (omega (arith, s.0)), s.2))

  -- the list of a number, and none
  pub list_in : (at from to : ℕ) (items : List ℕ) → at < length (lists_in l) → from ≡ get_or (vec_items l.starts) at from → to ≡ get_or (vec_items l.starts) (at + 1) to → items ≡ vec_items l.items → Some (slice_range items from to) ≡ slice_get (lists_in l) at
  unfolding lists_in
  list_in at from to items h f t i =
      let s = starts_at at from to h f t in
      let same : slice_range items from to ≡ items_at (vec_items l.starts) (vec_items l.items) at = λ k. slice_range (i k) (s.1 k) (s.2 k) in
      ap Some same ∙ sym (list_held (vec_items l.starts) (vec_items l.items) at s.0)

  pub none_in : (at : ℕ) → length (lists_in l) ≤ at → None ≡ slice_get (lists_in l) at
  none_in at h = sym (slice_get_past (lists_in l) at h)

  -- a value with nothing in it
  pub empty_in : vec_items l.starts ≡ 0 ∷ [] → vec_items l.items ≡ [] → (lists_in l ≡ []) × (open_in l ≡ [])
  unfolding lists_in open_in
  empty_in e f = rw (e, f) (refl, refl)

  -- with as many, and with one item more, and with one list more
  pub same_in : (m : Lists) → vec_items m.starts ≡ vec_items l.starts → vec_items m.items ≡ vec_items l.items → (lists_in m ≡ lists_in l) × (open_in m ≡ open_in l)
  unfolding lists_in open_in
  same_in m e f = rw (e, f) (refl, refl)

  pub added_in : (m : Lists) (x : ℕ) → vec_items m.starts ≡ vec_items l.starts → vec_items m.items ≡ vec_items l.items ++ x ∷ [] → (lists_in m ≡ lists_in l) × (open_in m ≡ open_in l ++ x ∷ [])
  unfolding lists_in open_in
  added_in m x e f = rw e (added (vec_items l.starts) (vec_items l.items) l.some l.rises l.within (vec_items m.items) x f)

  pub closed_in : (m : Lists) → vec_items m.starts ≡ vec_items l.starts ++ length (vec_items l.items) ∷ [] → vec_items m.items ≡ vec_items l.items → (lists_in m ≡ lists_in l ++ open_in l ∷ []) × (open_in m ≡ [])
  unfolding lists_in open_in
  closed_in m e f = rw f (closed (vec_items l.starts) (vec_items l.items) l.some l.rises l.within (vec_items m.starts) e)
