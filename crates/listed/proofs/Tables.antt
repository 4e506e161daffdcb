-- The rows of a sorted list of pairs are a lawful table of its pairs.
use Rattle.std.proofs.Common.{eq-eqb, ◌≡◌, ℕ, zero, suc, ◌<◌, ◌≤◌, Bool, true, false, eqb, List, [], ◌∷◌, map, filter, length, get_or, Some, refl, sym, ap, ◌∙◌, ⊎_elim, arith}
use Rattle.std.specs.Prelude.{slice_get}
use Rattle.std.specs.List.{range_with_len, AllPairs, Contains}
use Rattle.std.proofs.lemmas.List.{length-map, get_or-map, get_or_default}
use Rattle.std.proofs.lemmas.List.Elements.{All-filter, All-contains_itself, filter_passes}
use Rattle.std.proofs.lemmas.List.FromFn.{length-range_with_len, get_or-range_with_len}
use Rattle.std.proofs.lemmas.List.Kept.{AllPairs-filter}
use Rattle.std.proofs.lemmas.List.Sums.{length-filter}
use Rattle.std.proofs.lemmas.Option.{slice_get-get_or, slice_get_past}
use Rattle.std.proofs.lemmas.Bool.{cases_lt, cases_Bool, eqb-true}
use Rattle.codes.specs.Lawful.{Lists, Table}
use Rattle.codes.specs.Lists.{size_in, place_in}
use Rattle.codes.proofs.Absent.{none_some, same_some}
use Rattle.codes.proofs.Sizes.{list_at, table_of}
use Rattle.listed.specs.declared.pair.Pair.{Pair}
use Rattle.codes.specs.declared.side.Side.{Side}
use Rattle.listed.specs.Order.{blank, major_of, minor_of, code_of, count_in, row_of, Sorted}

-- what passes is kept
kept_at : {X : Type 0} (p : X → Bool) (xs : List X) (j : ℕ) (d : X) → j < length xs → p (get_or xs j d) ≡ true → (i : ℕ) × (i < length (filter p xs)) × (get_or (filter p xs) i d ≡ get_or xs j d)
kept_at p [] j d h e = absurd (omega arith)
kept_at p (x ∷ xs) zero d h e = rw e (0, omega arith, refl)
kept_at p (x ∷ xs) (suc j) d h e =
    let r = kept_at p xs j d (omega arith) e in
    ⊎_elim (λ (y : p x ≡ true). rw y (suc r.0, omega (arith, r.1), r.2)) (λ (y : p x ≡ false). rw y r) (cases_Bool (p x))

-- an item that is read is within the list
read_at : (l : List ℕ) (p x : ℕ) → slice_get l p ≡ Some x → (p < length l) × (x ≡ get_or l p 0)
read_at l p x e =
    ⊎_elim
    (λ (h : p < length l). (h, same_some x (get_or l p 0) (sym e ∙ slice_get-get_or l p 0 h)))
    (λ (h : length l ≤ p). none_some x (sym (slice_get_past l p h) ∙ e))
    (cases_lt p (length l))

module _ (s : Side) (xs : List Pair) where
  pub row_length : (c : ℕ) → length (row_of s xs c) ≡ count_in s xs c
  row_length c = length-map (filter (λ p. eqb (major_of s p) c) xs) (minor_of s) ∙ length-filter (λ p. eqb (major_of s p) c) xs

  abbrev pairs_of : ℕ → List Pair
  pairs_of c = filter (λ p. eqb (major_of s p) c) xs

  -- an item of a row is the other number of a pair of the row's number
  item_at : (c p : ℕ) → p < length (row_of s xs c) → get_or (row_of s xs c) p 0 ≡ minor_of s (get_or (pairs_of c) p blank)
  item_at c p h = get_or-map (minor_of s) (pairs_of c) p blank 0 (omega (arith, length-map (pairs_of c) (minor_of s)))

  item_from : (c p : ℕ) → p < length (row_of s xs c) → (j : ℕ) × (j < length xs) × (major_of s (get_or xs j blank) ≡ c) × (minor_of s (get_or xs j blank) ≡ get_or (row_of s xs c) p 0)
  item_from c p h =
      let l : p < length (pairs_of c) = omega (arith, length-map (pairs_of c) (minor_of s)) in
      let k : Contains xs (get_or (pairs_of c) p blank) = All-filter (λ p. eqb (major_of s p) c) (Contains xs) xs (All-contains_itself xs) p blank l in
      let e = filter_passes (λ p. eqb (major_of s p) c) xs p blank l in
      let f : get_or xs k.0 blank ≡ get_or (pairs_of c) p blank = get_or_default xs k.0 blank (get_or (pairs_of c) p blank) k.1 ∙ k.2 in
      (k.0, k.1, ap (major_of s) f ∙ eqb-true _ _ e, ap (minor_of s) f ∙ sym (item_at c p h))

  -- the row of a number lists what the set has of it
  module _ (o : Sorted s xs) where
    codes_rise : AllPairs (λ a b. code_of s a < code_of s b) xs
    codes_rise i j d h l = rw (get_or_default xs i d blank (omega arith), get_or_default xs j d blank l) (o.rises i j h l)

    row_rises : (c p q x y : ℕ) → p < q → slice_get (row_of s xs c) p ≡ Some x → slice_get (row_of s xs c) q ≡ Some y → x < y
    row_rises c p q x y h e f =
        let a = read_at (row_of s xs c) p x e in
        let b = read_at (row_of s xs c) q y f in
        let up = AllPairs-filter (λ a b. code_of s a < code_of s b) (λ p. eqb (major_of s p) c) xs codes_rise p q blank h (omega (arith, b.0, length-map (pairs_of c) (minor_of s))) in
        let m = eqb-true _ _ (filter_passes (λ p. eqb (major_of s p) c) xs p blank (omega (arith, a.0, length-map (pairs_of c) (minor_of s)))) in
        let n = eqb-true _ _ (filter_passes (λ p. eqb (major_of s p) c) xs q blank (omega (arith, b.0, length-map (pairs_of c) (minor_of s)))) in
        omega (arith, up, m, n, a.1, b.1, item_at c p a.0, item_at c q b.0)

    row_lists : (c limit least most : ℕ) (has : ℕ → Bool)
        → ((j : ℕ) → j < length xs → minor_of s (get_or xs j blank) < limit)
        → (least ≤ count_in s xs c) × (count_in s xs c ≤ most)
        → ((j : ℕ) → j < length xs → major_of s (get_or xs j blank) ≡ c → has (minor_of s (get_or xs j blank)) ≡ true)
        → ((x : ℕ) → has x ≡ true → (j : ℕ) × (j < length xs) × (major_of s (get_or xs j blank) ≡ c) × (minor_of s (get_or xs j blank) ≡ x))
        → Lists (Some (length (row_of s xs c))) (slice_get (row_of s xs c)) limit has least most
    row_lists c limit least most has small degrees into out = record {
      count = length (row_of s xs c);
      sized = refl;
      enough = omega (arith, row_length c, degrees.0);
      few = omega (arith, row_length c, degrees.1);
      inside = λ p h.
          let r = item_from c p h in
          (get_or (row_of s xs c) p 0, slice_get-get_or (row_of s xs c) p 0 h, omega (arith, small r.0 r.1, r.3), ap has (sym r.3) ∙ into r.0 r.1 r.2);
      past = λ p h. slice_get_past (row_of s xs c) p h;
      rises = row_rises c;
      all = λ x h e.
          let r = out x e in
          let k = kept_at (λ p. eqb (major_of s p) c) xs r.0 blank r.1 (eq-eqb _ _ r.2) in
          let l : k.0 < length (row_of s xs c) = omega (arith, k.1, length-map (pairs_of c) (minor_of s)) in
          (k.0, l, slice_get-get_or (row_of s xs c) k.0 0 l ∙ ap Some (item_at c k.0 l ∙ ap (minor_of s) k.2 ∙ r.3));
    }

    -- the rows of the numbers are the table of the set
    pub table : (count limit least most : ℕ) (rows : List (List ℕ)) (has : ℕ → ℕ → Bool) → rows ≡ map (row_of s xs) (range_with_len 0 count)
        → ((j : ℕ) → j < length xs → minor_of s (get_or xs j blank) < limit)
        → ((c : ℕ) → c < count → (least ≤ count_in s xs c) × (count_in s xs c ≤ most))
        → ((j : ℕ) → j < length xs → has (major_of s (get_or xs j blank)) (minor_of s (get_or xs j blank)) ≡ true)
        → ((c x : ℕ) → has c x ≡ true → (j : ℕ) × (j < length xs) × (major_of s (get_or xs j blank) ≡ c) × (minor_of s (get_or xs j blank) ≡ x))
        → Table (size_in rows) (place_in rows) count limit has least most
    table count limit least most rows has is small degrees into out =
        rw is (table_of (map (row_of s xs) (range_with_len 0 count)) count limit least most has
        (length-map (range_with_len 0 count) (row_of s xs) ∙ length-range_with_len 0 count)
        (λ c h.
        let l : c < length (range_with_len 0 count) = omega (arith, length-range_with_len 0 count) in
        let at : get_or (range_with_len 0 count) c 0 ≡ c = omega (arith, get_or-range_with_len 0 count c 0 h) in
        let e : list_at (map (row_of s xs) (range_with_len 0 count)) c ≡ row_of s xs c = get_or-map (row_of s xs) (range_with_len 0 count) c 0 [] l ∙ ap (row_of s xs) at in
        rw e (row_lists c limit least most (has c) small (degrees c h) (λ j m f. ap (λ k. has k (minor_of s (get_or xs j blank))) (sym f) ∙ into j m) (out c))))
