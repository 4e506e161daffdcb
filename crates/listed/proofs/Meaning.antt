-- Two lists that are not refused make lawful answers, of exactly their pairs.
use Rattle.std.proofs.Common.{◌≡◌, ℕ, ◌<◌, ◌≤◌, Bool, true, false, eqb, List, map, length, get_or, None, Option, sym, refl, ap, ◌∙◌, arith, eq-eqb}
use Rattle.faults.specs.Rows.{C}
use Rattle.std.specs.List.{range_with_len}
use Rattle.std.proofs.lemmas.List.{length-map}
use Rattle.std.proofs.lemmas.List.FromFn.{length-range_with_len}
use Rattle.std.proofs.lemmas.Bool.{and_parts, eqb-true}
use Rattle.listed.specs.declared.pair.Pair.{Pair}
use Rattle.codes.specs.declared.side.Side.{Side}
use Rattle.codes.specs.declared.side.Side.TheVariants.{ByCheck, ByBit}
use Rattle.codes.specs.Lists.{held_by}
use Rattle.codes.specs.Degrees.{outside, wrong_check, wrong_bit, degree_fault}
use Rattle.faults.specs.First.{first, fault_at}
use Rattle.codes.specs.Limits.{most_in_check, most_at_bit}
use Rattle.listed.specs.Listing.{wrong_count, mismatch_fault, listed_pairs, MadeListed}
use Rattle.listed.specs.Order.{blank, same_pair, has_pair, count_in, row_of, code_of}
use Rattle.codes.proofs.Counts.{count_same}
use Rattle.faults.proofs.Firsts.{first_none, first_same}
use Rattle.codes.proofs.Limiting.{in_limits}
use Rattle.codes.proofs.Sizes.{widest_most_lem, widest_met_lem}
use Rattle.listed.proofs.Searched.{has_here, has_where}
use Rattle.listed.proofs.Pigeons.{pigeons}
use Rattle.listed.proofs.Tables.{table}
use Rattle.listed.proofs.Passing.{Fine, fine, faultless, degrees_fit}
use Rattle.listed.proofs.Sets.{count_set}

-- ---- the pairs of a list
same_as : (p q : Pair) → p.check ≡ q.check → p.bit ≡ q.bit → same_pair p q ≡ true
same_as p q e f = rw (eq-eqb p.check q.check e, eq-eqb p.bit q.bit f)

-- a pair at an index is in the list, and one in the list is at an index
listed_at : (xs : List Pair) (i c b : ℕ) → i < length xs → (get_or xs i blank).check ≡ c → (get_or xs i blank).bit ≡ b → has_pair xs (record { check = c; bit = b }) ≡ true
listed_at xs i c b h e f = has_here xs (record { check = c; bit = b }) i h (same_as (get_or xs i blank) (record { check = c; bit = b }) e f)

index_of : (xs : List Pair) (p : Pair) → has_pair xs p ≡ true → (i : ℕ) × (i < length xs) × ((get_or xs i blank).check ≡ p.check) × ((get_or xs i blank).bit ≡ p.bit)
index_of xs p e =
    let r = has_where xs p e in
    let b = and_parts (eqb (get_or xs r.0 blank).check p.check) (eqb (get_or xs r.0 blank).bit p.bit) r.2 in
    (r.0, r.1, eqb-true _ _ b.0, eqb-true _ _ b.1)

both_ways : (x y : Bool) → (x ≡ true → y ≡ true) → (y ≡ true → x ≡ true) → x ≡ y
both_ways true y to back = sym (to refl)
both_ways false true to back = back refl
both_ways false false to back = refl

module _ (bits checks : ℕ) (xs ys : List Pair) (f : Fine bits checks xs ys) where
  -- ---- each list has the pairs of the other
  over : (i : ℕ) → i < length xs → (j : ℕ) × (j < length ys) × ((get_or ys j blank).check ≡ (get_or xs i blank).check) × ((get_or ys j blank).bit ≡ (get_or xs i blank).bit)
  over i h = index_of ys (get_or xs i blank) (f.missing i h)

  back : (j : ℕ) → j < length ys → (i : ℕ) × (i < length xs) × ((get_or xs i blank).check ≡ (get_or ys j blank).check) × ((get_or xs i blank).bit ≡ (get_or ys j blank).bit)
  back j h =
      let r =
      pigeons (length xs) (λ i. code_of ByCheck (get_or xs i blank)) (λ k. code_of ByCheck (get_or ys k blank))
      (λ a b l m e. let up = f.rows_sorted.rises a b l m in omega (arith, up, e))
      (λ i l. let o = over i l in (o.0, omega (arith, o.1, f.lengths), omega (arith, o.2, o.3)))
      j (omega (arith, f.lengths)) in
      let a = f.rows_sorted.small_bit r.0 r.1 in
      let b = f.columns_sorted.small_bit j h in
      (r.0, r.1, omega (arith, r.2, a, b), omega (arith, r.2, a, b))

  -- ---- so the second list has the pairs of the first, and no others
  second_at : (j : ℕ) → j < length ys → has_pair xs (record { check = (get_or ys j blank).check; bit = (get_or ys j blank).bit }) ≡ true
  second_at j h = let k = back j h in listed_at xs k.0 _ _ k.1 k.2 k.3

  second_of : (b c : ℕ) → has_pair xs (record { check = c; bit = b }) ≡ true → (j : ℕ) × (j < length ys) × ((get_or ys j blank).bit ≡ b) × ((get_or ys j blank).check ≡ c)
  second_of b c e =
      let i = index_of xs (record { check = c; bit = b }) e in
      let o = over i.0 i.1 in
      (o.0, o.1, o.3 ∙ i.3, o.2 ∙ i.2)

  same_pairs : (c b : ℕ) → has_pair ys (record { check = c; bit = b }) ≡ has_pair xs (record { check = c; bit = b })
  same_pairs c b =
      both_ways (has_pair ys (record { check = c; bit = b })) (has_pair xs (record { check = c; bit = b }))
      (λ e. let j = index_of ys (record { check = c; bit = b }) e in let k = back j.0 j.1 in listed_at xs k.0 c b k.1 (k.2 ∙ j.2) (k.3 ∙ j.3))
      (λ e. let o = second_of b c e in listed_at ys o.0 c b o.1 o.3 o.2)

  -- ---- so their counts are those of the set
  pub row_degrees : first (wrong_count 1 most_in_check ByCheck xs) checks ≡ first (wrong_check (listed_pairs bits checks xs)) checks
  row_degrees = first_same _ _ checks (λ c h. ap (outside 1 most_in_check) (count_set ByCheck xs bits c f.rows_sorted.rises f.rows.bit))

  pub column_degrees : first (wrong_count 0 most_at_bit ByBit ys) bits ≡ first (wrong_bit (listed_pairs bits checks xs)) bits
  column_degrees = first_same _ _ bits (λ b h. ap (outside 0 most_at_bit) (count_set ByBit ys checks b f.columns_sorted.rises f.columns.check ∙ count_same checks _ _ (λ c l. same_pairs c b)))

  -- what was found in the lists is the fault of the set
  pub degrees_are : (o u : Option ℕ) → o ≡ first (wrong_count 1 most_in_check ByCheck xs) checks → u ≡ first (wrong_count 0 most_at_bit ByBit ys) bits → fault_at (C 4) o (fault_at (C 4) u None) ≡ degree_fault (listed_pairs bits checks xs)
  degrees_are o u e d = λ i. fault_at (C 4) ((e ∙ row_degrees) i) (fault_at (C 4) ((d ∙ column_degrees) i) None)

-- ---- counts within their limits
counts_fit : (least top : ℕ) (s : Side) (xs : List Pair) (count : ℕ) → first (wrong_count least top s xs) count ≡ None → (c : ℕ) → c < count → (least ≤ count_in s xs c) × (count_in s xs c ≤ top)
counts_fit least top s xs count e c h = in_limits least top (count_in s xs c) (first_none (wrong_count least top s xs) count e c h)

-- ---- all of it
rows_many : (s : Side) (xs : List Pair) (count : ℕ) (rows : List (List ℕ)) → rows ≡ map (row_of s xs) (range_with_len 0 count) → length rows ≡ count
rows_many s xs count rows is = ap length is ∙ length-map (range_with_len 0 count) (row_of s xs) ∙ length-range_with_len 0 count

pub made : (bits checks : ℕ) (xs ys : List Pair) (rows columns : List (List ℕ)) → mismatch_fault bits checks xs ys ≡ None → degree_fault (listed_pairs bits checks xs) ≡ None → rows ≡ map (row_of ByCheck xs) (range_with_len 0 checks) → columns ≡ map (row_of ByBit ys) (range_with_len 0 bits) → MadeListed bits checks xs ys (held_by rows columns)
made bits checks xs ys rows columns e g t u =
    let f = fine bits checks xs ys e in
    let d = degrees_fit (listed_pairs bits checks xs) g in
    let nb = rows_many ByBit ys bits columns u in
    record {
      allowed = faultless (mismatch_fault bits checks xs ys) (degree_fault (listed_pairs bits checks xs)) e g;
      lawful = record {
        bits = nb;
        checks = rows_many ByCheck xs checks rows t;
        some_bits = f.some_bits;
        few_bits = f.few_bits;
        some_checks = f.some_checks;
        few_checks = f.few_checks;
        rows = table ByCheck xs f.rows_sorted checks bits 1 most_in_check rows (listed_pairs bits checks xs).holds t f.rows.bit (counts_fit 1 most_in_check ByCheck xs checks (row_degrees bits checks xs ys f ∙ d.0)) (λ j h. listed_at xs j _ _ h refl refl) (λ c b h. index_of xs (record { check = c; bit = b }) h);
        columns = table ByBit ys f.columns_sorted bits checks 0 most_at_bit columns (λ b c. (listed_pairs bits checks xs).holds c b) u f.columns.check (counts_fit 0 most_at_bit ByBit ys bits (column_degrees bits checks xs ys f ∙ d.1)) (second_at bits checks xs ys f) (second_of bits checks xs ys f);
        widest_most = widest_most_lem columns;
        widest_met = widest_met_lem columns (omega (arith, nb, f.some_bits));
      };
    }
