-- The product of lawful answers is lawful, for the product of their pairs.
use Rattle.std.proofs.Common.{◌≡◌, ℕ, ◌+◌, ◌-◌, ◌*◌, ◌/◌, ◌%◌, ◌^◌, ◌<◌, ◌≤◌, Bool, true, ◌&&◌, eqb, ltb, leb, Some, sym, refl, ap, ◌∙◌, inl, inr, ⊎_elim, add_comm, arith, eq-eqb}
use native.Mathlib.Nat.{add-sub_cancel_left}
use Rattle.std.proofs.lemmas.Nat.{mul-add-lt, div-mul-add, mod-mul-add, div-add-mod'}
use Rattle.std.proofs.lemmas.Bool.{lt-ltb, le-ltb, le-leb, leb-true, ltb-true, eqb-true, cases_lt, and_parts}
use Rattle.codes.specs.Answers.{Answers}
use Rattle.codes.specs.Cross.{product_holds, product_pairs, in_row, in_column, cross_check_degree, cross_check_bit, cross_bit_degree, cross_bit_check, cross, product, MadeProduct}
use Rattle.codes.specs.Lawful.{Lists, Table, Lawful}
use Rattle.codes.specs.Limits.{most_in_check, most_at_bit, sizes_fit}
use Rattle.codes.specs.Pairs.{Pairs}
use Rattle.codes.proofs.Absent.{none_some, same_some}
use Rattle.codes.proofs.Images.{has_list, lists_image, lists_joined}
use Rattle.codes.proofs.Limiting.{limits}
use Rattle.codes.proofs.Places.{quotient, remainder, rows_rise}

module _ (a b : Answers) (pa pb : Pairs) (la : Lawful a pa) (lb : Lawful b pb) where
  -- ---- the checks on rows
  row_lists : (c : ℕ) → c < pa.bits * pb.checks → Lists (cross_check_degree pa.bits pb.bits pa.checks pb.checks a b c) (cross_check_bit pa.bits pb.bits pa.checks pb.checks a b c) (pa.bits * pb.bits) (product_holds pa pb c) 1 most_in_check
  row_lists c h =
      let on = lt-ltb c (pa.bits * pb.checks) h in
      let w = pb.bits in
      let r = c / pb.checks in
      let i = c % pb.checks in
      lists_image (lb.rows.lists i (remainder pa.bits pb.checks c h)) _ _ _ _ (λ x. r * w + x)
      (rw on)
      (λ p e. rw (on, e))
      (λ p x l e. rw (on, e, lt-ltb x w l))
      (λ x y l m. omega arith)
      (λ x l. omega (arith, mul-add-lt r w x pa.bits (quotient pa.bits pb.checks c h) l))
      (λ x l e. rw (on, div-mul-add r w x l, mod-mul-add r w x l, eq-eqb r r refl) e)
      (λ y l e.
      let f : (eqb (y / w) r && pb.holds i (y % w)) ≡ true = rw on at e in
      let g = and_parts (eqb (y / w) r) (pb.holds i (y % w)) f in
      let q : y / w ≡ r = eqb-true (y / w) r g.0 in
      (y % w, remainder pa.bits w y l, g.1, ap (λ n. n * w + y % w) (sym q) ∙ div-add-mod' y w))

  -- ---- the checks on columns
  column_lists : (c : ℕ) → pa.bits * pb.checks ≤ c → c - pa.bits * pb.checks < pa.checks * pb.bits → Lists (cross_check_degree pa.bits pb.bits pa.checks pb.checks a b c) (cross_check_bit pa.bits pb.bits pa.checks pb.checks a b c) (pa.bits * pb.bits) (product_holds pa pb c) 1 most_in_check
  column_lists c past h =
      let off = le-ltb c (pa.bits * pb.checks) past in
      let on = lt-ltb (c - pa.bits * pb.checks) (pa.checks * pb.bits) h in
      let w = pb.bits in
      let i = (c - pa.bits * pb.checks) / w in
      let j = (c - pa.bits * pb.checks) % w in
      let hj : j < w = remainder pa.checks w (c - pa.bits * pb.checks) h in
      lists_image (la.rows.lists i (quotient pa.checks w (c - pa.bits * pb.checks) h)) _ _ _ _ (λ x. 0 + (x * w + j))
      (rw (off, on))
      (λ p e. rw (off, on, e))
      (λ p x l e. rw (off, on, e, lt-ltb x pa.bits l))
      (λ x y l m. omega (arith, rows_rise x y w j l hj))
      (λ x l. omega (arith, mul-add-lt x w j pa.bits l hj))
      (λ x l e.
      let z : 0 + (x * w + j) ≡ x * w + j = omega arith in
      rw (off, z, div-mul-add x w j hj, mod-mul-add x w j hj, eq-eqb j j refl) e)
      (λ y l e.
      let f : (eqb (y % w) j && pa.holds i (y / w)) ≡ true = rw off at e in
      let g = and_parts (eqb (y % w) j) (pa.holds i (y / w)) f in
      let q : y % w ≡ j = eqb-true (y % w) j g.0 in
      (y / w, quotient pa.bits w y l, g.1, omega (arith, q, div-add-mod' y w)))

  -- ---- the checks of a bit: those on its row, and those on its column
  on_row : ℕ → ℕ → Bool
  on_row k c = ltb c (pa.bits * pb.checks) && product_holds pa pb c k

  on_column : ℕ → ℕ → Bool
  on_column k c = leb (pa.bits * pb.checks) c && product_holds pa pb c k

  row_checks : (k : ℕ) → k < pa.bits * pb.bits → Lists (b.bit_degree (k % pb.bits)) (λ q. in_row pb.checks (k / pb.bits) (b.bit_check (k % pb.bits) q)) (pa.bits * pb.checks + pa.checks * pb.bits) (on_row k) 0 most_at_bit
  unfolding on_row
  row_checks k h =
      let w = pb.checks in
      let r = k / pb.bits in
      let j = k % pb.bits in
      let hr = quotient pa.bits pb.bits k h in
      lists_image (lb.columns.lists j (remainder pa.bits pb.bits k h)) _ _ _ _ (λ x. r * w + x)
      refl
      (λ p e. rw e)
      (λ p x l e. rw (e, lt-ltb x w l))
      (λ x y l m. omega arith)
      (λ x l. omega (arith, mul-add-lt r w x pa.bits hr l))
      (λ x l e.
      let on : r * w + x < pa.bits * w = omega (arith, mul-add-lt r w x pa.bits hr l) in
      rw (lt-ltb (r * w + x) (pa.bits * w) on, div-mul-add r w x l, mod-mul-add r w x l, eq-eqb r r refl) e)
      (λ y l e.
      let d = and_parts (ltb y (pa.bits * w)) (product_holds pa pb y k) e in
      let f : (eqb r (y / w) && pb.holds (y % w) j) ≡ true = rw d.0 at d.1 in
      let g = and_parts (eqb r (y / w)) (pb.holds (y % w) j) f in
      let q : r ≡ y / w = eqb-true r (y / w) g.0 in
      (y % w, remainder pa.bits w y (ltb-true y (pa.bits * w) d.0), g.1, ap (λ n. n * w + y % w) q ∙ div-add-mod' y w))

  column_checks : (k : ℕ) → k < pa.bits * pb.bits → Lists (a.bit_degree (k / pb.bits)) (λ q. in_column (pa.bits * pb.checks) pa.checks pb.bits (k % pb.bits) (a.bit_check (k / pb.bits) q)) (pa.bits * pb.checks + pa.checks * pb.bits) (on_column k) 0 most_at_bit
  unfolding on_column
  column_checks k h =
      let s = pa.bits * pb.checks in
      let w = pb.bits in
      let r = k / w in
      let j = k % w in
      let hj : j < w = remainder pa.bits w k h in
      lists_image (la.columns.lists r (quotient pa.bits w k h)) _ _ _ _ (λ x. s + (x * w + j))
      refl
      (λ p e. rw e)
      (λ p x l e. rw (e, lt-ltb x pa.checks l))
      (λ x y l m. omega (arith, rows_rise x y w j l hj))
      (λ x l. omega (arith, mul-add-lt x w j pa.checks l hj))
      (λ x l e.
      let past : s ≤ s + (x * w + j) = omega arith in
      rw (le-leb s (s + (x * w + j)) past, le-ltb (s + (x * w + j)) s past, add-sub_cancel_left s (x * w + j), div-mul-add x w j hj, mod-mul-add x w j hj, eq-eqb j j refl) e)
      (λ y l e.
      let d = and_parts (leb s y) (product_holds pa pb y k) e in
      let past : s ≤ y = leb-true s y d.0 in
      let f : (eqb j ((y - s) % w) && pa.holds ((y - s) / w) r) ≡ true = rw (le-ltb y s past) at d.1 in
      let g = and_parts (eqb j ((y - s) % w)) (pa.holds ((y - s) / w) r) f in
      let q : j ≡ (y - s) % w = eqb-true j ((y - s) % w) g.0 in
      ((y - s) / w, quotient pa.checks w (y - s) (omega arith), g.1, omega (arith, q, div-add-mod' (y - s) w)))

  -- ---- the columns, where no bit is too wide
  module _ (narrow : a.widest + b.widest ≤ most_at_bit) where
    bit_size : (k : ℕ) (h : k < pa.bits * pb.bits) (x y : ℕ) → b.bit_degree (k % pb.bits) ≡ Some x → a.bit_degree (k / pb.bits) ≡ Some y → (x + y ≤ a.widest + b.widest) × (cross_bit_degree pa.bits pb.bits pa.checks pb.checks a b k ≡ Some (x + y))
    bit_size k h x y e f =
        let few : x + y ≤ a.widest + b.widest = omega (arith, lb.widest_most (k % pb.bits) x e, la.widest_most (k / pb.bits) y f) in
        let fits : x + y < 2 ^ 64 = omega arith in
        (few, rw (lt-ltb k (pa.bits * pb.bits) h, e, f, lt-ltb (x + y) (2 ^ 64) fits))

    bit_lists : (k : ℕ) → k < pa.bits * pb.bits → Lists (cross_bit_degree pa.bits pb.bits pa.checks pb.checks a b k) (cross_bit_check pa.bits pb.bits pa.checks pb.checks a b k) (pa.bits * pb.checks + pa.checks * pb.bits) (λ c. product_holds pa pb c k) 0 most_at_bit
    unfolding on_row on_column
    bit_lists k h =
        let s = pa.bits * pb.checks in
        let on = lt-ltb k (pa.bits * pb.bits) h in
        let l = row_checks k h in
        let m = column_checks k h in
        let size = bit_size k h l.count m.count l.sized m.sized in
        lists_joined l m _ _ _ _ _
        size.1
        (omega arith)
        (omega (arith, size.0))
        (λ p j. rw (on, l.sized, lt-ltb p l.count j))
        (λ p j. rw (on, l.sized, le-ltb p l.count j))
        (λ x y e f. omega (arith, ltb-true x s (and_parts (ltb x s) (product_holds pa pb x k) e).0, leb-true s y (and_parts (leb s y) (product_holds pa pb y k) f).0))
        (λ x e. (and_parts (ltb x s) (product_holds pa pb x k) e).1)
        (λ x e. (and_parts (leb s x) (product_holds pa pb x k) e).1)
        (λ x e.
        ⊎_elim
        (λ (j : x < s). inl (let q : (ltb x s && product_holds pa pb x k) ≡ true = (λ i. lt-ltb x s j i && e i) in q))
        (λ (j : s ≤ x). inr (let q : (leb s x && product_holds pa pb x k) ≡ true = (λ i. le-leb s x j i && e i) in q))
        (cases_lt x s))

    rows : Table (cross_check_degree pa.bits pb.bits pa.checks pb.checks a b) (cross_check_bit pa.bits pb.bits pa.checks pb.checks a b) (pa.bits * pb.checks + pa.checks * pb.bits) (pa.bits * pb.bits) (product_holds pa pb) 1 most_in_check
    rows = record {
      lists = λ c h. ⊎_elim (row_lists c) (λ (l : pa.bits * pb.checks ≤ c). column_lists c l (omega arith)) (cases_lt c (pa.bits * pb.checks));
      no_size = λ c h. let p : pa.bits * pb.checks ≤ c = omega arith in let q : pa.checks * pb.bits ≤ c - pa.bits * pb.checks = omega arith in rw (le-ltb c (pa.bits * pb.checks) p, le-ltb (c - pa.bits * pb.checks) (pa.checks * pb.bits) q);
      no_place = λ c x h. let p : pa.bits * pb.checks ≤ c = omega arith in let q : pa.checks * pb.bits ≤ c - pa.bits * pb.checks = omega arith in rw (le-ltb c (pa.bits * pb.checks) p, le-ltb (c - pa.bits * pb.checks) (pa.checks * pb.bits) q);
    }

    columns : Table (cross_bit_degree pa.bits pb.bits pa.checks pb.checks a b) (cross_bit_check pa.bits pb.bits pa.checks pb.checks a b) (pa.bits * pb.bits) (pa.bits * pb.checks + pa.checks * pb.bits) (λ k c. product_holds pa pb c k) 0 most_at_bit
    columns = record {
      lists = bit_lists;
      no_size = λ k h. rw (le-ltb k (pa.bits * pb.bits) h);
      no_place = λ k p h. rw (le-ltb k (pa.bits * pb.bits) h);
    }

    -- ---- the widest bit
    widest_most_lem : (k n : ℕ) → cross_bit_degree pa.bits pb.bits pa.checks pb.checks a b k ≡ Some n → n ≤ a.widest + b.widest
    widest_most_lem k n e =
        ⊎_elim
        (λ (h : k < pa.bits * pb.bits).
        let l = row_checks k h in
        let m = column_checks k h in
        let size = bit_size k h l.count m.count l.sized m.sized in
        omega (arith, size.0, same_some _ _ (sym size.1 ∙ e)))
        (λ (h : pa.bits * pb.bits ≤ k). none_some n (sym (columns.no_size k h) ∙ e))
        (cases_lt k (pa.bits * pb.bits))

    -- a bit that is widest in both parts
    widest_met_lem : (r j : ℕ) → r < pa.bits → j < pb.bits → a.bit_degree r ≡ Some a.widest → b.bit_degree j ≡ Some b.widest → (k : ℕ) × (cross_bit_degree pa.bits pb.bits pa.checks pb.checks a b k ≡ Some (a.widest + b.widest))
    widest_met_lem r j hr hj e f =
        let h : r * pb.bits + j < pa.bits * pb.bits = omega (arith, mul-add-lt r pb.bits j pa.bits hr hj) in
        let s = bit_size (r * pb.bits + j) h b.widest a.widest (ap b.bit_degree (mod-mul-add r pb.bits j hj) ∙ f) (ap a.bit_degree (div-mul-add r pb.bits j hj) ∙ e) in
        (r * pb.bits + j, s.1 ∙ ap Some (add_comm b.widest a.widest))

    lawful : sizes_fit (pa.bits * pb.bits) (pa.bits * pb.checks + pa.checks * pb.bits) ≡ true → Lawful (cross pa.bits pb.bits pa.checks pb.checks (a.widest + b.widest) a b) (product_pairs pa pb)
    lawful fit =
        let z = limits (pa.bits * pb.bits) (pa.bits * pb.checks + pa.checks * pb.bits) fit in
        let r = la.widest_met in
        let j = lb.widest_met in
        record {
          bits = refl;
          checks = refl;
          some_bits = z.0;
          few_bits = z.1;
          some_checks = z.2;
          few_checks = z.3;
          rows = rows;
          columns = columns;
          widest_most = widest_most_lem;
          widest_met = widest_met_lem r.0 j.0 (has_list la.columns r.0 _ r.1) (has_list lb.columns j.0 _ j.1) r.1 j.1;
        }

-- what is not refused is the product
pub made : (a b : Answers) → sizes_fit (a.bits * b.bits) (a.bits * b.checks + a.checks * b.bits) ≡ true → a.widest + b.widest ≤ most_at_bit → MadeProduct a b (product a b)
made a b fit narrow = record {
  allowed = rw (fit, le-leb (a.widest + b.widest) most_at_bit narrow);
  is = refl;
  lawful = λ pa pb la lb. rw (la.bits, la.checks, lb.bits, lb.checks) (lawful a b pa pb la lb narrow (rw (la.bits, la.checks, lb.bits, lb.checks) at fit));
}

-- the same at counts that were asked
pub made_as : (a b : Answers) (r w d s m : ℕ) → r ≡ a.bits → w ≡ b.bits → d ≡ a.checks → s ≡ b.checks → m ≡ a.widest + b.widest → sizes_fit (r * w) (r * s + d * w) ≡ true → m ≤ most_at_bit → MadeProduct a b (cross r w d s m a b)
made_as a b r w d s m er ew ed es em fit narrow = rw (er, ew, ed, es, em) (made a b (rw (er, ew, ed, es) at fit) (rw em at narrow))
