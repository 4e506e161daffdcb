-- The lists of a grid of cells list the pairs of the circulant code, from both sides.
use Rattle.std.proofs.Common.{◌≡◌, ℕ, zero, suc, ◌+◌, ◌-◌, ◌*◌, ◌/◌, ◌%◌, ◌<◌, ◌≤◌, Bool, true, eqb, cond, List, [], ◌∷◌, ◌++◌, map, length, get_or, ℤ, pos, negsuc, Some, None, Option, position, sym, refl, ap, ◌∙◌, ⊎_elim, mod-eq_of_lt, zero-add, mul-le-mul_right, arith}
use native.Mathlib.Nat.{mod-eq-sub-mod}
use Rattle.std.specs.List.{All, find, range_with_len}
use Rattle.std.specs.Option.{option_map}
use Rattle.std.proofs.lemmas.Nat.{mul-add-lt, div-mul-add, mod-mul-add}
use Rattle.std.proofs.lemmas.List.{length-map}
use Rattle.std.proofs.lemmas.List.FromFn.{get_or-map-range_with_len, length-map-range_with_len, map-range_with_len_more}
use Rattle.std.proofs.lemmas.Bool.{cases_lt, ltb-true, not-false}
use Rattle.std.proofs.lemmas.Bool.Decides.{nat_tests}
use Rattle.std.proofs.lemmas.Option.{cond_some}
use Rattle.circulant.specs.declared.grid.Grid.{Grid}
use Rattle.codes.specs.declared.side.Side.{Side}
use Rattle.codes.specs.declared.side.Side.TheVariants.{ByCheck, ByBit}
use Rattle.circulant.specs.declared.turn.Turn.{Turn}
use Rattle.circulant.specs.Circles.{shift_of, cell_fits, cell_at, leads_to, bad_cell}
use Rattle.codes.specs.Degrees.{outside}
use Rattle.codes.specs.Limits.{stride}
use Rattle.codes.specs.Sides.{other}
use Rattle.codes.specs.Lists.{size_in, place_in}
use Rattle.faults.specs.First.{or_else, first}
use Rattle.codes.specs.Lawful.{Table}
use Rattle.circulant.specs.Turns.{majors, minors, cell_of, forward, turns_of, landing, list_of, lists_of, has_at, degree_at, wrong_at}
use Rattle.codes.proofs.Absent.{none_some}
use Rattle.faults.proofs.Firsts.{first_none, first_block, first_no_block, find_first, position_first}
use Rattle.codes.proofs.Places.{quotient, remainder}
use Rattle.codes.proofs.Sizes.{list_at, table_of}
use Rattle.circulant.proofs.Filtering.{numbers, numbers_many, numbers_list, landed, turns_near}

-- ---- a shift and its way back
mod_once : (x n : ℕ) → n ≤ x → x < n + n → x % n ≡ x - n
mod_once x n h l = mod-eq-sub-mod h ∙ mod-eq_of_lt (let k : x - n < n = omega arith in k)

way_back : (size r t s : ℕ) → r < size → t < size → s < size → eqb t ((r + s) % size) ≡ eqb r ((t + (size - s)) % size)
way_back size r t s hr ht hs =
    ⊎_elim
    (λ (a : r + s < size).
    ⊎_elim
    (λ (b : t + (size - s) < size). rw (mod-eq_of_lt a, mod-eq_of_lt b) (grind (arith, nat_tests)))
    (λ (b : size ≤ t + (size - s)). rw (mod-eq_of_lt a, mod_once (t + (size - s)) size b (omega arith)) (grind (arith, nat_tests)))
    (cases_lt (t + (size - s)) size))
    (λ (a : size ≤ r + s).
    ⊎_elim
    (λ (b : t + (size - s) < size). rw (mod_once (r + s) size a (omega arith), mod-eq_of_lt b) (grind (arith, nat_tests)))
    (λ (b : size ≤ t + (size - s)). rw (mod_once (r + s) size a (omega arith), mod_once (t + (size - s)) size b (omega arith)) (grind (arith, nat_tests)))
    (cases_lt (t + (size - s)) size))
    (cases_lt (r + s) size)

leads_on : (size r t : ℕ) (z : ℤ) → leads_to size r t (shift_of z) ≡ leads_to size r t (option_map (forward ByCheck size) (shift_of z))
leads_on size r t (pos s) = refl
leads_on size r t (negsuc n) = refl

leads_back : (size r t : ℕ) (z : ℤ) → r < size → t < size → cell_fits size z ≡ true → leads_to size r t (shift_of z) ≡ leads_to size t r (option_map (forward ByBit size) (shift_of z))
leads_back size r t (pos s) hr ht fit = way_back size r t s hr ht (ltb-true s size fit)
leads_back size r t (negsuc n) hr ht fit = refl

-- ---- a grid with a cell for each row and column, each −1 or a shift below the size
pub record Sound (g : Grid) (cells : List ℤ) : Type 0 where
  pub many : length cells ≡ g.rows * g.columns
  pub good : (i : ℕ) → i < length cells → cell_fits g.size (get_or cells i (pos 0)) ≡ true

pub sound : (g : Grid) (cells : List ℤ) → length cells ≡ g.rows * g.columns → position (bad_cell g.size) cells ≡ None → Sound g cells
sound g cells many e =
    let none = sym (position_first (bad_cell g.size) (pos 0) cells) ∙ e in
    record { many = many; good = λ i h. not-false _ (first_none (λ k. bad_cell g.size (get_or cells k (pos 0))) (length cells) none i h) }

-- the first that passes is below the bound, passes, and is the first
pub first_some : (t : ℕ → Bool) (n i : ℕ) → first t n ≡ Some i → (i < n) × (t i ≡ true) × (first t i ≡ None)
first_some t zero i e = none_some i e
first_some t (suc n) i e = by (first t n) refl (λ j f. first_some t n j f) e
  where
    by : (o : Option ℕ) → first t n ≡ o → ((j : ℕ) → first t n ≡ Some j → (j < n) × (t j ≡ true) × (first t j ≡ None)) → or_else o (cond (t n) (Some n) None) ≡ Some i → (i < suc n) × (t i ≡ true) × (first t i ≡ None)
    by None f before k =
        let c = cond_some (t n) n i k in
        (omega (arith, c.1), ap t (sym c.1) ∙ c.0, ap (first t) (sym c.1) ∙ f)
    by (Some j) f before k = let r = before i (f ∙ k) in (omega (arith, r.0), r.1, r.2)

-- ---- a grid is within the limits from both sides
majors_fit : (s : Side) (g : Grid) → majors s g * g.size ≤ stride
majors_fit ByCheck g = g.checks
majors_fit ByBit g = g.bits

-- what a row or a column that was found begins with
pub found_fits : (u : ℕ → Bool) (s : Side) (g : Grid) (m : ℕ) → find u (range_with_len 0 (majors s g)) ≡ Some m → m * g.size ≤ stride
found_fits u s g m e =
    let h = first_some u (majors s g) m (sym (find_first u (majors s g)) ∙ e) in
    omega (arith, mul-le-mul_right g.size h.0, majors_fit s g)

-- what its turns lead to
pub near : (s : Side) (g : Grid) (cells : List ℤ) (x : ℕ) → All (λ (t : Turn). t.start ≤ stride) (turns_of s g cells x)
near s g cells x = turns_near (λ y. shift_of (cell_of s g.columns cells x y)) (forward s g.size) g.size 0 (minors s g) (rw (zero-add (minors s g)) (majors_fit (other s) g))

-- the list of one more place of a row or a column
pub list_more : (s : Side) (g : Grid) (cells : List ℤ) (x o : ℕ) → o < g.size → map (list_of s g cells) (range_with_len 0 (x * g.size + (o + 1))) ≡ map (list_of s g cells) (range_with_len 0 (x * g.size + o)) ++ map (landing g.size o) (turns_of s g cells x) ∷ []
list_more s g cells x o h =
    let n = x * g.size + o in
    let long : x * g.size + (o + 1) ≡ n + 1 = omega arith in
    let here : list_of s g cells n ≡ map (landing g.size o) (turns_of s g cells x) = rw (div-mul-add x g.size o h, mod-mul-add x g.size o h) refl in
    ap (λ k. map (list_of s g cells) (range_with_len 0 k)) long ∙ map-range_with_len_more (list_of s g cells) 0 n n (zero-add n) ∙ ap (λ l. map (list_of s g cells) (range_with_len 0 n) ++ l ∷ []) here

module _ (g : Grid) (cells : List ℤ) (ok : Sound g cells) where
  leads_at : (s : Side) (x y t : ℕ) → x < majors s g * g.size → y < minors s g → t < g.size → has_at s g cells x (y * g.size + t) ≡ leads_to g.size (x % g.size) t (option_map (forward s g.size) (shift_of (cell_of s g.columns cells (x / g.size) y)))
  leads_at ByCheck x y t hx hy ht = rw (div-mul-add y g.size t ht, mod-mul-add y g.size t ht) (leads_on g.size (x % g.size) t (cell_at g.columns cells (x / g.size) y))
  leads_at ByBit x y t hx hy ht =
      let j = quotient g.columns g.size x hx in
      rw (div-mul-add y g.size t ht, mod-mul-add y g.size t ht)
      (leads_back g.size t (x % g.size) (cell_at g.columns cells y (x / g.size)) ht (remainder g.columns g.size x hx)
      (ok.good (y * g.columns + x / g.size) (omega (arith, ok.many, mul-add-lt y g.columns (x / g.size) g.rows hy j))))

  -- the list of a check or bit holds exactly its numbers
  list_is : (s : Side) (x : ℕ) → x < majors s g * g.size → list_of s g cells x ≡ numbers (has_at s g cells x) (minors s g * g.size)
  list_is s x h = landed g.size (x % g.size) g.some (forward s g.size) (has_at s g cells x) (λ y. shift_of (cell_of s g.columns cells (x / g.size) y)) (minors s g) (λ y t k m. leads_at s x y t h k m)

  -- as many as its row or column has cells that are not empty
  degree_is : (s : Side) (x : ℕ) → x < majors s g * g.size → length (turns_of s g cells (x / g.size)) ≡ degree_at s g cells x
  degree_is s x h = sym (length-map (turns_of s g cells (x / g.size)) (landing g.size (x % g.size))) ∙ ap length (list_is s x h) ∙ numbers_many (has_at s g cells x) (minors s g * g.size)

  -- ---- all lists of a side
  pub side_table : (s : Side) (least most : ℕ) → ((x : ℕ) → x < majors s g * g.size → (least ≤ degree_at s g cells x) × (degree_at s g cells x ≤ most)) → Table (size_in (lists_of s g cells)) (place_in (lists_of s g cells)) (majors s g * g.size) (minors s g * g.size) (has_at s g cells) least most
  side_table s least most degrees =
      let n = majors s g * g.size in
      table_of (lists_of s g cells) n (minors s g * g.size) least most (has_at s g cells) (length-map-range_with_len (list_of s g cells) 0 n)
      (λ x h.
      let e : list_at (lists_of s g cells) x ≡ numbers (has_at s g cells x) (minors s g * g.size) = get_or-map-range_with_len (list_of s g cells) 0 n x x [] h (zero-add x) ∙ list_is s x h in
      rw e (numbers_list (has_at s g cells x) (minors s g * g.size) least most (degrees x h).0 (degrees x h).1))

  -- ---- the first check or bit outside its limits is the first of its row or column
  pub wrong_is : (s : Side) (least most : ℕ) → wrong_at s least most g cells ≡ option_map (λ m. m * g.size) (find (λ x. outside least most (length (turns_of s g cells x))) (range_with_len 0 (majors s g)))
  wrong_is s least most = rw (find_first u (majors s g)) (by (first u (majors s g)) refl)
    where
      u : ℕ → Bool
      u x = outside least most (length (turns_of s g cells x))

      t : ℕ → Bool
      t x = outside least most (degree_at s g cells x)

      same : (x : ℕ) → x < majors s g * g.size → t x ≡ u (x / g.size)
      same x h = ap (outside least most) (sym (degree_is s x h))

      by : (o : Option ℕ) → first u (majors s g) ≡ o → first t (majors s g * g.size) ≡ option_map (λ m. m * g.size) o
      by None e = first_no_block t u (majors s g) g.size g.some same e
      by (Some i) e = let r = first_some u (majors s g) i e in first_block t u i (majors s g) g.size g.some same r.0 r.2 r.1
