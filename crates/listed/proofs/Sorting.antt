-- A list with no bad pair is in range and sorted.
use Rattle.std.proofs.Common.{◌≡◌, ℕ, zero, suc, ◌-◌, ◌<◌, ◌≤◌, true, false, ◌&&◌, ◌||◌, eqb, ltb, List, length, get_or, None, ap, ⊎_elim, arith}
use Rattle.std.proofs.lemmas.Bool.{cases_eq, and_parts, or_cases, not-false, eqb-true, ltb-true}
use Rattle.listed.specs.declared.pair.Pair.{Pair}
use Rattle.codes.specs.declared.side.Side.{Side}
use Rattle.codes.specs.declared.side.Side.TheVariants.{ByCheck, ByBit}
use Rattle.codes.specs.Limits.{stride}
use Rattle.faults.specs.First.{first}
use Rattle.listed.specs.Order.{blank, major_of, minor_of, comes_before, bad_at, code_of, Sorted}
use Rattle.faults.proofs.Firsts.{first_none}

before_code : (s : Side) (p q : Pair) → minor_of s p < stride → minor_of s q < stride → comes_before s p q ≡ true → code_of s p < code_of s q
before_code s p q hp hq e =
    ⊎_elim
    (λ (l : ltb (major_of s p) (major_of s q) ≡ true). omega (arith, ltb-true (major_of s p) (major_of s q) l))
    (λ (l : (eqb (major_of s p) (major_of s q) && ltb (minor_of s p) (minor_of s q)) ≡ true).
    let b = and_parts (eqb (major_of s p) (major_of s q)) (ltb (minor_of s p) (minor_of s q)) l in
    omega (arith, eqb-true (major_of s p) (major_of s q) b.0, ltb-true (minor_of s p) (minor_of s q) b.1))
    (or_cases (ltb (major_of s p) (major_of s q)) (eqb (major_of s p) (major_of s q) && ltb (minor_of s p) (minor_of s q)) e)

-- what each place of a good list says
pub record Good (bits checks : ℕ) (s : Side) (xs : List Pair) : Type 0 where
  pub check : (i : ℕ) → i < length xs → (get_or xs i blank).check < checks
  pub bit : (i : ℕ) → i < length xs → (get_or xs i blank).bit < bits
  pub next : (i : ℕ) → suc i < length xs → comes_before s (get_or xs i blank) (get_or xs (suc i) blank) ≡ true

good_at : (bits checks : ℕ) (s : Side) (xs : List Pair) (i : ℕ) → bad_at bits checks s xs i ≡ false → ((get_or xs i blank).check < checks) × ((get_or xs i blank).bit < bits) × ((eqb i 0 || comes_before s (get_or xs (i - 1) blank) (get_or xs i blank)) ≡ true)
good_at bits checks s xs i e =
    let a = and_parts (ltb (get_or xs i blank).check checks && ltb (get_or xs i blank).bit bits) (eqb i 0 || comes_before s (get_or xs (i - 1) blank) (get_or xs i blank)) (not-false _ e) in
    let b = and_parts (ltb (get_or xs i blank).check checks) (ltb (get_or xs i blank).bit bits) a.0 in
    (ltb-true _ _ b.0, ltb-true _ _ b.1, a.1)

pub good : (bits checks : ℕ) (s : Side) (xs : List Pair) → first (bad_at bits checks s xs) (length xs) ≡ None → Good bits checks s xs
good bits checks s xs e =
    let at : (i : ℕ) → i < length xs → bad_at bits checks s xs i ≡ false = first_none (bad_at bits checks s xs) (length xs) e in
    record {
      check = λ i h. (good_at bits checks s xs i (at i h)).0;
      bit = λ i h. (good_at bits checks s xs i (at i h)).1;
      next = λ i h.
          ⊎_elim
          (λ (z : eqb (suc i) 0 ≡ true). absurd (omega (arith, eqb-true (suc i) 0 z)))
          (λ (z : comes_before s (get_or xs (suc i - 1) blank) (get_or xs (suc i) blank) ≡ true). let f : suc i - 1 ≡ i = omega arith in rw f at z)
          (or_cases (eqb (suc i) 0) (comes_before s (get_or xs (suc i - 1) blank) (get_or xs (suc i) blank)) (good_at bits checks s xs (suc i) (at (suc i) h)).2);
    }

pub minor_good : (bits checks : ℕ) (s : Side) (xs : List Pair) → bits ≤ stride → checks ≤ stride → Good bits checks s xs → (i : ℕ) → i < length xs → minor_of s (get_or xs i blank) < stride
minor_good bits checks ByCheck xs hb hc g i h = omega (arith, g.bit i h)
minor_good bits checks ByBit xs hb hc g i h = omega (arith, g.check i h)

far : (bits checks : ℕ) (s : Side) (xs : List Pair) → bits ≤ stride → checks ≤ stride → Good bits checks s xs → (i j : ℕ) → i < j → j < length xs → code_of s (get_or xs i blank) < code_of s (get_or xs j blank)
far bits checks s xs hb hc g i zero l h = absurd (omega arith)
far bits checks s xs hb hc g i (suc j) l h =
    let step = before_code s (get_or xs j blank) (get_or xs (suc j) blank) (minor_good bits checks s xs hb hc g j (omega arith)) (minor_good bits checks s xs hb hc g (suc j) h) (g.next j h) in
    ⊎_elim
    (λ (same : i ≡ j). let e : code_of s (get_or xs i blank) ≡ code_of s (get_or xs j blank) = ap (λ k. code_of s (get_or xs k blank)) same in omega arith)
    (λ (other : i ≡ j → ⊥). let r = far bits checks s xs hb hc g i j (omega arith) (omega arith) in omega arith)
    (cases_eq i j)

pub sorted : (bits checks : ℕ) (s : Side) (xs : List Pair) → bits ≤ stride → checks ≤ stride → Good bits checks s xs → Sorted s xs
sorted bits checks s xs hb hc g = record {
  small_check = λ i h. omega (arith, g.check i h);
  small_bit = λ i h. omega (arith, g.bit i h);
  rises = far bits checks s xs hb hc g;
}
