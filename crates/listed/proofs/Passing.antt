-- What the tests that were passed say of two lists.
use Rattle.std.proofs.Common.{◌≡◌, ℕ, ◌<◌, ◌≤◌, Bool, not, get_or, position, true, false, cond, eqb, List, length, Some, None, Option, sym, refl, ap, ◌∙◌}
use Rattle.std.proofs.lemmas.Bool.{eqb-true, not-false}
use Rattle.faults.proofs.Firsts.{first_none, position_first}
use Rattle.faults.specs.Rows.{Row, C}
use Rattle.listed.specs.declared.pair.Pair.{Pair}
use Rattle.codes.specs.declared.side.Side.{Side}
use Rattle.codes.specs.declared.side.Side.TheVariants.{ByCheck, ByBit}
use Rattle.codes.specs.Limits.{most_bits, most_checks, sizes_fit}
use Rattle.codes.specs.Degrees.{wrong_check, wrong_bit, degree_fault}
use Rattle.faults.specs.First.{first, fault_at, or_fault}
use Rattle.listed.specs.Order.{blank, bad_at, has_pair, Sorted}
use Rattle.listed.specs.Listing.{mismatch_fault}
use Rattle.codes.specs.Pairs.{Pairs}
use Rattle.codes.proofs.Absent.{none_some}
use Rattle.codes.proofs.Limiting.{limits}
use Rattle.listed.proofs.Sorting.{Good, good, sorted}

-- the chain of faults at what each test found
abbrev chain : Bool → Option ℕ → Option ℕ → Bool → Option ℕ → Option Row
chain b o u d w = cond b (fault_at (C 2) o (fault_at (C 2) u (cond d (fault_at (C 3) w None) (Some (C 3 0))))) (Some (C 1 0))

record Passed (b : Bool) (o u : Option ℕ) (d : Bool) (w : Option ℕ) : Type 0 where
  counts : b ≡ true
  rows : o ≡ None
  columns : u ≡ None
  lengths : d ≡ true
  missing : w ≡ None

passed : (b : Bool) (o u : Option ℕ) (d : Bool) (w : Option ℕ) → chain b o u d w ≡ None → Passed b o u d w
passed false o u d w e = none_some _ (sym e)
passed true (Some i) u d w e = none_some _ (sym e)
passed true None (Some i) d w e = none_some _ (sym e)
passed true None None false w e = none_some _ (sym e)
passed true None None true (Some i) e = none_some _ (sym e)
passed true None None true None e = record { counts = refl; rows = refl; columns = refl; lengths = refl; missing = refl }

-- a list without a bad pair is sorted
pub sorted_list : (bits checks : ℕ) (s : Side) (xs : List Pair) → sizes_fit bits checks ≡ true → None ≡ first (bad_at bits checks s xs) (length xs) → Sorted s xs
sorted_list bits checks s xs e f = let l = limits bits checks e in sorted bits checks s xs l.1 l.3 (good bits checks s xs (sym f))

-- what is known of lists that match
pub record Fine (bits checks : ℕ) (xs ys : List Pair) : Type 0 where
  pub some_bits : 1 ≤ bits
  pub few_bits : bits ≤ most_bits
  pub some_checks : 1 ≤ checks
  pub few_checks : checks ≤ most_checks
  pub rows : Good bits checks ByCheck xs
  pub columns : Good bits checks ByBit ys
  pub rows_sorted : Sorted ByCheck xs
  pub columns_sorted : Sorted ByBit ys
  pub lengths : length xs ≡ length ys
  pub missing : (i : ℕ) → i < length xs → has_pair ys (get_or xs i blank) ≡ true

pub fine : (bits checks : ℕ) (xs ys : List Pair) → mismatch_fault bits checks xs ys ≡ None → Fine bits checks xs ys
fine bits checks xs ys e =
    let p = passed (sizes_fit bits checks) (first (bad_at bits checks ByCheck xs) (length xs)) (first (bad_at bits checks ByBit ys) (length ys)) (eqb (length xs) (length ys)) (position (λ p. not (has_pair ys p)) xs) e in
    let l = limits bits checks p.counts in
    record {
      some_bits = l.0;
      few_bits = l.1;
      some_checks = l.2;
      few_checks = l.3;
      rows = good bits checks ByCheck xs p.rows;
      columns = good bits checks ByBit ys p.columns;
      rows_sorted = sorted_list bits checks ByCheck xs p.counts (sym p.rows);
      columns_sorted = sorted_list bits checks ByBit ys p.counts (sym p.columns);
      lengths = eqb-true (length xs) (length ys) p.lengths;
      missing = λ i h. not-false _ (first_none (λ k. not (has_pair ys (get_or xs k blank))) (length xs) (sym (position_first (λ p. not (has_pair ys p)) blank xs) ∙ p.missing) i h);
    }

-- ---- lists without a fault
pub faultless : (o u : Option Row) → o ≡ None → u ≡ None → or_fault o u ≡ None
faultless o u e f = ap (λ r. or_fault r u) e ∙ f

-- the checks and the bits that are outside their limits: none
degrees : (o u : Option ℕ) → fault_at (C 4) o (fault_at (C 4) u None) ≡ None → (o ≡ None) × (u ≡ None)
degrees (Some i) u e = none_some _ (sym e)
degrees None (Some i) e = none_some _ (sym e)
degrees None None e = (refl, refl)

pub degrees_fit : (p : Pairs) → degree_fault p ≡ None → (first (wrong_check p) p.checks ≡ None) × (first (wrong_bit p) p.bits ≡ None)
degrees_fit p e = degrees (first (wrong_check p) p.checks) (first (wrong_bit p) p.bits) e
