-- A grid without a fault, and the lawful code that its lists make.
use Rattle.std.proofs.Common.{◌≡◌, ℕ, ◌*◌, Bool, true, false, cond, List, length, ℤ, Some, None, Option, position, sym, refl, ◌∙◌, subst, arith}
use Rattle.std.proofs.lemmas.List.FromFn.{length-map-range_with_len}
use Rattle.faults.specs.Rows.{C}
use Rattle.circulant.specs.declared.grid.Grid.{Grid}
use Rattle.codes.specs.declared.side.Side.TheVariants.{ByCheck, ByBit}
use Rattle.codes.specs.Answers.{Answers}
use Rattle.circulant.specs.Circles.{bad_cell, grid_fits, circulant_pairs, circulant_fault, MadeCirculant}
use Rattle.codes.specs.Degrees.{wrong_check, wrong_bit}
use Rattle.faults.specs.First.{first, fault_at}
use Rattle.codes.specs.Lawful.{Lawful}
use Rattle.codes.specs.Limits.{most_in_check, most_at_bit}
use Rattle.codes.specs.Lists.{held_by}
use Rattle.circulant.specs.Turns.{list_of, lists_of, Accepted}
use Rattle.codes.proofs.Absent.{none_some}
use Rattle.circulant.proofs.Circling.{sound, side_table}
use Rattle.faults.proofs.Firsts.{first_none}
use Rattle.circulant.proofs.Fitting.{fitted}
use Rattle.codes.proofs.Limiting.{in_limits}
use Rattle.codes.proofs.Sizes.{widest_most_lem, widest_met_lem}

-- ---- what the faults that are not there say
record Passed (b : Bool) (o v y : Option ℕ) : Type 0 where
  sizes : b ≡ true
  cells : o ≡ None
  checks : v ≡ None
  bits : y ≡ None

passed : (b : Bool) (o v y : Option ℕ) → cond b (fault_at (C 2) o (fault_at (C 4) v (fault_at (C 4) y None))) (Some (C 1 0)) ≡ None → Passed b o v y
passed false o v y e = none_some _ (sym e)
passed true (Some i) v y e = none_some _ (sym e)
passed true None (Some i) y e = none_some _ (sym e)
passed true None None (Some i) e = none_some _ (sym e)
passed true None None None e = record { sizes = refl; cells = refl; checks = refl; bits = refl }

-- ---- the lists of an accepted grid
abbrev pub made_of : Grid → List ℤ → Answers
made_of g cells = held_by (lists_of ByCheck g cells) (lists_of ByBit g cells)

lawful_at : (g : Grid) (cells : List ℤ) → circulant_fault g.rows g.columns g.size cells ≡ None → Lawful (made_of g cells) (circulant_pairs g.rows g.columns g.size cells)
lawful_at g cells e =
    let p = circulant_pairs g.rows g.columns g.size cells in
    let d = passed (grid_fits g.rows g.columns g.size (length cells)) (position (bad_cell g.size) cells) (first (wrong_check p) p.checks) (first (wrong_bit p) p.bits) e in
    let f = fitted g.rows g.columns g.size (length cells) d.sizes in
    let ok = sound g cells f.cells d.cells in
    let many = length-map-range_with_len (list_of ByBit g cells) 0 (g.columns * g.size) in
    record {
      bits = many;
      checks = length-map-range_with_len (list_of ByCheck g cells) 0 (g.rows * g.size);
      some_bits = f.some_bits;
      few_bits = f.few_bits;
      some_checks = f.some_checks;
      few_checks = f.few_checks;
      rows = side_table g cells ok ByCheck 1 most_in_check (λ x h. in_limits 1 most_in_check _ (first_none (wrong_check p) p.checks d.checks x h));
      columns = side_table g cells ok ByBit 0 most_at_bit (λ x h. in_limits 0 most_at_bit _ (first_none (wrong_bit p) p.bits d.bits x h));
      widest_most = widest_most_lem (lists_of ByBit g cells);
      widest_met = widest_met_lem (lists_of ByBit g cells) (omega (arith, many, f.some_bits));
    }

pub made : (rows columns size : ℕ) (cells : List ℤ) (g : Grid) (held : List ℤ) → Accepted rows columns size cells g held → MadeCirculant rows columns size cells (made_of g held)
made rows columns size cells g held a =
    let same : circulant_fault g.rows g.columns g.size held ≡ circulant_fault rows columns size cells = λ i. circulant_fault (a.rows_are i) (a.columns_are i) (a.size_is i) (a.cells_are i) in
    let pairs : circulant_pairs g.rows g.columns g.size held ≡ circulant_pairs rows columns size cells = λ i. circulant_pairs (a.rows_are i) (a.columns_are i) (a.size_is i) (a.cells_are i) in
    record {
      allowed = a.allowed;
      lawful = subst (Lawful (made_of g held)) pairs (lawful_at g held (same ∙ a.allowed));
    }
