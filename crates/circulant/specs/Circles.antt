-- The making of a circulant code: its pairs, and what is refused of a grid of cells. Assumes nothing.
use Rattle.std.specs.Prelude.{◌≡◌, ℕ, ◌+◌, ◌*◌, ◌/◌, ◌%◌, Bool, false, cond, not, ◌&&◌, List, length, ℤ, pos, negsuc, Some, None, Option, ◌==◌, nat_le, nat_lt, position, slice_index_or}
use Rattle.faults.specs.Rows.{Row, C}
use Rattle.codes.specs.Answers.{Answers}
use Rattle.codes.specs.Degrees.{degree_fault}
use Rattle.faults.specs.First.{fault_at}
use Rattle.codes.specs.Lawful.{Lawful}
use Rattle.codes.specs.Limits.{most_size, sizes_fit}
use Rattle.codes.specs.Pairs.{Pairs}

-- a cell is a shift, or −1 for empty
abbrev pub shift_of : ℤ → Option ℕ
shift_of (pos s) = Some s
shift_of (negsuc n) = None

-- −1, or a shift below the size
abbrev pub cell_fits : ℕ → ℤ → Bool
cell_fits size (pos s) = nat_lt s size
cell_fits size (negsuc n) = n == 0

-- the cell at row i and column j
abbrev pub cell_at : ℕ → List ℤ → ℕ → ℕ → ℤ
cell_at columns cells i j = slice_index_or cells (i * columns + j) (pos 0)

-- t is the place that a shift leads to from r
abbrev pub leads_to : ℕ → ℕ → ℕ → Option ℕ → Bool
leads_to size r t None = false
leads_to size r t (Some s) = t == (r + s) % size

-- the check i * size + r holds the bit j * size + ((r + s) mod size) for each cell (i, j) with the shift s
abbrev pub circulant_holds : ℕ → ℕ → List ℤ → ℕ → ℕ → Bool
circulant_holds columns size cells c b = leads_to size (c % size) (b % size) (shift_of (cell_at columns cells (c / size) (b / size)))

abbrev pub circulant_pairs : ℕ → ℕ → ℕ → List ℤ → Pairs
circulant_pairs rows columns size cells = record { bits = columns * size; checks = rows * size; holds = circulant_holds columns size cells }

-- sizes that a grid with so many cells may have
abbrev pub grid_fits : ℕ → ℕ → ℕ → ℕ → Bool
grid_fits rows columns size count = (nat_le 1 size && nat_le size most_size) && (sizes_fit (columns * size) (rows * size) && count == rows * columns)

abbrev pub bad_cell : ℕ → ℤ → Bool
bad_cell size cell = not (cell_fits size cell)

-- the faults in their order: sizes, cells, checks and bits with too few or too many
abbrev pub circulant_fault : ℕ → ℕ → ℕ → List ℤ → Option Row
circulant_fault rows columns size cells = cond (grid_fits rows columns size (length cells)) (fault_at (C 2) (position (bad_cell size) cells) (degree_fault (circulant_pairs rows columns size cells))) (Some (C 1 0))

-- a is what a grid means, that was not refused
pub record MadeCirculant (rows columns size : ℕ) (cells : List ℤ) (a : Answers) : Type 0 where
  pub allowed : circulant_fault rows columns size cells ≡ None
  pub lawful : Lawful a (circulant_pairs rows columns size cells)
