-- How the lists of a circulant code are built: the cells that are not empty, from each side. Assumes nothing.
use Rattle.std.specs.Prelude.{◌≡◌, ℕ, ◌+◌, ◌-◌, ◌*◌, ◌/◌, ◌%◌, Bool, true, false, List, map, ℤ, Some, None, Option}
use Rattle.std.specs.List.{filter_map, range_with_len}
use Rattle.std.specs.Option.{option_map}
use Rattle.circulant.specs.declared.grid.Grid.{Grid}
use Rattle.codes.specs.declared.side.Side.{Side}
use Rattle.codes.specs.declared.side.Side.TheVariants.{ByCheck, ByBit}
use Rattle.circulant.specs.declared.turn.Turn.{Turn}
use Rattle.circulant.specs.Circles.{shift_of, cell_at, circulant_holds, grid_fits, circulant_fault}
use Rattle.codes.specs.Degrees.{outside}
use Rattle.codes.specs.Pairs.{count_below}
use Rattle.codes.specs.Sides.{other}
use Rattle.faults.specs.First.{first}

-- the rows of the grid, or its columns, and how many cells each has
abbrev pub majors : Side → Grid → ℕ
majors ByCheck g = g.rows
majors ByBit g = g.columns

abbrev pub minors : Side → Grid → ℕ
minors s g = majors (other s) g

abbrev pub cell_of : Side → ℕ → List ℤ → ℕ → ℕ → ℤ
cell_of ByCheck columns cells x y = cell_at columns cells x y
cell_of ByBit columns cells x y = cell_at columns cells y x

-- a shift from a check leads to its bit, and from the bit it leads back
abbrev pub forward : Side → ℕ → ℕ → ℕ
forward ByCheck size u = u
forward ByBit size u = size - u

abbrev pub turn_at : Side → Grid → List ℤ → ℕ → ℕ → Option Turn
turn_at s g cells x y = option_map (λ u. record { start = y * g.size; by = forward s g.size u }) (shift_of (cell_of s g.columns cells x y))

-- the cells of a row or a column that are not empty
abbrev pub turns_of : Side → Grid → List ℤ → ℕ → List Turn
turns_of s g cells x = filter_map (turn_at s g cells x) (range_with_len 0 (minors s g))

-- where a turn leads from the place r of its row or column
abbrev pub landing : ℕ → ℕ → Turn → ℕ
landing size r t = t.start + (r + t.by) % size

-- the list of a check, or of a bit, and all of them
abbrev pub list_of : Side → Grid → List ℤ → ℕ → List ℕ
list_of s g cells x = map (landing g.size (x % g.size)) (turns_of s g cells (x / g.size))

abbrev pub lists_of : Side → Grid → List ℤ → List (List ℕ)
lists_of s g cells = map (list_of s g cells) (range_with_len 0 (majors s g * g.size))

-- the pairs from a side, and how many there are
abbrev pub has_at : Side → Grid → List ℤ → ℕ → ℕ → Bool
has_at ByCheck g cells x y = circulant_holds g.columns g.size cells x y
has_at ByBit g cells x y = circulant_holds g.columns g.size cells y x

abbrev pub degree_at : Side → Grid → List ℤ → ℕ → ℕ
degree_at s g cells x = count_below (minors s g * g.size) (has_at s g cells x)

-- the first check or bit with too few or too many
abbrev pub wrong_at : Side → ℕ → ℕ → Grid → List ℤ → Option ℕ
wrong_at s least most g cells = first (λ x. outside least most (degree_at s g cells x)) (majors s g * g.size)

-- a grid of these sizes, exactly where they fit
abbrev pub Gridded : ℕ → ℕ → ℕ → ℕ → Option Grid → Type 0
Gridded rows columns size count None = grid_fits rows columns size count ≡ false
Gridded rows columns size count (Some g) = (grid_fits rows columns size count ≡ true) × (g.rows ≡ rows) × (g.columns ≡ columns) × (g.size ≡ size)

-- g is the grid of these cells, which are not refused
pub record Accepted (rows columns size : ℕ) (cells : List ℤ) (g : Grid) (held : List ℤ) : Type 0 where
  pub allowed : circulant_fault rows columns size cells ≡ None
  pub rows_are : g.rows ≡ rows
  pub columns_are : g.columns ≡ columns
  pub size_is : g.size ≡ size
  pub cells_are : held ≡ cells
