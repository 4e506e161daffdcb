-- Lists of numbers, each at a number: what they answer. Assumes nothing.
use Rattle.std.specs.Prelude.{ℕ, List, length, Option, fold, max, slice_get}
use Rattle.std.specs.Option.{option_map, option_and_then}
use Rattle.codes.specs.Answers.{Answers}

-- how many items the list `at` has, if there is one
abbrev pub size_in : List (List ℕ) → ℕ → Option ℕ
size_in lists at = option_map length (slice_get lists at)

-- the item at a place of the list `at`, if there is one
abbrev pub place_in : List (List ℕ) → ℕ → ℕ → Option ℕ
place_in lists at p = option_and_then (λ l. slice_get l p) (slice_get lists at)

-- the most items that one list has
abbrev pub longest : List (List ℕ) → ℕ
longest lists = fold (λ most l. max most (length l)) 0 lists

-- the answers of rows and columns so held
abbrev pub held : List (List ℕ) → List (List ℕ) → ℕ → Answers
held rows columns widest = record {
  bits = length columns;
  checks = length rows;
  widest = widest;
  check_degree = size_in rows;
  check_bit = place_in rows;
  bit_degree = size_in columns;
  bit_check = place_in columns;
}

-- these lists, with the longest column as the widest
abbrev pub held_by : List (List ℕ) → List (List ℕ) → Answers
held_by rows columns = held rows columns (longest columns)
