-- Lists of numbers that are held end to end, with the start of each, or in vectors. Assumes nothing.
use Rattle.std.specs.Prelude.{ℕ, ◌+◌, ◌-◌, List, length, map, drop, Vec, vec_items, slice_index, slice_range}
use Rattle.std.specs.List.{range_with_len}
use Rattle.std.specs.Global.{Global}
use Rattle.codes.specs.declared.lists.Lists.{Lists}

-- the items from one start to the next
abbrev pub items_at : List ℕ → List ℕ → ℕ → List ℕ
items_at starts items i = slice_range items (slice_index starts i) (slice_index starts (i + 1))

-- the lists: of each start but the last, the items up to the next
unfoldable pub lists_in : Lists → List (List ℕ)
lists_in l = map (items_at (vec_items l.starts) (vec_items l.items)) (range_with_len 0 (length (vec_items l.starts) - 1))

-- the items of the list that is being made: those from the last start on
unfoldable pub open_in : Lists → List ℕ
open_in l = drop (slice_index (vec_items l.starts) (length (vec_items l.starts) - 1)) (vec_items l.items)

-- the lists that vectors are
abbrev pub lists_of_vectors : Vec (Vec ℕ Global) Global → List (List ℕ)
lists_of_vectors v = map vec_items (vec_items v)
