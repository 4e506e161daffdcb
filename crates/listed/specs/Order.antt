-- Lists of pairs in the two orders, and what is wrong with one. Assumes nothing.
use Rattle.std.specs.Prelude.{ℕ, ◌+◌, ◌-◌, ◌*◌, ◌<◌, Bool, false, not, ◌&&◌, ◌||◌, List, [], ◌∷◌, length, get_or, count_by, filter, map, ◌==◌, nat_eq, nat_lt, slice_index_or}
use Rattle.listed.specs.declared.pair.Pair.{Pair}
use Rattle.codes.specs.declared.side.Side.{Side}
use Rattle.codes.specs.declared.side.Side.TheVariants.{ByCheck, ByBit}
use Rattle.codes.specs.Sides.{other}
use Rattle.codes.specs.Limits.{stride}

-- what is read past the end of a list
abbrev pub blank : Pair
blank = record { check = 0; bit = 0 }

-- the number that an order looks at first, and the other
abbrev pub major_of : Side → Pair → ℕ
major_of ByCheck p = p.check
major_of ByBit p = p.bit

abbrev pub minor_of : Side → Pair → ℕ
minor_of s p = major_of (other s) p

-- p stands before q in the order
abbrev pub comes_before : Side → Pair → Pair → Bool
comes_before s p q = nat_lt (major_of s p) (major_of s q) || (major_of s p == major_of s q && nat_lt (minor_of s p) (minor_of s q))

-- the pair at i is out of range, or not above the one before it
abbrev pub bad_at : ℕ → ℕ → Side → List Pair → ℕ → Bool
bad_at bits checks s xs i = not ((nat_lt (get_or xs i blank).check checks && nat_lt (get_or xs i blank).bit bits) && (i == 0 || comes_before s (slice_index_or xs (i - 1) blank) (slice_index_or xs i blank)))

-- the same check and the same bit
abbrev pub same_pair : Pair → Pair → Bool
same_pair p q = p.check == q.check && p.bit == q.bit

-- the pair is in the list
abbrev pub has_pair : List Pair → Pair → Bool
has_pair [] p = false
has_pair (x ∷ xs) p = same_pair x p || has_pair xs p

-- how many pairs have this check, or this bit
abbrev pub count_in : Side → List Pair → ℕ → ℕ
count_in s xs c = count_by (λ p. nat_eq (major_of s p) c) xs

-- the other numbers of its pairs, in the list's order
abbrev pub row_of : Side → List Pair → ℕ → List ℕ
row_of s xs c = map (minor_of s) (filter (λ p. major_of s p == c) xs)

-- both numbers in one, in the order's sense
abbrev pub code_of : Side → Pair → ℕ
code_of s p = major_of s p * stride + minor_of s p

-- numbers within the limits, in strictly rising order
pub record Sorted (s : Side) (xs : List Pair) : Type 0 where
  pub small_check : (i : ℕ) → i < length xs → (get_or xs i blank).check < stride
  pub small_bit : (i : ℕ) → i < length xs → (get_or xs i blank).bit < stride
  pub rises : (i j : ℕ) → i < j → j < length xs → code_of s (slice_index_or xs i blank) < code_of s (slice_index_or xs j blank)
