-- Hexadecimal digits, and the levels that two of them make, in two's complement. Assumes nothing.
use Rattle.std.specs.Prelude.{◌≡◌, ℕ, ◌+◌, ◌-◌, ◌*◌, ◌/◌, ◌%◌, Bool, cond, ◌&&◌, List, [], ◌∷◌, length, ℤ, pos, negsuc, ◌≤ℤ◌, is_none, Some, None, Option, ◌==◌, nat_le, nat_lt, position}
use Rattle.faults.specs.First.{fault_at}
use Rattle.faults.specs.Rows.{Row, T}

-- what a byte is worth as a digit: from 0 to 9, and from a to f
abbrev pub nibble : ℕ → Option ℕ
nibble d = cond (nat_le 48 d && nat_le d 57) (Some (d - 48)) (cond (nat_le 97 d && nat_le d 102) (Some (d - 87)) None)

-- the byte of a digit's worth
abbrev pub digit : ℕ → ℕ
digit n = cond (nat_lt n 10) (48 + n) (87 + n)

-- a byte as a number from −128 to 127
abbrev pub level : ℕ → ℤ
level n = cond (nat_lt n 128) (pos n) (negsuc (255 - n))

-- and back
abbrev pub byte_of : ℤ → ℕ
byte_of (pos n) = n
byte_of (negsuc n) = 255 - n

abbrev pub high_digit : ℤ → ℕ
high_digit z = digit (byte_of z / 16)

abbrev pub low_digit : ℤ → ℕ
low_digit z = digit (byte_of z % 16)

-- the level of two digits, the high one first
abbrev pub level_of : Option ℕ → Option ℕ → Option ℤ
level_of None l = None
level_of (Some h) None = None
level_of (Some h) (Some l) = Some (level (h * 16 + l))

-- every level's two digits make it again
abbrev pub RoundTrip : Type 0
RoundTrip = (z : ℤ) → negsuc 127 ≤ℤ z → z ≤ℤ pos 127 → level_of (nibble (high_digit z)) (nibble (low_digit z)) ≡ Some z

-- ---- a frame's digits
abbrev pub most_digits : ℕ
most_digits = 8192

-- the first byte that is no digit
abbrev pub first_bad : List ℕ → Option ℕ
first_bad ds = position (λ d. is_none (nibble d)) ds

abbrev pub count_fits : ℕ → Bool
count_fits n = n % 2 == 0 && nat_le n most_digits

-- why the digits that stand at a place are refused: the first byte that is no digit, and then their number
abbrev pub frame_fault : ℕ → List ℕ → Option Row
frame_fault at ds = fault_at (λ i. T 3 (at + i)) (first_bad ds) (cond (count_fits (length ds)) None (Some (T 4 at)))

-- what a digit is worth, and 0 for what is none
abbrev pub worth : Option ℕ → ℕ
worth None = 0
worth (Some n) = n

-- the levels of the digits, two by two
abbrev pub levels_of : List ℕ → List ℤ
levels_of [] = []
levels_of (d ∷ []) = []
levels_of (d ∷ e ∷ ds) = level (worth (nibble d) * 16 + worth (nibble e)) ∷ levels_of ds
