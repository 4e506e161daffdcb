-- The limits of every code. Assumes nothing.
use Rattle.std.specs.Prelude.{ℕ, Bool, ◌&&◌, nat_le}

abbrev pub most_bits : ℕ
most_bits = 4096

abbrev pub most_checks : ℕ
most_checks = 4096

-- every bit and every check is numbered below this
abbrev pub stride : ℕ
stride = 4096

-- the most bits that a check holds, which holds one at least
abbrev pub most_in_check : ℕ
most_in_check = 64

-- the most checks that hold a bit, which may be none
abbrev pub most_at_bit : ℕ
most_at_bit = 16

-- the largest size of a circulant
abbrev pub most_size : ℕ
most_size = 256

-- counts of bits and of checks that a code may have
abbrev pub sizes_fit : ℕ → ℕ → Bool
sizes_fit bits checks = (nat_le 1 bits && nat_le bits most_bits) && (nat_le 1 checks && nat_le checks most_checks)
