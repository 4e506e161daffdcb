-- What a noise source means, and the meanings of the sources that come with it. Assumes nothing.
use Rattle.std.specs.Prelude.{◌≡◌, ℕ, ◌+◌, ◌*◌, ◌/◌, ◌%◌, ◌^◌, ◌≤◌, Bool, cond, not, ◌&&◌, ◌⊎◌, List, length, get_or, ℤ, pos, negsuc, ◌-ℤ◌, ◌≤ℤ◌, Some, None, Option, bit_xor, int_le, nat_le, nat_lt, position}
use Rattle.faults.specs.First.{fault_at}
use Rattle.faults.specs.Rows.{Row, N}

-- ---- the limits
abbrev pub most_rounds : ℕ
most_rounds = 1000

abbrev pub most_bits : ℕ
most_bits = 4096

abbrev pub least_noise : ℤ
least_noise = negsuc 254

abbrev pub most_noise : ℤ
most_noise = pos 255

abbrev pub most_entries : ℕ
most_entries = 16384

abbrev pub most_amplitude : ℕ
most_amplitude = 255

-- ---- what holds of every source: a number within the limits for each round and bit, and 0 beyond
pub record Lawful (noise : ℕ → ℕ → ℤ) : Type 0 where
  pub low : (r k : ℕ) → least_noise ≤ℤ noise r k
  pub high : (r k : ℕ) → noise r k ≤ℤ most_noise
  pub beyond : (r k : ℕ) → (most_rounds ≤ r) ⊎ (most_bits ≤ k) → noise r k ≡ pos 0

-- the rounds and bits for which a source has noise
abbrev pub is_covered : ℕ → ℕ → Bool
is_covered r k = nat_lt r most_rounds && nat_lt k most_bits

-- a number for each of these rounds and bits, and 0 beyond
abbrev pub within : (ℕ → ℕ → ℤ) → ℕ → ℕ → ℤ
within f r k = cond (is_covered r k) (f r k) (pos 0)

-- ---- silence
abbrev pub silence : ℕ → ℕ → ℤ
silence r k = pos 0

-- ---- a table, read round and round
abbrev pub entry_fits : ℤ → Bool
entry_fits z = int_le least_noise z && int_le z most_noise

abbrev pub tabled : List ℤ → ℕ → ℕ → ℤ
tabled entries = within (λ r k. get_or entries ((r + k) % length entries) (pos 0))

-- the place of the first entry that does not fit
abbrev pub first_bad : List ℤ → Option ℕ
first_bad = position (λ z. not (entry_fits z))

-- why a table is refused
abbrev pub table_fault : List ℤ → Option Row
table_fault entries = cond (nat_le 1 (length entries) && nat_le (length entries) most_entries) (fault_at (N 2) (first_bad entries) None) (Some (N 1 (length entries)))

-- ---- a generator, which mixes the bits of its seed, the round and the bit
abbrev pub word : ℕ
word = 2 ^ 32

abbrev pub mixed : ℕ → ℕ
mixed u = thirdly (secondly (firstly u))
  where
    firstly : ℕ → ℕ
    firstly v = bit_xor v (v * 2 ^ 13 % word)

    secondly : ℕ → ℕ
    secondly v = bit_xor v (v / 2 ^ 17)

    thirdly : ℕ → ℕ
    thirdly v = bit_xor v (v * 2 ^ 5 % word)

-- a number from −amplitude to amplitude
abbrev pub spread : ℕ → ℕ → ℤ
spread amplitude u = pos (u % (2 * amplitude + 1)) -ℤ pos amplitude

-- the numbers of a round are so far from those of the next
abbrev pub span : ℕ
span = 4096

abbrev pub generated : ℕ → ℕ → ℕ → ℕ → ℤ
generated seed amplitude = within (λ r k. spread amplitude (mixed ((seed + (r * span + k)) % word)))

-- why a generator is refused
abbrev pub amplitude_fault : ℕ → Option Row
amplitude_fault a = cond (nat_le a most_amplitude) None (Some (N 3 0))
