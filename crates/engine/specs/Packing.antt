-- What is read off the memory of a frame: a count of its unmet checks, and its digits in bytes. Assumes nothing.
use Rattle.std.specs.Prelude.{ℕ, Bool, true, false, List, map, length, count_by, get_or}
use Rattle.std.specs.List.{range_with_len}
use Rattle.plain.specs.Machine.{byte_below}
use Rattle.engine.specs.declared.bit.Bit.{Bit}
use Rattle.engine.specs.declared.bit.Sign.{Sign}
use Rattle.engine.specs.declared.bit.Sign.TheVariants.{Met, Unmet}
use Rattle.engine.specs.Turns.{blank}

-- a sign as yes or no
abbrev pub is_unmet : Sign → Bool
is_unmet Met = false
is_unmet Unmet = true

-- how many of the signs are unmet
abbrev pub unmet_signs : List Sign → ℕ
unmet_signs ss = count_by is_unmet ss

-- the digit of each record
abbrev pub digits_of : List Bit → ℕ → Bool
digits_of rs k = (get_or rs k blank).digit

-- as many bytes as size: the digits of the records, eight to a byte, the first at the top of the first byte, and then zeros
abbrev pub packed_into : ℕ → List Bit → List ℕ
packed_into size rs = map (λ i. byte_below (length rs) (digits_of rs) i 8) (range_with_len 0 size)
