-- What the trials are made of: a code, a codeword of it, and samples with their image. Assumes nothing.
use Rattle.std.specs.Prelude.{◌≡◌, ℕ, ◌/◌, ◌<◌, Bool, false, cond, ◌||◌, List, [], ◌∷◌, map, length, ℤ, pos, ◌==◌, slice_index_or, Float}
use Rattle.std.specs.List.{enumerate_from}
use Rattle.std.specs.Float.{nan}
use Rattle.std.specs.Float.Ieee.{neg, eq}
use Rattle.codes.specs.Pairs.{Pairs, Codeword}
use Rattle.circulant.specs.Circles.{circulant_pairs}
use Rattle.quantiser.specs.Limits.{plus_zero}

abbrev pub shifts_of : List ℕ → List ℤ
shifts_of = map pos

-- a grid of 3 by 8 shifts, each of 48 places
abbrev pub pairs : Pairs
pairs = circulant_pairs 3 8 48 (shifts_of (0 ∷ 0 ∷ 0 ∷ 0 ∷ 0 ∷ 0 ∷ 0 ∷ 0 ∷ 0 ∷ 1 ∷ 3 ∷ 7 ∷ 12 ∷ 20 ∷ 30 ∷ 41 ∷ 0 ∷ 5 ∷ 11 ∷ 26 ∷ 40 ∷ 9 ∷ 33 ∷ 17 ∷ []))

-- the ones fill the block columns 1 and 4
abbrev pub is_one : ℕ → Bool
is_one k = k / 48 == 1 || k / 48 == 4

abbrev pub OnesAreCodeword : Type 0
OnesAreCodeword = Codeword pairs is_one

abbrev pub NonZero : List Float → Type 0
NonZero xs = (k : ℕ) → k < length xs → eq (slice_index_or xs k nan) plus_zero ≡ false

-- the samples, negated at the ones
abbrev pub image_of : List Float → List Float
image_of xs = map (λ p. cond (is_one p.0) (neg p.1) p.1) (enumerate_from 0 xs)
