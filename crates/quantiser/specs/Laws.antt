-- What holds of every level and every boundary. Assumes nothing.
use Rattle.std.specs.Prelude.{◌≡◌, ℕ, ◌%◌, ◌≤◌, true, false, pos, negsuc, neg_ℤ, ◌≤ℤ◌, is_nan, unsigned_abs, Float}
use Rattle.std.specs.Float.{fin}
use Rattle.std.specs.Float.Ieee.{neg, eq, le}
use Rattle.quantiser.specs.declared.Quantiser.{Quantiser}
use Rattle.quantiser.specs.Levels.{size_of, boundary, level_of}
use Rattle.quantiser.specs.Limits.{plus_zero, least_step, most_step, most_boundary, uniform_boundaries, most_level}
use Rattle.quantiser.specs.Shapes.{is_step}

-- the level of -x is that of x, negated, at every x that is a number and not zero
abbrev pub Mirrored : Type 0
Mirrored = (q : Quantiser) (x : Float) → is_nan x ≡ false → eq x plus_zero ≡ false → level_of q.shape (neg x) ≡ neg_ℤ (level_of q.shape x)

-- either zero has the level 1
abbrev pub ZeroIsOne : Type 0
ZeroIsOne = (q : Quantiser) (x : Float) → eq x plus_zero ≡ true → level_of q.shape x ≡ pos 1

-- every level is odd, and lies from -31 to 31
abbrev pub OddAndSmall : Type 0
OddAndSmall = (q : Quantiser) (x : Float) → (unsigned_abs (level_of q.shape x) % 2 ≡ 1) × (neg_ℤ (pos most_level) ≤ℤ level_of q.shape x) × (level_of q.shape x ≤ℤ pos most_level)

-- a larger absolute value never has a smaller magnitude
abbrev pub NeverShrinks : Type 0
NeverShrinks = (q : Quantiser) (x y : Float) → le (size_of x) (size_of y) ≡ true → unsigned_abs (level_of q.shape x) ≤ unsigned_abs (level_of q.shape y)

-- the limits are 0, 2^-10, 2^10 and 2^14
abbrev pub LimitsAre : Type 0
LimitsAre = (plus_zero ≡ fin false 0 (pos 0)) × (least_step ≡ fin false 1 (negsuc 9)) × (most_step ≡ fin false 1 (pos 10)) × (most_boundary ≡ fin false 1 (pos 14))

-- the boundaries of an allowed step never fall
abbrev pub NeverFall : Type 0
NeverFall = (s : Float) (j k : ℕ) → is_step s ≡ true → 1 ≤ j → j ≤ k → k ≤ uniform_boundaries → le (boundary s j) (boundary s k) ≡ true
