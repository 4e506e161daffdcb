-- The level of a sample. Assumes nothing.
use Rattle.std.specs.Prelude.{ℕ, zero, suc, ◌+◌, ◌*◌, Bool, false, cond, ℤ, pos, neg_ℤ, Float}
use Rattle.std.specs.Float.Ieee.{mul, lt, le, of_int}
use Rattle.std.specs.Float.{float_with_sign, binary32}
use Rattle.quantiser.specs.declared.shape.Boundaries.{Boundaries}
use Rattle.quantiser.specs.declared.shape.Shape.{Shape}
use Rattle.quantiser.specs.declared.shape.Shape.TheVariants.{Uniform, Bounded}
use Rattle.quantiser.specs.Limits.{plus_zero, uniform_boundaries}

-- the absolute value of a sample
abbrev pub size_of : Float → Float
size_of x = float_with_sign false x

-- ---- how many boundaries are not above a size
abbrev pub one : Bool → ℕ
one t = cond t 1 0

-- boundary k of a step: k times the step, rounded once
abbrev pub boundary : Float → ℕ → Float
boundary s k = mul binary32 (of_int binary32 (pos k)) s

-- of the boundaries 1 to n of a step
unfoldable pub steps_reached : Float → Float → ℕ → ℕ
steps_reached s x zero = 0
steps_reached s x (suc k) = steps_reached s x k + one (le (boundary s (suc k)) x)

-- of three boundaries
abbrev pub bounds_reached : Boundaries → Float → ℕ
bounds_reached v x = one (le v.a x) + one (le v.b x) + one (le v.c x)

-- ---- magnitudes
-- 1, 5, 13 and 31 at 0 to 3 of three boundaries
abbrev pub by_bounds : ℕ → ℕ
by_bounds zero = 1
by_bounds (suc zero) = 5
by_bounds (suc (suc zero)) = 13
by_bounds (suc (suc (suc j))) = 31

-- the magnitude at a size
abbrev pub magnitude : Shape → Float → ℕ
magnitude (Uniform s) x = 2 * steps_reached s x uniform_boundaries + 1
magnitude (Bounded v) x = by_bounds (bounds_reached v x)

-- ---- levels
-- a magnitude with a sign, which true makes negative
abbrev pub signed : Bool → ℕ → ℤ
signed t n = cond t (neg_ℤ (pos n)) (pos n)

-- negative exactly where the sample is below zero
abbrev pub level_of : Shape → Float → ℤ
level_of q x = signed (lt x plus_zero) (magnitude q (size_of x))
