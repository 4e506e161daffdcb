-- Which shapes a quantiser may have. Assumes nothing.
use Rattle.std.specs.Prelude.{Bool, cond, ◌&&◌, Some, None, Option, Float}
use Rattle.std.specs.Float.Ieee.{lt, le}
use Rattle.faults.specs.Rows.{Row, Q}
use Rattle.quantiser.specs.declared.shape.Boundaries.{Boundaries}
use Rattle.quantiser.specs.declared.shape.Shape.{Shape}
use Rattle.quantiser.specs.declared.shape.Shape.TheVariants.{Uniform, Bounded}
use Rattle.quantiser.specs.Limits.{plus_zero, least_step, most_step, most_boundary}

-- a NaN passes no comparison, so it is no step
abbrev pub is_step : Float → Bool
is_step s = le least_step s && le s most_step

-- 0 < a < b < c, and c within the limit
abbrev pub is_rising : Boundaries → Bool
is_rising v = lt plus_zero v.a && (lt v.a v.b && (lt v.b v.c && le v.c most_boundary))

abbrev pub is_allowed : Shape → Bool
is_allowed (Uniform s) = is_step s
is_allowed (Bounded v) = is_rising v

-- the fault of a shape
abbrev pub shape_fault : Shape → Option Row
shape_fault q = cond (is_allowed q) None (Some (Q 2 0))

-- the shape with boundaries at the multiples of a step, and the one with three boundaries
abbrev pub of_step : Float → Shape
of_step s = Uniform s

abbrev pub of_bounds : Float → Float → Float → Shape
of_bounds x y z = Bounded (record { a = x; b = y; c = z })
