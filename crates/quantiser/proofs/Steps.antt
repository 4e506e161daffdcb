-- The limits as numbers; the boundaries of an allowed step are above zero and never fall.
use Rattle.std.proofs.Common.{◌≡◌, ℕ, ◌≤◌, true, T, pos, refl, arith}
use lib.Ieee.{Float, binary32, le, mul, of_int, of_bits}
use lib.Ieee.Order.{round_mono}
use lib.Ieee.Positive.{positive, above, above_of_le, between, mul_mono}
use Rattle.std.proofs.lemmas.Bool.{and_parts}
use Rattle.quantiser.specs.Laws.{LimitsAre, NeverFall}
use Rattle.quantiser.specs.Levels.{boundary}
use Rattle.quantiser.specs.Limits.{least_step, most_step, uniform_boundaries}
use Rattle.quantiser.specs.Shapes.{is_step}
use Rattle.quantiser.proofs.Above.{passes, true_of, positive_le}

pub limits_are : LimitsAre
unfolding of_bits
limits_are = (refl, refl, refl, refl)

abbrev whole : ℕ → Float
whole k = of_int binary32 (pos k)

step_positive : (s : Float) → is_step s ≡ true → T (positive s) × T (le least_step s)
unfolding of_bits
step_positive s h =
    let p = and_parts (le least_step s) (le s most_step) h in
    (between least_step s most_step tt tt (passes _ p.0) (passes _ p.1), passes _ p.0)

whole_le : (j k : ℕ) → j ≤ k → T (le (whole j) (whole k))
unfolding of_int
whole_le j k h = round_mono binary32 j 1 k 1 (omega arith) (omega arith) (omega arith)

whole_positive : (k : ℕ) → 1 ≤ k → k ≤ uniform_boundaries → T (positive (whole k))
unfolding of_int
whole_positive k a b = between (whole 1) (whole k) (whole uniform_boundaries) tt tt (whole_le 1 k a) (whole_le k uniform_boundaries b)

-- a later boundary of a larger step
boundary_le : (s t : Float) (j k : ℕ) → T (positive s) → T (positive t) → T (le s t) → 1 ≤ j → j ≤ k → k ≤ uniform_boundaries → T (le (boundary s j) (boundary t k))
boundary_le s t j k p q l a b c =
    mul_mono binary32 (whole j) (whole k) s t (whole_positive j a (omega arith)) (whole_positive k (omega arith) c) p q (whole_le j k b) l

pub never_fall : NeverFall
never_fall s j k h a b c =
    let p = step_positive s h in
    true_of _ (boundary_le s s j k p.0 p.0 (positive_le s p.0) a b c)

-- the very first boundary
first_positive : T (positive (boundary least_step 1))
unfolding of_bits mul of_int
first_positive = tt

least_positive : T (positive least_step)
unfolding of_bits
least_positive = tt

pub boundary_above : (s : Float) (k : ℕ) → is_step s ≡ true → 1 ≤ k → k ≤ uniform_boundaries → T (above (boundary s k))
boundary_above s k h a b =
    let p = step_positive s h in
    above_of_le (boundary least_step 1) (boundary s k) first_positive (boundary_le least_step s 1 k least_positive p.0 p.1 (omega arith) a b)
