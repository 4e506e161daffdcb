-- A larger absolute value never has a smaller magnitude.
use Rattle.std.proofs.Common.{◌≡◌, ℕ, zero, suc, ◌≤◌, Bool, true, false, T, nat_abs, refl, arith}
use lib.Ieee.{Float, le, lt}
use lib.Ieee.Positive.{above}
use Rattle.quantiser.specs.declared.shape.Shape.{Shape}
use Rattle.quantiser.specs.declared.shape.Shape.TheVariants.{Uniform, Bounded}
use Rattle.quantiser.specs.Laws.{NeverShrinks}
use Rattle.quantiser.specs.Levels.{size_of, signed, boundary, steps_reached, bounds_reached, one, by_bounds, magnitude}
use Rattle.quantiser.specs.Limits.{plus_zero, uniform_boundaries}
use Rattle.quantiser.specs.Shapes.{is_step, is_allowed}
use Rattle.quantiser.proofs.Above.{passes, above_trans, bounds_above}
use Rattle.quantiser.proofs.Steps.{boundary_above}

one_grows : (a b : Bool) → (T a → T b) → one a ≤ one b
one_grows true true h = omega arith
one_grows true false h = absurd (h tt)
one_grows false true h = omega arith
one_grows false false h = omega arith

table_grows : (i j : ℕ) → i ≤ j → by_bounds i ≤ by_bounds j
table_grows zero zero h = omega arith
table_grows zero (suc zero) h = omega arith
table_grows zero (suc (suc zero)) h = omega arith
table_grows zero (suc (suc (suc j))) h = omega arith
table_grows (suc i) zero h = absurd (omega arith)
table_grows (suc zero) (suc zero) h = omega arith
table_grows (suc zero) (suc (suc zero)) h = omega arith
table_grows (suc zero) (suc (suc (suc j))) h = omega arith
table_grows (suc (suc i)) (suc zero) h = absurd (omega arith)
table_grows (suc (suc zero)) (suc (suc zero)) h = omega arith
table_grows (suc (suc zero)) (suc (suc (suc j))) h = omega arith
table_grows (suc (suc (suc i))) (suc (suc zero)) h = absurd (omega arith)
table_grows (suc (suc (suc i))) (suc (suc (suc j))) h = omega arith

module _ (x y : Float) (h : T (le x y)) where
  -- a boundary that x reaches, y reaches
  reach_grows : (b : Float) → T (above b) → one (le b x) ≤ one (le b y)
  reach_grows b a = one_grows (le b x) (le b y) (λ p. above_trans b x y a p h)

  steps_grow : (s : Float) → is_step s ≡ true → (k : ℕ) → k ≤ uniform_boundaries → steps_reached s x k ≤ steps_reached s y k
  unfolding steps_reached
  steps_grow s ok zero l = omega arith
  steps_grow s ok (suc k) l = omega (arith, steps_grow s ok k (omega arith), reach_grows (boundary s (suc k)) (boundary_above s (suc k) ok (omega arith) l))

  magnitude_grows : (q : Shape) → is_allowed q ≡ true → magnitude q x ≤ magnitude q y
  magnitude_grows (Uniform s) ok = omega (arith, steps_grow s ok uniform_boundaries (omega arith))
  magnitude_grows (Bounded v) ok =
      let p = bounds_above v ok in
      table_grows (bounds_reached v x) (bounds_reached v y) (omega (arith, reach_grows v.a p.0, reach_grows v.b p.1, reach_grows v.c p.2))

size_of_signed : (t : Bool) (n : ℕ) → nat_abs (signed t n) ≡ n
size_of_signed true zero = refl
size_of_signed true (suc n) = refl
size_of_signed false n = refl

pub never_shrinks : NeverShrinks
never_shrinks q x y h =
    let g = magnitude_grows (size_of x) (size_of y) (passes _ h) q.shape q.ok in
    rw (
      size_of_signed (lt x plus_zero) (magnitude q.shape (size_of x)),
      size_of_signed (lt y plus_zero) (magnitude q.shape (size_of y)),
    ) g
