-- Signs: the level of -x is that of x, negated; each level is odd, from -31 to 31.
use Rattle.std.proofs.Common.{◌≡◌, ℕ, zero, suc, ◌+◌, ◌*◌, ◌%◌, ◌≤◌, Bool, true, false, not, ◌&&◌, ◌||◌, eqb, ltb, pos, neg_ℤ, nat_abs, ◌≤ℤ◌, refl, ap, ◌∙◌, true≢false, arith}
use lib.Ieee.{Float, nan, inf, fin, up, down, neg, lt, eq, is_nan, of_bits}
use Rattle.std.specs.Float.{float_with_sign}
use Rattle.std.proofs.lemmas.Bool.Decides.{nat_tests}
use Rattle.std.proofs.lemmas.Int.{ints}
use Rattle.quantiser.specs.declared.shape.Shape.{Shape}
use Rattle.quantiser.specs.declared.shape.Shape.TheVariants.{Uniform, Bounded}
use Rattle.quantiser.specs.Laws.{Mirrored, OddAndSmall}
use Rattle.quantiser.specs.Levels.{size_of, signed, magnitude, bounds_reached, by_bounds}
use Rattle.quantiser.specs.Limits.{plus_zero, uniform_boundaries, most_level}
use Rattle.quantiser.proofs.Counts.{reached_le}

-- ---- negation
same_size : (x : Float) → size_of (neg x) ≡ size_of x
unfolding float_with_sign neg
same_size nan = refl
same_size (inf s) = refl
same_size (fin s m e) = refl

from_negative : (a b : ℕ) → b ≡ 0 → (eqb a b && (false || eqb a 0)) ≡ false → ltb a b ≡ not (ltb 0 (a + b))
from_negative a b z h = grind (arith, nat_tests)

from_positive : (a b : ℕ) → b ≡ 0 → (eqb a b && (true || eqb a 0)) ≡ false → ltb 0 (a + b) ≡ not (ltb a b)
from_positive a b z h = grind (arith, nat_tests)

other_side : (x : Float) → is_nan x ≡ false → eq x plus_zero ≡ false → lt (neg x) plus_zero ≡ not (lt x plus_zero)
unfolding is_nan eq lt neg of_bits
other_side nan p q = absurd (true≢false p)
other_side (inf true) p q = refl
other_side (inf false) p q = refl
other_side (fin true m e) p q = from_negative (m * up e * 1) (0 * 1 * down e) (omega arith) q
other_side (fin false m e) p q = from_positive (m * up e * 1) (0 * 1 * down e) (omega arith) q

turned : (t : Bool) (n : ℕ) → signed (not t) n ≡ neg_ℤ (signed t n)
turned true zero = refl
turned true (suc n) = refl
turned false n = refl

pub mirrored : Mirrored
mirrored q x p z =
    ap (λ (y : Float). signed (lt (neg x) plus_zero) (magnitude q.shape y)) (same_size x)
    ∙ ap (λ (t : Bool). signed t (magnitude q.shape (size_of x))) (other_side x p z)
    ∙ turned (lt x plus_zero) (magnitude q.shape (size_of x))

-- ---- odd and small
odd_table : (j : ℕ) → (by_bounds j % 2 ≡ 1) × (by_bounds j ≤ most_level)
odd_table zero = (refl, omega arith)
odd_table (suc zero) = (refl, omega arith)
odd_table (suc (suc zero)) = (refl, omega arith)
odd_table (suc (suc (suc j))) = (refl, omega arith)

odd_magnitude : (q : Shape) (x : Float) → (magnitude q x % 2 ≡ 1) × (magnitude q x ≤ most_level)
odd_magnitude (Uniform s) x = let h = reached_le s x uniform_boundaries in (omega arith, omega arith)
odd_magnitude (Bounded v) x = odd_table (bounds_reached v x)

either_sign : (t : Bool) (n : ℕ) → n % 2 ≡ 1 → n ≤ most_level → (nat_abs (signed t n) % 2 ≡ 1) × (neg_ℤ (pos most_level) ≤ℤ signed t n) × (signed t n ≤ℤ pos most_level)
either_sign true zero h k = absurd (omega arith)
either_sign true (suc n) h k = (h, omega (arith, ints), omega (arith, ints))
either_sign false n h k = (h, omega (arith, ints), omega (arith, ints))

pub odd_and_small : OddAndSmall
odd_and_small q x =
    let h = odd_magnitude q.shape (size_of x) in
    either_sign (lt x plus_zero) (magnitude q.shape (size_of x)) h.0 h.1
