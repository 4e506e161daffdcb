-- Floats above zero, the infinity among them: their order, and that every boundary is one.
use Rattle.std.proofs.Common.{◌≡◌, ◌*◌, Bool, true, false, cond, ◌&&◌, ◌||◌, T, Some, None, ◌⊎◌, sym, refl, subst, inl, inr, arith, ltb→lt, lt→ltb}
use lib.Ieee.{Float, nan, inf, fin, up, down, lt, eq, le, of_bits}
use lib.Ieee.Positive.{positive, above, above_of_le, first_pos, cross→le, le_trans_positive}
use Rattle.std.specs.declared.cmp.Ordering.TheVariants.{Less, Equal, Greater}
use Rattle.std.specs.Ordering.{is_some_and, is_le, partial_le, float_partial_cmp}
use Rattle.std.proofs.lemmas.Bool.{and_parts}
use Rattle.quantiser.specs.declared.shape.Boundaries.{Boundaries}
use Rattle.quantiser.specs.Limits.{plus_zero, most_boundary}
use Rattle.quantiser.specs.Shapes.{is_rising}

-- a test's answer as a fact, and back
pub passes : (b : Bool) → b ≡ true → T b
passes b e = subst T (sym e) tt

pub true_of : (b : Bool) → T b → b ≡ true
true_of true p = refl
true_of false p = absurd p

-- ---- the library's order of floats, as the comparison that it is
compared : (a e b : Bool) → is_some_and is_le (cond a (Some Less) (cond e (Some Equal) (cond b (Some Greater) None))) ≡ (a || e)
compared true e b = refl
compared false true b = refl
compared false false true = refl
compared false false false = refl

pub le_compared : (x y : Float) → partial_le float_partial_cmp x y ≡ le x y
unfolding le
le_compared x y = compared (lt x y) (eq x y) (lt y x)

-- ---- what is above zero is finite, or the infinity
finite_or_not : (x : Float) → T (above x) → T (positive x) ⊎ (x ≡ inf false)
finite_or_not nan a = absurd a
finite_or_not (inf true) a = absurd a
finite_or_not (inf false) a = inr refl
finite_or_not (fin true m e) a = absurd a
finite_or_not (fin false m e) a = inl a

le_infinity : (x : Float) → T (above x) → T (le x (inf false))
unfolding le lt eq
le_infinity nan a = absurd a
le_infinity (inf true) a = absurd a
le_infinity (inf false) a = tt
le_infinity (fin true m e) a = absurd a
le_infinity (fin false m e) a = tt

infinity_le : (y : Float) → T (le (inf false) y) → y ≡ inf false
unfolding le lt eq
infinity_le nan h = absurd h
infinity_le (inf true) h = absurd h
infinity_le (inf false) h = refl
infinity_le (fin s m e) h = absurd h

-- ---- so the order goes on from it
pub above_le : (x y : Float) → T (above x) → T (le x y) → T (above y)
above_le x y a h =
    elim (finite_or_not x a) [
      | inl p ↦ above_of_le x y p h
      | inr e ↦ subst (λ (z : Float). T (above z)) (sym (infinity_le y (subst (λ (z : Float). T (le z y)) e h))) tt
    ]

finite_below : (x y : Float) → T (above x) → T (le x y) → T (positive y) → T (positive x)
finite_below x y a h p =
    elim (finite_or_not x a) [
      | inl q ↦ q
      | inr e ↦ absurd (subst (λ (z : Float). T (positive z)) (infinity_le y (subst (λ (z : Float). T (le z y)) e h)) p)
    ]

pub above_trans : (x y z : Float) → T (above x) → T (le x y) → T (le y z) → T (le x z)
above_trans x y z a h k =
    let b = above_le x y a h in
    elim (finite_or_not z (above_le y z b k)) [
      | inl r ↦ let q = finite_below y z b k r in le_trans_positive x y z (finite_below x y a h q) q r h k
      | inr e ↦ subst (λ (w : Float). T (le x w)) (sym e) (le_infinity x a)
    ]

pub positive_le : (x : Float) → T (positive x) → T (le x x)
positive_le x p = cross→le x x p p (omega arith)

-- ---- three boundaries
or_left : (a b : Bool) → T a → T (a || b)
or_left true b t = tt
or_left false b t = absurd t

le_of_lt : (x y : Float) → T (lt x y) → T (le x y)
unfolding le
le_of_lt x y h = or_left (lt x y) (eq x y) h

above_zero : (x : Float) → T (lt plus_zero x) → T (above x)
unfolding lt of_bits
above_zero nan h = absurd h
above_zero (inf true) h = absurd h
above_zero (inf false) h = tt
above_zero (fin true n d) h = absurd h
above_zero (fin false n d) h = lt→ltb 0 n (first_pos n (up d) (omega (arith, ltb→lt (0 * 1 * down d) (n * up d * 1) h)))

pub bounds_above : (v : Boundaries) → is_rising v ≡ true → T (above v.a) × T (above v.b) × T (above v.c)
bounds_above v ok =
    let p = and_parts (lt plus_zero v.a) (lt v.a v.b && (lt v.b v.c && le v.c most_boundary)) ok in
    let q = and_parts (lt v.a v.b) (lt v.b v.c && le v.c most_boundary) p.1 in
    let r = and_parts (lt v.b v.c) (le v.c most_boundary) q.1 in
    let a = above_zero v.a (passes _ p.0) in
    let b = above_le v.a v.b a (le_of_lt v.a v.b (passes _ q.0)) in
    (a, b, above_le v.b v.c b (le_of_lt v.b v.c (passes _ r.0)))
