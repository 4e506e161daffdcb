-- Either zero has the level 1.
use Rattle.std.proofs.Common.{◌≡◌, ℕ, zero, suc, ◌+◌, ◌*◌, ◌≤◌, Bool, true, false, T, eqb, pos, sym, refl, ap, ◌∙◌, inl, inr, true≢false, mul-pos, arith, ltb→lt}
use lib.Ieee.{Float, nan, inf, fin, up, down, lt, le, eq, of_bits}
use lib.Ieee.Fits.{up_pos}
use lib.Ieee.Positive.{above}
use Rattle.std.specs.Float.{float_with_sign}
use Rattle.std.proofs.lemmas.Bool.{and_parts, cases_Bool, eqb-true, le-ltb}
use Rattle.quantiser.specs.declared.shape.Shape.{Shape}
use Rattle.quantiser.specs.declared.shape.Shape.TheVariants.{Uniform, Bounded}
use Rattle.quantiser.specs.Laws.{ZeroIsOne}
use Rattle.quantiser.specs.Levels.{size_of, signed, boundary, steps_reached, one, magnitude}
use Rattle.quantiser.specs.Limits.{plus_zero, uniform_boundaries}
use Rattle.quantiser.specs.Shapes.{is_step, is_allowed}
use Rattle.quantiser.proofs.Above.{passes, above_le, bounds_above}
use Rattle.quantiser.proofs.Steps.{boundary_above}

not_above : (x : Float) → eq x plus_zero ≡ true → T (above (size_of x)) → ⊥
unfolding eq of_bits float_with_sign
not_above nan h t = true≢false (sym h)
not_above (inf s) h t = true≢false (sym h)
not_above (fin s m e) h t =
    let z : m * up e * 1 ≡ 0 * 1 * down e = eqb-true _ _ (and_parts _ _ h).0 in
    let l = mul-pos (ltb→lt 0 m t) (up_pos e) in
    omega (arith, l)

not_below : (x : Float) → eq x plus_zero ≡ true → lt x plus_zero ≡ false
unfolding eq lt of_bits
not_below nan h = refl
not_below (inf s) h = absurd (true≢false (sym h))
not_below (fin true m e) h =
    let z : m * up e * 1 ≡ 0 * 1 * down e = eqb-true (m * up e * 1) (0 * 1 * down e) (and_parts (eqb (m * up e * 1) (0 * 1 * down e)) _ h).0 in
    le-ltb 0 (m * up e * 1 + 0 * 1 * down e) (omega arith)
not_below (fin false m e) h =
    let z : m * up e * 1 ≡ 0 * 1 * down e = eqb-true (m * up e * 1) (0 * 1 * down e) (and_parts (eqb (m * up e * 1) (0 * 1 * down e)) _ h).0 in
    le-ltb (m * up e * 1) (0 * 1 * down e) (omega arith)

module _ (x : Float) (z : eq x plus_zero ≡ true) where
  -- a zero reaches no boundary above zero
  unreached : (b : Float) → T (above b) → le b (size_of x) ≡ false
  unreached b h =
      elim (cases_Bool (le b (size_of x))) [
        | inl t ↦ absurd (not_above x z (above_le b (size_of x) h (passes _ t)))
        | inr f ↦ f
      ]

  none : (s : Float) → is_step s ≡ true → (k : ℕ) → k ≤ uniform_boundaries → steps_reached s (size_of x) k ≡ 0
  unfolding steps_reached
  none s h zero b = refl
  none s h (suc k) b =
      let i : steps_reached s (size_of x) k ≡ 0 = none s h k (omega arith) in
      let e : one (le (boundary s (suc k)) (size_of x)) ≡ 0 = ap one (unreached (boundary s (suc k)) (boundary_above s (suc k) h (omega arith) b)) in
      omega arith

  least : (q : Shape) → is_allowed q ≡ true → magnitude q (size_of x) ≡ 1
  least (Uniform s) h = let e = none s h uniform_boundaries (omega arith) in omega arith
  least (Bounded v) h =
      let p = bounds_above v h in
      let ea = unreached v.a p.0 in
      let eb = unreached v.b p.1 in
      let ec = unreached v.c p.2 in
      simp (ea, eb, ec)

pub zero_is_one : ZeroIsOne
zero_is_one q x z = ap (λ (t : Bool). signed t (magnitude q.shape (size_of x))) (not_below x z) ∙ ap pos (least x z q.shape q.ok)
