-- The count of boundaries that are reached, one more at a time; its bound.
use Rattle.std.proofs.Common.{◌≡◌, ℕ, zero, suc, ◌+◌, ◌≤◌, Bool, true, false, [], ◌∷◌, count_by, sym, refl, ap, ◌∙◌, subst, add-one, arith}
use lib.Ieee.{Float, le}
use Rattle.std.specs.Int.{from_bool}
use Rattle.std.specs.List.{range_with_len}
use Rattle.std.proofs.lemmas.List.Sums.{sum_by-append}
use Rattle.faults.proofs.Firsts.{range_more}
use Rattle.quantiser.specs.declared.shape.Boundaries.{Boundaries}
use Rattle.quantiser.specs.Levels.{boundary, steps_reached, bounds_reached, one}

pub reached_none : (s x : Float) → 0 ≡ steps_reached s x 0
unfolding steps_reached
reached_none s x = refl

pub reached_more : (s x : Float) (k : ℕ) (t : Bool) → t ≡ le (boundary s (k + 1)) x → steps_reached s x (k + 1) ≡ steps_reached s x k + one t
unfolding steps_reached
reached_more s x k t e =
    let f : le (boundary s (suc k)) x ≡ t = subst (λ n. le (boundary s n) x ≡ t) (add-one k) (sym e) in
    ap (steps_reached s x) (add-one k) ∙ ap (λ b. steps_reached s x k + one b) f

pub one_le : (t : Bool) → one t ≤ 1
one_le true = omega arith
one_le false = omega arith

pub reached_le : (s x : Float) (k : ℕ) → steps_reached s x k ≤ k
unfolding steps_reached
reached_le s x zero = omega arith
reached_le s x (suc k) = omega (arith, reached_le s x k, one_le (le (boundary s (suc k)) x))

-- one more boundary, counted by its test
pub reached_next : (s x : Float) (k reached one_more : ℕ) (t : Bool) → (reached ≡ steps_reached s x k) × (reached ≤ k) → t ≡ le (boundary s (k + 1)) x → one_more ≡ from_bool t → (reached + one_more ≡ steps_reached s x (k + 1)) × (reached + one_more ≤ k + 1)
reached_next s x k reached one_more true h e f =
    let more = reached_more s x k true e in
    let one : one_more ≡ 1 = f in
    (omega (arith, h.0, more), omega (arith, h.1))
reached_next s x k reached one_more false h e f =
    let more = reached_more s x k false e in
    let none : one_more ≡ 0 = f in
    (omega (arith, h.0, more), omega (arith, h.1))

-- ---- the same as counts in lists
-- of the boundaries 1 to n
pub steps_counted : (s x : Float) (n : ℕ) → count_by (λ k. le (boundary s k) x) (range_with_len 1 n) ≡ steps_reached s x n
unfolding steps_reached
steps_counted s x zero = refl
steps_counted s x (suc n) =
    let e : 1 + n ≡ suc n = omega arith in
    let z : (b : ℕ) → 0 + b ≡ b = λ b. omega arith in
    rw (range_more 1 n, sum_by-append (λ k. one (le (boundary s k) x)) (range_with_len 1 n) ((1 + n) ∷ [])) (rw (steps_counted s x n, e) (ap (λ b. steps_reached s x n + b) (z (one (le (boundary s (suc n)) x)))))

-- of three boundaries
pub bounds_counted : (v : Boundaries) (x : Float) → count_by (λ b. le b x) (v.a ∷ v.b ∷ v.c ∷ []) ≡ bounds_reached v x
bounds_counted v x = omega arith
