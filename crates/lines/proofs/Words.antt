-- What follows a word, as a slice's `strip_prefix` finds it.
use Rattle.std.proofs.Common.{◌≡◌, ℕ, true, false, cond, eqb, List, [], ◌∷◌, length, take, drop, Some, None, refl, ⊎_elim}
use Rattle.std.specs.Cmp.Lexicographic.{pointwise}
use Rattle.std.proofs.lemmas.Bool.{cases_Bool}
use Rattle.lines.specs.Rule.{after}

pub stripped : (ws bs : List ℕ) → after ws bs ≡ cond (pointwise eqb (take (length ws) bs) ws) (Some (drop (length ws) bs)) None
stripped [] bs = refl
stripped (w ∷ ws) [] = refl
stripped (w ∷ ws) (b ∷ bs) =
    ⊎_elim
    (λ (e : eqb b w ≡ true). rw e (stripped ws bs))
    (λ (e : eqb b w ≡ false). rw e)
    (cases_Bool (eqb b w))
