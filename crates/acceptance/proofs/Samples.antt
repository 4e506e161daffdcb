-- Samples and their image, sample by sample.
use Rattle.std.proofs.Common.{◌≡◌, ℕ, ◌+◌, ◌<◌, Bool, false, cond, List, [], ◌∷◌, ◌++◌, length, get_or, sym, ap, ◌∙◌, ⊎_elim, arith}
use lib.Ieee.{Float, nan, neg, eq}
use Rattle.std.specs.List.{enumerate_from}
use Rattle.std.proofs.lemmas.List.FromFn.{length-enumerate_from, get_or-enumerate_from}
use Rattle.std.proofs.lemmas.List.{length-map, get_or-map, length_push, get_or_push, get_or_append_left}
use Rattle.std.proofs.lemmas.Bool.{cases_eq}
use Rattle.quantiser.specs.Limits.{plus_zero}
use Rattle.decoder.specs.Images.{Negated}
use Rattle.acceptance.specs.Frames.{is_one, NonZero, image_of}

-- one more that is not zero
pub nonzero_push : (xs : List Float) (x : Float) → NonZero xs → eq x plus_zero ≡ false → NonZero (xs ++ x ∷ [])
nonzero_push xs x before here k l =
    let n = length_push xs x in
    ⊎_elim
    (λ (same : k ≡ length xs). rw (get_or_push xs x nan k (sym same)) here)
    (λ (other : k ≡ length xs → ⊥). let m : k < length xs = omega arith in rw (get_or_append_left xs (x ∷ []) nan k m) (before k m))
    (cases_eq k (length xs))

-- the image of samples that are not zero
pub negated_by_image : (xs ys : List Float) → NonZero xs → ys ≡ image_of xs → Negated is_one xs ys
negated_by_image xs ys nonzero e =
    let turned : Bool → Float → Float = λ one x. cond one (neg x) x in
    let at : (k : ℕ) → k < length xs → get_or ys k nan ≡ turned (is_one k) (get_or xs k nan) = λ k l.
    let m : k < length (enumerate_from 0 xs) = omega (arith, length-enumerate_from 0 xs) in
    let z : 0 + k ≡ k = omega arith in
    ap (λ zs. get_or zs k nan) e ∙ get_or-map (λ p. turned (is_one p.0) p.1) (enumerate_from 0 xs) k (0, nan) nan m ∙ ap (λ p. turned (is_one p.0) p.1) (get_or-enumerate_from 0 xs k (0, nan) l) ∙ ap (λ n. turned (is_one n) (get_or xs k nan)) z in
    record {
      count = ap length e ∙ length-map (enumerate_from 0 xs) (λ p. turned (is_one p.0) p.1) ∙ length-enumerate_from 0 xs;
      ones = λ k l o. (at k l ∙ ap (λ b. turned b (get_or xs k nan)) o, nonzero k l);
      zeros = λ k l o. at k l ∙ ap (λ b. turned b (get_or xs k nan)) o;
    }

pub negated_at : (xs ys us vs : List Float) → xs ≡ us → ys ≡ vs → Negated is_one us vs → Negated is_one xs ys
negated_at xs ys us vs ex ey h = rw (ex, ey) h
