-- A list that rises has as many pairs of a number as the set of its pairs has.
use Rattle.std.proofs.Common.{◌≡◌, ℕ, suc, ◌+◌, ◌*◌, ◌<◌, Bool, true, false, cond, ◌&&◌, ◌||◌, eqb, List, [], ◌∷◌, length, get_or, sym, refl, ap, ◌∙◌, ⊎_elim, arith, eq-eqb, ne_eqb}
use Rattle.std.proofs.lemmas.List.Sums.{sum_by-cons}
use Rattle.std.proofs.lemmas.Bool.{cases_eq}
use Rattle.listed.specs.declared.pair.Pair.{Pair}
use Rattle.codes.specs.declared.side.Side.{Side}
use Rattle.codes.specs.declared.side.Side.TheVariants.{ByCheck, ByBit}
use Rattle.codes.specs.Limits.{stride}
use Rattle.codes.specs.Pairs.{count_below}
use Rattle.listed.specs.Order.{blank, major_of, minor_of, same_pair, has_pair, count_in, code_of}
use Rattle.codes.proofs.Counts.{count_same, count_none, count_one_more}
use Rattle.listed.proofs.Searched.{has_nowhere, same_code}

-- the pair of a number and another, in the order's sense
abbrev pub pair_at : Side → ℕ → ℕ → Pair
pair_at ByCheck c y = record { check = c; bit = y }
pair_at ByBit c y = record { check = y; bit = c }

code_at : (s : Side) (c y : ℕ) → code_of s (pair_at s c y) ≡ c * stride + y
code_at ByCheck c y = refl
code_at ByBit c y = refl

and_comm : (a b : Bool) → (a && b) ≡ (b && a)
and_comm true true = refl
and_comm true false = refl
and_comm false true = refl
and_comm false false = refl

same_at : (s : Side) (x : Pair) (c y : ℕ) → same_pair x (pair_at s c y) ≡ (eqb (major_of s x) c && eqb (minor_of s x) y)
same_at ByCheck x c y = refl
same_at ByBit x c y = and_comm (eqb x.check y) (eqb x.bit c)

-- the first pair of a list that rises does not come again
fresh : (s : Side) (x : Pair) (xs : List Pair) (c : ℕ) → ((i j : ℕ) → i < j → j < length (x ∷ xs) → code_of s (get_or (x ∷ xs) i blank) < code_of s (get_or (x ∷ xs) j blank)) → major_of s x ≡ c → has_pair xs (pair_at s c (minor_of s x)) ≡ false
fresh s x xs c rises same =
    has_nowhere xs (pair_at s c (minor_of s x))
    (λ i h e.
    let a = rises 0 (suc i) (omega arith) (omega arith) in
    let b = same_code s (get_or xs i blank) (pair_at s c (minor_of s x)) e in
    omega (arith, a, b, code_at s c (minor_of s x), ap (λ k. k * stride) same))

pub count_set : (s : Side) (xs : List Pair) (bound c : ℕ) → ((i j : ℕ) → i < j → j < length xs → code_of s (get_or xs i blank) < code_of s (get_or xs j blank)) → ((i : ℕ) → i < length xs → minor_of s (get_or xs i blank) < bound) → count_in s xs c ≡ count_below bound (λ y. has_pair xs (pair_at s c y))
count_set s [] bound c rises small = sym (count_none bound)
count_set s (x ∷ xs) bound c rises small =
    let rest = count_set s xs bound c (λ i j h l. rises (suc i) (suc j) (omega arith) (omega arith)) (λ i h. small (suc i) (omega arith)) in
    let sum = sum_by-cons (λ p. cond (eqb (major_of s p) c) 1 0) x xs in
    ⊎_elim
    (λ (same : major_of s x ≡ c).
    let more =
    count_one_more bound (minor_of s x) (λ y. has_pair xs (pair_at s c y)) (λ y. same_pair x (pair_at s c y) || has_pair xs (pair_at s c y)) (small 0 (omega arith)) (fresh s x xs c rises same)
    (rw (same_at s x c (minor_of s x), eq-eqb (major_of s x) c same, eq-eqb (minor_of s x) (minor_of s x) refl))
    (λ y ne. rw (same_at s x c y, eq-eqb (major_of s x) c same, ne_eqb (minor_of s x) y (λ e. ne (sym e)))) in
    sum ∙ rw (eq-eqb (major_of s x) c same) (omega (arith, rest, more)))
    (λ (other : major_of s x ≡ c → ⊥).
    let less = count_same bound (λ y. same_pair x (pair_at s c y) || has_pair xs (pair_at s c y)) (λ y. has_pair xs (pair_at s c y)) (λ y h. rw (same_at s x c y, ne_eqb (major_of s x) c other)) in
    sum ∙ rw (ne_eqb (major_of s x) c other) (omega (arith, rest, less)))
    (cases_eq (major_of s x) c)
