-- Where a line ends.
use Rattle.std.proofs.Common.{◌≡◌, ℕ, zero, suc, ◌+◌, ◌<◌, ◌≤◌, true, false, eqb, not, ◌⊎◌, List, [], ◌∷◌, ◌++◌, length, take, drop, sym, refl, ap, ◌∙◌, subst, inl, inr, ⊎_elim, Some, None, position, add-one, arith}
use Rattle.std.specs.List.{All, position_or_len}
use Rattle.std.proofs.lemmas.List.Sums.{prefix_len-le-length}
use Rattle.std.proofs.lemmas.Bool.{eqb-true, cases_Bool}
use Rattle.std.proofs.lemmas.Grind.{common_steps}
use Rattle.std.proofs.lemmas.List.Elements.{All-nil, All-cons, All-head, All-tail, All-weaker}
use Rattle.lines.specs.Lines.{feed, Placed, onto, lines_from, joined, JoinedAgain, LinesInside}

-- the line of these bytes, which begins there
abbrev place : ℕ → List ℕ → Placed
place at bs = record { at = at; bytes = bs }

-- how many bytes stand before the first line feed
abbrev before_feed : List ℕ → ℕ
before_feed bs = position_or_len (λ b. eqb b feed) bs

-- the first line, which a line feed ends, and the lines after it
ended : (at n : ℕ) (bs : List ℕ) → before_feed bs ≡ n → n < length bs → lines_from at bs ≡ place at (take n bs) ∷ lines_from (at + suc n) (drop (suc n) bs)
ended at n [] e h = absurd (omega arith)
ended at zero (b ∷ bs) e h =
    ⊎_elim
    (λ (f : eqb b feed ≡ true). rw f)
    (λ (f : eqb b feed ≡ false). absurd (omega (arith, rw f at e)))
    (cases_Bool (eqb b feed))
ended at (suc n) (b ∷ bs) e h =
    ⊎_elim
    (λ (f : eqb b feed ≡ true). absurd (omega (arith, rw f at e)))
    (λ (f : eqb b feed ≡ false).
    let rest = ended (at + 1) n bs (omega (arith, rw f at e)) (omega arith) in
    rw f (ap (onto at b) rest ∙ ap (λ k. place at (b ∷ take n bs) ∷ lines_from k (drop (suc n) bs)) (omega arith)))
    (cases_Bool (eqb b feed))

-- a line that no line feed ends
onto_rest : (at b : ℕ) (bs : List ℕ) → (0 < length bs → lines_from (at + 1) bs ≡ place (at + 1) bs ∷ []) → onto at b (lines_from (at + 1) bs) ≡ place at (b ∷ bs) ∷ []
onto_rest at b [] h = refl
onto_rest at b (c ∷ cs) h = ap (onto at b) (h (omega arith))

unended : (at : ℕ) (bs : List ℕ) → before_feed bs ≡ length bs → 0 < length bs → lines_from at bs ≡ place at bs ∷ []
unended at [] e h = absurd (omega arith)
unended at (b ∷ bs) e h =
    ⊎_elim
    (λ (f : eqb b feed ≡ true). absurd (omega (arith, rw f at e)))
    (λ (f : eqb b feed ≡ false). rw f (onto_rest at b bs (unended (at + 1) bs (omega (arith, rw f at e)))))
    (cases_Bool (eqb b feed))

-- by where the first line feed stands
pub cut_at : (at n next : ℕ) (bs rest : List ℕ) → Some n ≡ position (λ b. eqb b feed) bs → next ≡ at + (n + 1) → rest ≡ drop (n + 1) bs → lines_from at bs ≡ place at (take n bs) ∷ lines_from next rest
cut_at at n next bs rest e p r =
    let n_is : before_feed bs ≡ n = grind (arith, common_steps) in
    let within : n < length bs = grind (arith, common_steps) in
    let past : at + suc n ≡ next = omega arith in
    let later : rest ≡ drop (suc n) bs = rw add-one at r in
    ended at n bs n_is within ∙ rw (past, ← later)

pub cut_nowhere : (at next : ℕ) (bs rest : List ℕ) → None ≡ position (λ b. eqb b feed) bs → 0 < length bs → rest ≡ drop (length bs) bs → lines_from at bs ≡ place at bs ∷ lines_from next rest
cut_nowhere at next bs rest e h r =
    let none : before_feed bs ≡ length bs = grind (arith, common_steps, prefix_len-le-length (λ b. not (eqb b feed)) bs) in
    let nil : rest ≡ [] = grind (arith, common_steps) in
    unended at bs none h ∙ rw nil

-- ---- the lines joined again
either_joined : (b : ℕ) (xs ys : List ℕ) → (xs ≡ ys) ⊎ (xs ≡ ys ++ (feed ∷ [])) → (◌≡◌ {A = List ℕ} (b ∷ xs) (b ∷ ys)) ⊎ (◌≡◌ {A = List ℕ} (b ∷ xs) (b ∷ (ys ++ (feed ∷ []))))
either_joined b xs ys (inl e) = inl (ap (λ l. b ∷ l) e)
either_joined b xs ys (inr e) = inr (ap (λ l. b ∷ l) e)

onto_joined : (at b : ℕ) (ls : List Placed) (bs : List ℕ) → (joined ls ≡ bs) ⊎ (joined ls ≡ bs ++ (feed ∷ [])) → ((ls ≡ []) → bs ≡ []) → (joined (onto at b ls) ≡ b ∷ bs) ⊎ (joined (onto at b ls) ≡ b ∷ (bs ++ (feed ∷ [])))
onto_joined at b [] bs h none = inr (ap (λ l. b ∷ (l ++ (feed ∷ []))) (sym (none refl)))
onto_joined at b (l ∷ ls) bs h none = either_joined b (l.bytes ++ (feed ∷ joined ls)) bs h

onto_some : (at b : ℕ) (ls : List Placed) → onto at b ls ≡ [] → ⊥
onto_some at b [] e = cc
onto_some at b (l ∷ ls) e = cc

some_lines : (at : ℕ) (bs : List ℕ) → lines_from at bs ≡ [] → bs ≡ []
some_lines at [] e = refl
some_lines at (b ∷ bs) e =
    ⊎_elim
    (λ (f : eqb b feed ≡ true). let z = rw f at e in cc)
    (λ (f : eqb b feed ≡ false). absurd (onto_some at b (lines_from (at + 1) bs) (rw f at e)))
    (cases_Bool (eqb b feed))

pub joined_again : JoinedAgain
joined_again at [] = inl refl
joined_again at (b ∷ bs) =
    let ih = joined_again (at + 1) bs in
    ⊎_elim
    (λ (e : eqb b feed ≡ true). rw e (subst (λ d. (◌≡◌ {A = List ℕ} (feed ∷ joined (lines_from (at + 1) bs)) (d ∷ bs)) ⊎ (◌≡◌ {A = List ℕ} (feed ∷ joined (lines_from (at + 1) bs)) (d ∷ (bs ++ (feed ∷ []))))) (sym (eqb-true b feed e)) (either_joined feed (joined (lines_from (at + 1) bs)) bs ih)))
    (λ (e : eqb b feed ≡ false). rw e (onto_joined at b (lines_from (at + 1) bs) bs ih (some_lines (at + 1) bs)))
    (cases_Bool (eqb b feed))

-- ---- where the lines lie
abbrev Between : ℕ → ℕ → Placed → Type 0
Between from to l = (from ≤ l.at) × (l.at + length l.bytes ≤ to)

-- what lies between two places lies between wider ones
from_before : (at to : ℕ) (ls : List Placed) → All (Between (at + 1) to) ls → All (Between at to) ls
from_before at to = All-weaker (Between (at + 1) to) (Between at to) (λ l h. (omega (arith, h.0), h.1))

onto_inside : (at b to : ℕ) (ls : List Placed) → at + 1 ≤ to → All (Between (at + 1) to) ls → All (Between at to) (onto at b ls)
onto_inside at b to [] room h = All-cons (Between at to) (place at (b ∷ [])) [] (omega arith, room) (All-nil (Between at to))
onto_inside at b to (l ∷ ls) room h =
    let first : Between (at + 1) to l = All-head (Between (at + 1) to) l ls h in
    let later : All (Between at to) ls = from_before at to ls (All-tail (Between (at + 1) to) l ls h) in
    All-cons (Between at to) (place at (b ∷ l.bytes)) ls (omega arith, omega (arith, first.0, first.1)) later

pub lines_inside : LinesInside
lines_inside at [] = All-nil (Between at (at + 0))
lines_inside at (b ∷ bs) =
    let to : ℕ = at + suc (length bs) in
    let same : at + 1 + length bs ≡ to = omega arith in
    let ih : All (Between (at + 1) to) (lines_from (at + 1) bs) = rw same at (lines_inside (at + 1) bs) in
    ⊎_elim
    (λ (e : eqb b feed ≡ true). rw e (All-cons (Between at to) (place at []) (lines_from (at + 1) bs) (omega arith, omega arith) (from_before at to (lines_from (at + 1) bs) ih)))
    (λ (e : eqb b feed ≡ false). rw e (onto_inside at b to (lines_from (at + 1) bs) (omega arith) ih))
    (cases_Bool (eqb b feed))
