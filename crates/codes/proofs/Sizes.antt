-- Lists that are each at a number: their sizes and places, the longest, and the table that they are.
use Rattle.std.proofs.Common.{◌≡◌, ℕ, zero, suc, ◌+◌, ◌<◌, ◌≤◌, ◌⊎◌, inl, inr, max, Bool, List, [], ◌∷◌, length, get_or, take, Some, None, sym, refl, ap, ◌∙◌, ⊎_elim, arith}
use Rattle.std.specs.Prelude.{fold, slice_get}
use Rattle.std.specs.Option.{option_map, option_and_then}
use Rattle.std.proofs.lemmas.Bool.{cases_lt}
use Rattle.std.proofs.lemmas.List.{take_more}
use Rattle.std.proofs.lemmas.List.Sums.{fold-append}
use Rattle.std.proofs.lemmas.Option.{slice_get-get_or, slice_get_past}
use Rattle.codes.specs.Lawful.{Lists, Table}
use Rattle.codes.specs.Lists.{size_in, place_in, longest}
use Rattle.codes.proofs.Absent.{none_some, same_some}

-- the list at a number
abbrev pub list_at : List (List ℕ) → ℕ → List ℕ
list_at lists i = get_or lists i []

pub size_in_lem : (lists : List (List ℕ)) (i : ℕ) → i < length lists → size_in lists i ≡ Some (length (list_at lists i))
size_in_lem lists i h = ap (option_map length) (slice_get-get_or lists i [] h)

pub size_out : (lists : List (List ℕ)) (i : ℕ) → length lists ≤ i → size_in lists i ≡ None
size_out lists i h = ap (option_map length) (slice_get_past lists i h)

pub size_read : (lists : List (List ℕ)) (i n : ℕ) → size_in lists i ≡ Some n → (i < length lists) × (n ≡ length (list_at lists i))
size_read lists i n e =
    ⊎_elim
    (λ (h : i < length lists). (h, same_some n (length (list_at lists i)) (sym e ∙ size_in_lem lists i h)))
    (λ (h : length lists ≤ i). none_some n (sym (size_out lists i h) ∙ e))
    (cases_lt i (length lists))

pub place_in_lem : (lists : List (List ℕ)) (i p : ℕ) → i < length lists → place_in lists i p ≡ slice_get (list_at lists i) p
place_in_lem lists i p h = ap (option_and_then (λ l. slice_get l p)) (slice_get-get_or lists i [] h)

pub place_out : (lists : List (List ℕ)) (i p : ℕ) → length lists ≤ i → place_in lists i p ≡ None
place_out lists i p h = ap (option_and_then (λ l. slice_get l p)) (slice_get_past lists i h)

-- ---- the longest list
abbrev longest_from : ℕ → List (List ℕ) → ℕ
longest_from n lists = fold (λ most l. max most (length l)) n lists

from_least : (n : ℕ) (lists : List (List ℕ)) → n ≤ longest_from n lists
from_least n [] = omega arith
from_least n (l ∷ lists) = let h = from_least (max n (length l)) lists in omega arith

from_most : (n : ℕ) (lists : List (List ℕ)) (i : ℕ) → i < length lists → length (list_at lists i) ≤ longest_from n lists
from_most n [] i h = absurd (omega arith)
from_most n (l ∷ lists) zero h = let k = from_least (max n (length l)) lists in omega arith
from_most n (l ∷ lists) (suc i) h = from_most (max n (length l)) lists i (omega arith)

-- one list more
pub longest_more : (lists : List (List ℕ)) (i n : ℕ) → size_in lists i ≡ Some n → longest (take (i + 1) lists) ≡ max (longest (take i lists)) n
longest_more lists i n e =
    let r = size_read lists i n e in
    ap longest (take_more lists i [] r.0) ∙ fold-append (λ (most : ℕ) (l : List ℕ). max most (length l)) 0 (take i lists) (list_at lists i ∷ []) ∙ ap (max (longest (take i lists))) (sym r.1)

-- some list is as long, or none is longer than n
from_met : (n : ℕ) (lists : List (List ℕ)) → (longest_from n lists ≡ n) ⊎ ((i : ℕ) × (i < length lists) × (length (list_at lists i) ≡ longest_from n lists))
from_met n [] = inl refl
from_met n (l ∷ lists) =
    ⊎_elim
    (λ (none : longest_from (max n (length l)) lists ≡ max n (length l)).
    ⊎_elim
    (λ (h : n < length l). inr (0, omega arith, omega arith))
    (λ (h : length l ≤ n). inl (omega arith))
    (cases_lt n (length l)))
    (λ (one : (i : ℕ) × (i < length lists) × (length (list_at lists i) ≡ longest_from (max n (length l)) lists)). inr (suc one.0, omega (arith, one.1), one.2))
    (from_met (max n (length l)) lists)

pub widest_most_lem : (lists : List (List ℕ)) (i n : ℕ) → size_in lists i ≡ Some n → n ≤ longest lists
widest_most_lem lists i n e = let r = size_read lists i n e in omega (arith, r.1, from_most 0 lists i r.0)

pub widest_met_lem : (lists : List (List ℕ)) → 1 ≤ length lists → (i : ℕ) × (size_in lists i ≡ Some (longest lists))
widest_met_lem lists h =
    ⊎_elim
    (λ (none : longest lists ≡ 0). let f = from_most 0 lists 0 h in (0, size_in_lem lists 0 h ∙ ap Some (omega arith)))
    (λ (one : (i : ℕ) × (i < length lists) × (length (list_at lists i) ≡ longest lists)). (one.0, size_in_lem lists one.0 one.1 ∙ ap Some one.2))
    (from_met 0 lists)

-- ---- the table of the lists, where each is as it should be
pub table_of : (lists : List (List ℕ)) (count bound least top : ℕ) (has : ℕ → ℕ → Bool) → length lists ≡ count → ((i : ℕ) → i < count → Lists (Some (length (list_at lists i))) (slice_get (list_at lists i)) bound (has i) least top) → Table (size_in lists) (place_in lists) count bound has least top
table_of lists count bound least top has many each = record {
  lists = λ i h.
      let l = each i h in
      let k : i < length lists = omega arith in
      record {
        count = l.count;
        sized = size_in_lem lists i k ∙ l.sized;
        enough = l.enough;
        few = l.few;
        inside = λ p m. let r = l.inside p m in (r.0, place_in_lem lists i p k ∙ r.1, r.2, r.3);
        past = λ p m. place_in_lem lists i p k ∙ l.past p m;
        rises = λ p q x y m e f. l.rises p q x y m (sym (place_in_lem lists i p k) ∙ e) (sym (place_in_lem lists i q k) ∙ f);
        all = λ x m e. let r = l.all x m e in (r.0, r.1, place_in_lem lists i r.0 k ∙ r.2);
      };
  no_size = λ i h. size_out lists i (omega arith);
  no_place = λ i p h. place_out lists i p (omega arith);
}
