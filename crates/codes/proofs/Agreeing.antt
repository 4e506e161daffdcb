-- Both kinds of lists are lists of one set.
use Rattle.std.proofs.Common.{◌≡◌, ℕ, ◌<◌, ◌≤◌, Bool, true, Some, Option, sym, ◌∙◌, ⊎_elim}
use Rattle.std.proofs.lemmas.Bool.{cases_lt}
use Rattle.codes.specs.Agree.{ListsAgree}
use Rattle.codes.specs.Lawful.{Table}
use Rattle.codes.proofs.Absent.{none_some}
use Rattle.codes.proofs.Images.{entry_of}

-- what an entry of a table says, and that what is in the set is an entry
entry_in : {size : ℕ → Option ℕ} {place : ℕ → ℕ → Option ℕ} {count bound : ℕ} {has : ℕ → ℕ → Bool} {least most : ℕ} (t : Table size place count bound has least most) (i p x : ℕ) → place i p ≡ Some x → (i < count) × (x < bound) × (has i x ≡ true)
entry_in {count = count} t i p x e =
    ⊎_elim
    (λ (h : i < count). let r = entry_of (t.lists i h) p x e in (h, r.1, r.2))
    (λ (h : count ≤ i). none_some x (sym (t.no_place i p h) ∙ e))
    (cases_lt i count)

entry_for : {size : ℕ → Option ℕ} {place : ℕ → ℕ → Option ℕ} {count bound : ℕ} {has : ℕ → ℕ → Bool} {least most : ℕ} (t : Table size place count bound has least most) (i x : ℕ) → i < count → x < bound → has i x ≡ true → (p : ℕ) × (place i p ≡ Some x)
entry_for t i x h l e = let r = (t.lists i h).all x l e in (r.0, r.2)

pub lists_agree : ListsAgree
lists_agree a p law c b = (
  λ r. let e = entry_in law.rows c r.0 b r.1 in entry_for law.columns b c e.1 e.0 e.2,
  λ r. let e = entry_in law.columns b r.0 c r.1 in entry_for law.rows c b e.1 e.0 e.2,
)
