-- What a flip rule means, over a type of states, and when two rules are alike. Assumes nothing.
use Rattle.std.specs.Prelude.{◌≡◌, Bool, List, [], ◌∷◌, ℤ}

-- the state at an opening; whether a bit flips, by state, perturbed score and lowest mark; and the next state, by the objectives before and after a round
pub record RuleMeaning (S : Type 0) : Type 0 where
  pub first : S
  pub says : S → ℤ → Bool → Bool
  pub next : S → ℤ → ℤ → S

-- the objectives before and after a round
pub record Telling : Type 0 where
  pub before : ℤ
  pub after : ℤ

-- the state that a list of tellings leads to
abbrev pub told : {S : Type 0} → RuleMeaning S → S → List Telling → S
told m s [] = s
told m s (t ∷ ts) = told m (m.next s t.before t.after) ts

-- after every list of tellings since an opening, both say the same
pub record Alike {S T : Type 0} (m : RuleMeaning S) (n : RuleMeaning T) : Type 0 where
  pub agree : (ts : List Telling) (score : ℤ) (lowest : Bool) → m.says (told m m.first ts) score lowest ≡ n.says (told n n.first ts) score lowest
