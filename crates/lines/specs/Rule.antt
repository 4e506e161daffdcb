-- The first line: which rule it means. Assumes nothing.
use Rattle.std.specs.Prelude.{ℕ, cond, List, [], ◌∷◌, ℤ, pos, negsuc, Some, None, codes, Option, ◌==◌}
use Rattle.std.specs.Str.{bytes_eq}
use Rattle.rules.specs.declared.mode.Mode.{Mode}
use Rattle.rules.specs.Chosen.{still}
use Rattle.rules.specs.Kinds.{single, multi, switch}
use Rattle.rules.specs.Meaning.{RuleMeaning}
use Rattle.lines.specs.Digits.{nibble, level_of}

-- what follows a word at the start of a line
abbrev pub after : List ℕ → List ℕ → Option (List ℕ)
after [] bs = Some bs
after (w ∷ ws) [] = None
after (w ∷ ws) (b ∷ bs) = cond (b == w) (after ws bs) None

-- a level below 0
abbrev pub below : Option ℤ → Option ℤ
below None = None
below (Some (pos n)) = None
below (Some (negsuc n)) = Some (negsuc n)

-- two digits, from 80 to ff
abbrev pub threshold : Option (List ℕ) → Option ℤ
threshold None = None
threshold (Some []) = None
threshold (Some (h ∷ [])) = None
threshold (Some (h ∷ l ∷ [])) = below (level_of (nibble h) (nibble l))
threshold (Some (h ∷ l ∷ b ∷ bs)) = None

abbrev pub named : (ℤ → RuleMeaning Mode) → Option ℤ → Option (RuleMeaning Mode)
named m None = None
named m (Some t) = Some (m t)

abbrev pub or_rule : Option (RuleMeaning Mode) → Option (RuleMeaning Mode) → Option (RuleMeaning Mode)
or_rule None o = o
or_rule (Some m) o = Some m

-- single, multi hh or switch hh
abbrev pub rule_line : List ℕ → Option (RuleMeaning Mode)
rule_line bs =
    cond (bytes_eq bs (codes "single")) (Some (still single))
    (or_rule (named (λ t. still (multi t)) (threshold (after (codes "multi ") bs)))
    (named switch (threshold (after (codes "switch ") bs))))
