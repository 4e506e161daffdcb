-- When the memory stands for a frame's digits, and that a flip keeps it so. Assumes nothing.
use Rattle.std.specs.Prelude.{◌≡◌, ℕ, ◌<◌, ◌≤◌, Bool, false, List, length, get_or, ℤ, pos, negsuc, slice_index_or}
use Rattle.codes.specs.Answers.{Answers}
use Rattle.codes.specs.Lawful.{Lawful}
use Rattle.plain.specs.Bounds.{most_level, most_weight, Within}
use Rattle.plain.specs.Scores.{Setting, sign_of, score_of, objective_of}
use Rattle.plain.specs.Turning.{turn}
use Rattle.engine.specs.declared.bit.Bit.{Bit}
use Rattle.engine.specs.declared.bit.Sign.{Sign}
use Rattle.engine.specs.declared.bit.Sign.TheVariants.{Met, Unmet}
use Rattle.engine.specs.Turns.{Memory, blank}

-- a lawful code with these answers, one weight for every check, and levels and weight within their limits
pub record Fits (a : Answers) (w : ℕ) (s : Setting) : Type 0 where
  pub lawful : Lawful a s.code
  pub levels : (k : ℕ) → k < s.code.bits → Within most_level (s.level k)
  pub weight : w ≤ most_weight
  pub weights : (c : ℕ) → c < s.code.checks → s.weight c ≡ w

-- a sign as a number
abbrev pub sign_value : Sign → ℤ
sign_value Met = pos 1
sign_value Unmet = negsuc 0

-- as many records as bits and signs as checks; every digit is the present one, every level the given one; and every score, every sign and the objective are those computed from the digits
pub record StandsFor (s : Setting) (digit : ℕ → Bool) (m : Memory) (objective : ℤ) : Type 0 where
  pub bits : length m.records ≡ s.code.bits
  pub checks : length m.signs ≡ s.code.checks
  pub digits : (k : ℕ) → k < s.code.bits → (get_or m.records k blank).digit ≡ digit k
  pub levels : (k : ℕ) → k < s.code.bits → (get_or m.records k blank).level ≡ s.level k
  pub scores : (k : ℕ) → k < s.code.bits → (get_or m.records k blank).score ≡ score_of s digit k
  pub signs : (c : ℕ) → c < s.code.checks → sign_value (slice_index_or m.signs c Met) ≡ sign_of s.code digit c
  pub computed : objective ≡ objective_of s digit

-- no record is marked
abbrev pub Unmarked : List Bit → Type 0
Unmarked rs = (k : ℕ) → (get_or rs k blank).mark ≡ false

-- from one memory and objective to another, as a flip of the bit k goes over every lawful code
abbrev pub FlipsExactly : Answers → ℕ → ℕ → Memory → ℤ → Memory → ℤ → Type 0
FlipsExactly a k w m e m' e' = (s : Setting) (digit : ℕ → Bool) → Fits a w s → k < s.code.bits → StandsFor s digit m e → StandsFor s (turn k digit) m' e'
