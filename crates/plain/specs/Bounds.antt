-- How large scores and objectives can be, within the limits. Assumes nothing.
use Rattle.std.specs.Prelude.{ℕ, ◌+◌, ◌*◌, ◌<◌, ◌≤◌, Bool, ℤ, pos, ◌+ℤ◌, neg_ℤ, ◌≤ℤ◌}
use Rattle.codes.specs.Limits.{most_at_bit}
use Rattle.codes.specs.Pairs.{count_below}
use Rattle.noise.specs.Sources.{Lawful, most_amplitude}
use Rattle.plain.specs.Scores.{Setting, score_of, objective_of}

-- the largest magnitude of a level, and the largest weight
abbrev pub most_level : ℕ
most_level = 31

abbrev pub most_weight : ℕ
most_weight = 16

-- no further than b from 0
pub record Within (b : ℕ) (z : ℤ) : Type 0 where
  pub low : neg_ℤ (pos b) ≤ℤ z
  pub high : z ≤ℤ pos b

-- levels, weights and the checks of each bit within their limits
pub record Modest (s : Setting) : Type 0 where
  pub levels : (k : ℕ) → k < s.code.bits → Within most_level (s.level k)
  pub weights : (c : ℕ) → c < s.code.checks → s.weight c ≤ most_weight
  pub degrees : (k : ℕ) → k < s.code.bits → count_below s.code.checks (λ c. s.code.holds c k) ≤ most_at_bit

pub record Bounded (s : Setting) (digit : ℕ → Bool) : Type 0 where
  pub scores : (k : ℕ) → k < s.code.bits → Within (most_level + most_weight * most_at_bit) (score_of s digit k)
  pub perturbed : (noise : ℕ → ℕ → ℤ) → Lawful noise → (r k : ℕ) → k < s.code.bits → Within (most_level + most_weight * most_at_bit + most_amplitude) (score_of s digit k +ℤ noise r k)
  pub objective : Within (most_level * s.code.bits + most_weight * s.code.checks) (objective_of s digit)

abbrev pub BoundsLaw : Type 0
BoundsLaw = (s : Setting) (digit : ℕ → Bool) → Modest s → Bounded s digit
