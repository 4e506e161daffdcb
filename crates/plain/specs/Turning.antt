-- What turning one bit over does. Assumes nothing.
use Rattle.std.specs.Prelude.{◌≡◌, ℕ, ◌<◌, Bool, true, false, cond, not, ◌&&◌, pos, ◌+ℤ◌, ◌-ℤ◌, ◌*ℤ◌, neg_ℤ, ◌==◌, ◌≢◌}
use Rattle.plain.specs.Scores.{Setting, sum_below, sign_of, voice_of, score_of, objective_of}

-- the digits with the bit k turned over
abbrev pub turn : ℕ → (ℕ → Bool) → ℕ → Bool
turn k digit i = cond (i == k) (not (digit i)) (digit i)

pub record Turns (s : Setting) (digit : ℕ → Bool) (k : ℕ) : Type 0 where
  -- the checks that hold k change their sign, and no other
  pub held : (c : ℕ) → s.code.holds c k ≡ true → sign_of s.code (turn k digit) c ≡ neg_ℤ (sign_of s.code digit c)
  pub free : (c : ℕ) → s.code.holds c k ≡ false → sign_of s.code (turn k digit) c ≡ sign_of s.code digit c
  -- its own score is negated
  pub score : score_of s (turn k digit) k ≡ neg_ℤ (score_of s digit k)
  -- every other bit gains twice the new weighted sign of each check that holds both
  pub others : (b : ℕ) → (b ≢ k) → score_of s (turn k digit) b ≡ score_of s digit b +ℤ sum_below s.code.checks (λ c. cond (s.code.holds c k && s.code.holds c b) (pos 2 *ℤ voice_of s (turn k digit) c) (pos 0))
  -- the objective falls by twice the score
  pub objective : objective_of s (turn k digit) ≡ objective_of s digit -ℤ pos 2 *ℤ score_of s digit k

abbrev pub FlipLaw : Type 0
FlipLaw = (s : Setting) (digit : ℕ → Bool) (k : ℕ) → k < s.code.bits → Turns s digit k
