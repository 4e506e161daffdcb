-- A frame and its mirror image at a codeword's ones. Assumes nothing.
use Rattle.std.specs.Prelude.{◌≡◌, ℕ, ◌<◌, Bool, cond, not, pos, neg_ℤ, ◌≢◌}
use Rattle.codes.specs.Pairs.{Codeword}
use Rattle.plain.specs.Scores.{Setting, open_digit, sign_of, score_of, objective_of}
use Rattle.plain.specs.Turning.{turn}

-- the digits turned over at the ones of z
abbrev pub turned_at : (ℕ → Bool) → (ℕ → Bool) → ℕ → Bool
turned_at z digit k = cond (z k) (not (digit k)) (digit k)

-- the levels negated at the ones of z
abbrev pub mirrored : (ℕ → Bool) → Setting → Setting
mirrored z s = record { code = s.code; weight = s.weight; level = λ k. cond (z k) (neg_ℤ (s.level k)) (s.level k) }

pub record Mirrors (s : Setting) (z digit : ℕ → Bool) : Type 0 where
  -- signs, scores and the objective are the same
  pub signs : (c : ℕ) → c < s.code.checks → sign_of s.code (turned_at z digit) c ≡ sign_of s.code digit c
  pub scores : (k : ℕ) → score_of (mirrored z s) (turned_at z digit) k ≡ score_of s digit k
  pub objective : objective_of (mirrored z s) (turned_at z digit) ≡ objective_of s digit
  -- a flip of the one is a flip of the other
  pub flips : (k : ℕ) → turn k (turned_at z digit) ≡ turned_at z (turn k digit)

abbrev pub MirrorLaw : Type 0
MirrorLaw = (s : Setting) (z digit : ℕ → Bool) → Codeword s.code z → Mirrors s z digit

-- and so are the openings, where no level is 0
abbrev pub OpeningsMirror : Type 0
OpeningsMirror = (s : Setting) (z : ℕ → Bool) (k : ℕ) → (s.level k ≢ pos 0) → open_digit (mirrored z s) k ≡ turned_at z (open_digit s) k
