-- Worked cases: what the definitions make of codes, frames and sources that are small enough to be worked out by hand. Assumes nothing.
use Rattle.std.specs.Prelude.{◌≡◌, ℕ, Bool, true, false, List, [], ◌∷◌, map, ℤ, pos, negsuc, slice_index_or}
use Rattle.std.specs.List.{range_with_len}
use Rattle.codes.specs.Cross.{product_pairs}
use Rattle.codes.specs.Pairs.{Pairs}
use Rattle.listed.specs.declared.pair.Pair.{Pair}
use Rattle.listed.specs.Listing.{listed_pairs}
use Rattle.circulant.specs.Circles.{circulant_pairs}
use Rattle.noise.specs.Sources.{silence, tabled, mixed, generated}
use Rattle.rules.specs.Kinds.{single, multi, switch}
use Rattle.rules.specs.Meaning.{RuleMeaning}
use Rattle.plain.specs.declared.call.Answer.{Answer}
use Rattle.plain.specs.declared.call.Answer.TheVariants.{Stopped, Flipped, Ended, Weighed, Packed}
use Rattle.plain.specs.declared.call.Call.{Call}
use Rattle.plain.specs.declared.call.Call.TheVariants.{Round, Decode, Weigh, Read}
use Rattle.plain.specs.declared.call.Verdict.TheVariants.{Decoded, Spent}
use Rattle.plain.specs.Machine.{Frame, State, opened, state_after, answers_of}
use Rattle.plain.specs.Scores.{Setting, open_digit, score_of, objective_of}

-- ---- codes
abbrev pub at : ℕ → ℕ → Pair
at c b = record { check = c; bit = b }

-- the bits that each check holds
abbrev pub table : Pairs → List (List Bool)
table p = map (λ c. map (p.holds c) (range_with_len 0 p.bits)) (range_with_len 0 p.checks)

-- one check, which holds the bits 0 and 1
abbrev pub two : Pairs
two = listed_pairs 2 1 (at 0 0 ∷ at 0 1 ∷ [])

-- the checks {0, 2, 4, 6}, {1, 2, 5, 6} and {3, 4, 5, 6}
abbrev pub seven : Pairs
seven = listed_pairs 7 3 (at 0 0 ∷ at 0 2 ∷ at 0 4 ∷ at 0 6 ∷ at 1 1 ∷ at 1 2 ∷ at 1 5 ∷ at 1 6 ∷ at 2 3 ∷ at 2 4 ∷ at 2 5 ∷ at 2 6 ∷ [])

pub record Codes : Type 0 where
  -- size 3, one row of the shifts 0 and 1: the checks {0, 4}, {1, 5} and {2, 3}
  pub circulant : table (circulant_pairs 1 2 3 (pos 0 ∷ pos 1 ∷ [])) ≡ (true ∷ false ∷ false ∷ false ∷ true ∷ false ∷ []) ∷ (false ∷ true ∷ false ∷ false ∷ false ∷ true ∷ []) ∷ (false ∷ false ∷ true ∷ true ∷ false ∷ false ∷ []) ∷ []
  -- the checks {0, 1}, {2, 3}, {0, 2} and {1, 3}
  pub product : table (product_pairs two two) ≡ (true ∷ true ∷ false ∷ false ∷ []) ∷ (false ∷ false ∷ true ∷ true ∷ []) ∷ (true ∷ false ∷ true ∷ false ∷ []) ∷ (false ∷ true ∷ false ∷ true ∷ []) ∷ []

-- ---- noise
pub record Noise : Type 0 where
  pub mixes : mixed 1 ≡ 270369
  pub gives : generated 1 3 0 0 ≡ negsuc 1

-- ---- frames
-- with one weight for all checks
abbrev pub setting_of : Pairs → ℕ → List ℤ → Setting
setting_of p w levels = record { code = p; weight = λ c. w; level = λ k. slice_index_or levels k (pos 0) }

abbrev pub frame_of : {S : Type 0} → Setting → RuleMeaning S → (ℕ → ℕ → ℤ) → Frame S
frame_of s r noise = record { setting = s; limit = 10; rule = r; noise = noise }

abbrev pub after : {S : Type 0} → Frame S → List Call → State S
after f cs = state_after f cs (opened f)

abbrev pub answers : {S : Type 0} → Frame S → List Call → List (Answer (List ℕ))
answers f cs = answers_of f cs (opened f)

abbrev pub scores : Setting → (ℕ → Bool) → List ℤ
scores s digit = map (score_of s digit) (range_with_len 0 s.code.bits)

-- ---- seven bits, of which the last is wrong
abbrev pub line : Setting
line = setting_of seven 1 (pos 5 ∷ pos 5 ∷ pos 5 ∷ pos 5 ∷ pos 5 ∷ pos 5 ∷ negsuc 0 ∷ [])

-- −10 at bit 0 in round 0, and at bit 6 in round 1
abbrev pub loud : ℕ → ℕ → ℤ
loud = tabled (negsuc 9 ∷ pos 0 ∷ pos 0 ∷ pos 0 ∷ pos 0 ∷ pos 0 ∷ pos 0 ∷ [])

pub record Seven : Type 0 where
  pub first : scores line (open_digit line) ≡ pos 4 ∷ pos 4 ∷ pos 3 ∷ pos 4 ∷ pos 3 ∷ pos 3 ∷ negsuc 1 ∷ []
  pub objective : objective_of line (open_digit line) ≡ pos 28
  -- a single round
  pub after_single : scores line (after (frame_of line single silence) (Round ∷ [])).digits ≡ pos 6 ∷ pos 6 ∷ pos 7 ∷ pos 6 ∷ pos 7 ∷ pos 7 ∷ pos 2 ∷ []
  pub answers_single : answers (frame_of line single silence) (Read 1 ∷ Round ∷ Weigh 6 ∷ Round ∷ Decode ∷ Read 1 ∷ []) ≡ Packed (2 ∷ []) ∷ Flipped 1 ∷ Weighed (pos 2) (pos 32) (pos 4) ∷ Stopped Decoded ∷ Ended Decoded 1 ∷ Packed (0 ∷ []) ∷ []
  -- strictly below −1 is the last bit alone, and below −2 none; the round counts all the same, up to the limit
  pub answers_multi : answers (frame_of line (multi (negsuc 0)) silence) (Round ∷ Read 1 ∷ []) ≡ Flipped 1 ∷ Packed (0 ∷ []) ∷ []
  pub answers_none : answers (frame_of line (multi (negsuc 1)) silence) (Round ∷ Read 1 ∷ Decode ∷ []) ≡ Flipped 0 ∷ Packed (2 ∷ []) ∷ Ended Spent 10 ∷ []
  pub rounds_none : (after (frame_of line (multi (negsuc 1)) silence) (Round ∷ [])).rounds ≡ 1
  -- noise makes bit 0 the lowest, and then bit 6; the flips are priced without it
  pub flips_loud : (after (frame_of line single loud) (Round ∷ Round ∷ [])).flips ≡ pos 0 ∷ pos 4 ∷ []
  pub answers_loud : answers (frame_of line single loud) (Round ∷ Read 1 ∷ Round ∷ Read 1 ∷ []) ≡ Flipped 1 ∷ Packed (130 ∷ []) ∷ Flipped 1 ∷ Packed (128 ∷ []) ∷ []

-- ---- two bits under one check, which disagree
abbrev pub quarrel : Setting
quarrel = setting_of two 3 (pos 1 ∷ negsuc 0 ∷ [])

pub record Two : Type 0 where
  pub first : scores quarrel (open_digit quarrel) ≡ negsuc 1 ∷ negsuc 1 ∷ []
  pub objective : objective_of quarrel (open_digit quarrel) ≡ negsuc 0
  -- a switch round flips both, the second at the score that the first flip left it, and lowers the objective; the next flips the first alone
  pub flips : (after (frame_of quarrel (switch (negsuc 0)) silence) (Round ∷ [])).flips ≡ pos 4 ∷ negsuc 1 ∷ []
  pub answers_switch : answers (frame_of quarrel (switch (negsuc 0)) silence) (Round ∷ Weigh 0 ∷ Round ∷ Weigh 0 ∷ Round ∷ Read 1 ∷ []) ≡ Flipped 2 ∷ Weighed (negsuc 3) (negsuc 4) (negsuc 3) ∷ Flipped 1 ∷ Weighed (pos 4) (pos 3) (pos 4) ∷ Stopped Decoded ∷ Packed (0 ∷ []) ∷ []

pub record WorkedCases : Type 0 where
  pub codes : Codes
  pub noise : Noise
  pub seven_bits : Seven
  pub two_bits : Two
