-- Codeword symmetry over whole runs: a frame and its image under a codeword. Assumes nothing.
use Rattle.std.specs.Prelude.{◌≡◌, ℕ, Bool, true, List, [], ◌∷◌, pos, ◌≢◌}
use Rattle.codes.specs.Pairs.{Codeword}
use Rattle.rules.specs.Meaning.{Alike}
use Rattle.plain.specs.declared.call.Answer.{Answer}
use Rattle.plain.specs.declared.call.Answer.TheVariants.{Stopped, Flipped, Ended, Toggled, Weighed, Unmet, Packed, Refused}
use Rattle.plain.specs.declared.call.Call.{Call}
use Rattle.plain.specs.Machine.{Frame, opened, packed, state_after, answers_of}
use Rattle.plain.specs.Mirror.{turned_at, mirrored}

-- g is the image of f under z: levels negated exactly at the ones of a codeword, where none is 0; limit and noise equal; rules alike
pub record Image {S T : Type 0} (z : ℕ → Bool) (f : Frame S) (g : Frame T) : Type 0 where
  pub word : Codeword f.setting.code z
  pub levels : (k : ℕ) → z k ≡ true → f.setting.level k ≢ pos 0
  pub setting : g.setting ≡ mirrored z f.setting
  pub limit : g.limit ≡ f.limit
  pub noise : g.noise ≡ f.noise
  pub rule : Alike f.rule g.rule

-- the same answer, but that packed digits are turned over exactly at the ones of z
abbrev pub SameBut : (ℕ → Bool) → ℕ → Answer (List ℕ) → Answer (List ℕ) → Type 0
SameBut z n (Stopped v) b = b ≡ Stopped v
SameBut z n (Flipped m) b = b ≡ Flipped m
SameBut z n (Ended v m) b = b ≡ Ended v m
SameBut z n (Toggled x) b = b ≡ Toggled x
SameBut z n (Weighed x y w) b = b ≡ Weighed x y w
SameBut z n (Unmet m) b = b ≡ Unmet m
SameBut z n (Packed bytes) b = (digit : ℕ → Bool) × (bytes ≡ packed n digit) × (b ≡ Packed (packed n (turned_at z digit)))
SameBut z n (Refused e) b = b ≡ Refused e

-- answer by answer
abbrev pub AllSameBut : (ℕ → Bool) → ℕ → List (Answer (List ℕ)) → List (Answer (List ℕ)) → Type 0
AllSameBut z n [] bs = bs ≡ []
AllSameBut z n (a ∷ more) [] = ⊥
AllSameBut z n (a ∷ more) (b ∷ bs) = SameBut z n a b × AllSameBut z n more bs

-- every answer of every run is the same but for packed digits, and the present digits differ exactly at the ones
pub record Symmetric {S T : Type 0} (z : ℕ → Bool) (f : Frame S) (g : Frame T) (cs : List Call) : Type 0 where
  pub answers : AllSameBut z f.setting.code.bits (answers_of f cs (opened f)) (answers_of g cs (opened g))
  pub digits : (state_after g cs (opened g)).digits ≡ turned_at z (state_after f cs (opened f)).digits

abbrev pub SymmetryLaw : Type 0 → Type 0 → Type 0
SymmetryLaw S T = (z : ℕ → Bool) (f : Frame S) (g : Frame T) (cs : List Call) → Image z f g → Symmetric z f g cs
