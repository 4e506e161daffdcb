-- How an input falls into lines. Assumes nothing.
use Rattle.std.specs.Prelude.{◌≡◌, ℕ, ◌+◌, ◌≤◌, Bool, true, false, cond, ◌⊎◌, List, [], ◌∷◌, ◌++◌, length, map, All, ◌==◌}
use Rattle.lines.specs.declared.line.Line.{Line}
use Rattle.lines.specs.declared.line.Line.TheVariants.{Rule, Frame}
use Rattle.lines.specs.declared.part.Part.{Part}
use Rattle.lines.specs.Parts.{bytes_of}

-- a line feed
abbrev pub feed : ℕ
feed = 10

-- the bytes of a line, without its line feed, and where in the input they begin
pub record Placed : Type 0 where
  pub at : ℕ
  pub bytes : List ℕ

-- a byte before the lines that follow it
abbrev pub onto : ℕ → ℕ → List Placed → List Placed
onto at b [] = record { at = at; bytes = b ∷ [] } ∷ []
onto at b (l ∷ ls) = record { at = at; bytes = b ∷ l.bytes } ∷ ls

-- the lines of the bytes that begin at a place: a line feed ends a line, and the last may have none
abbrev pub lines_from : ℕ → List ℕ → List Placed
lines_from at [] = []
lines_from at (b ∷ bs) = cond (b == feed) (record { at = at; bytes = [] } ∷ lines_from (at + 1) bs) (onto at b (lines_from (at + 1) bs))

-- ---- the first line is a rule, and all others are frames
pub data Seen : Type 0 where
  rule : Placed → Seen
  frame : Placed → Seen

abbrev pub kinds : Bool → List Placed → List Seen
kinds true ls = map frame ls
kinds false [] = []
kinds false (l ∷ ls) = rule l ∷ map frame ls

abbrev pub placed_of : Part → Placed
placed_of p = record { at = p.place; bytes = bytes_of p }

abbrev pub seen : Line → Seen
seen (Rule p) = rule (placed_of p)
seen (Frame p) = frame (placed_of p)

-- ---- the lines, each with a line feed, are the input, or the input and a last line feed that it lacks
abbrev pub joined : List Placed → List ℕ
joined [] = []
joined (l ∷ ls) = l.bytes ++ (feed ∷ joined ls)

abbrev pub JoinedAgain : Type 0
JoinedAgain = (at : ℕ) (bs : List ℕ) → (joined (lines_from at bs) ≡ bs) ⊎ (joined (lines_from at bs) ≡ bs ++ (feed ∷ []))

-- ---- each line lies within the bytes that it was taken from
abbrev pub LinesInside : Type 0
LinesInside = (at : ℕ) (bs : List ℕ) → All (λ (l : Placed). (at ≤ l.at) × (l.at + length l.bytes ≤ at + length bs)) (lines_from at bs)
