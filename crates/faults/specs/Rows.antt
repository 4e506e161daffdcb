-- The table of refusals: each fault's letter, number and place, and how it is printed. Assumes nothing.
use Rattle.std.specs.Prelude.{◌≡◌, ℕ, ◌⊎◌, List, ◌∷◌, ◌++◌, Some, None, decimal, Option}
use Rattle.std.proofs.Math.Utf8.{encode}
use Rattle.faults.specs.declared.Fault.{Fault}
use Rattle.faults.specs.declared.Fault.TheVariants.{SampleCount, QuantiserRange, NotANumber, CodeSize, BadEntry, ListsDiffer, DegreeRange, ThresholdRange, TableLength, TableEntry, AmplitudeRange, FrameSize, LevelRange, WeightRange, LimitRange, NoSuchBit, InputLength, RuleLine, BadDigit, DigitCount, NoMemory}

-- a row of the table, at a place; the layer is the code of its letter
pub record Row : Type 0 where
  pub layer : ℕ
  pub number : ℕ
  pub place : ℕ

-- the rows of each layer, by number and place: quantiser, code, rule, noise, frame, text, and memory
abbrev pub Q : ℕ → ℕ → Row
Q n p = record { layer = 81; number = n; place = p }

abbrev pub C : ℕ → ℕ → Row
C n p = record { layer = 67; number = n; place = p }

abbrev pub R : ℕ → ℕ → Row
R n p = record { layer = 82; number = n; place = p }

abbrev pub N : ℕ → ℕ → Row
N n p = record { layer = 78; number = n; place = p }

abbrev pub F : ℕ → ℕ → Row
F n p = record { layer = 70; number = n; place = p }

abbrev pub T : ℕ → ℕ → Row
T n p = record { layer = 84; number = n; place = p }

abbrev pub M : ℕ → ℕ → Row
M n p = record { layer = 77; number = n; place = p }

-- the most bytes that an input of text lines has
abbrev pub most_input : ℕ
most_input = 16384

-- the row of each fault
abbrev pub row_of : Fault → Row
row_of (SampleCount n) = Q 1 n
row_of QuantiserRange = Q 2 0
row_of (NotANumber i) = Q 3 i
row_of CodeSize = C 1 0
row_of (BadEntry i) = C 2 i
row_of (ListsDiffer i) = C 3 i
row_of (DegreeRange i) = C 4 i
row_of ThresholdRange = R 1 0
row_of (TableLength n) = N 1 n
row_of (TableEntry i) = N 2 i
row_of AmplitudeRange = N 3 0
row_of (FrameSize n) = F 1 n
row_of (LevelRange i) = F 2 i
row_of WeightRange = F 3 0
row_of LimitRange = F 4 0
row_of (NoSuchBit k) = F 5 k
row_of InputLength = T 1 most_input
row_of RuleLine = T 2 0
row_of (BadDigit i) = T 3 i
row_of (DigitCount i) = T 4 i
row_of NoMemory = M 1 0

-- what a call that allocates refuses with, where the table's first fault is o: that one, or want of memory if there is none
abbrev pub Refused : Option Row → Row → Type 0
Refused o r = (o ≡ Some r) ⊎ ((o ≡ None) × (r ≡ M 1 0))

-- letter and number, a space, and the place
abbrev pub printed : Row → List ℕ
printed r = encode r.layer ++ (decimal r.number ++ (32 ∷ decimal r.place))
