-- That want of memory is the only fault in its row.
use Rattle.std.proofs.Common.{◌≡◌, refl, ap, arith}
use Rattle.faults.specs.declared.Fault.{Fault}
use Rattle.faults.specs.declared.Fault.TheVariants.{SampleCount, QuantiserRange, NotANumber, CodeSize, BadEntry, ListsDiffer, DegreeRange, ThresholdRange, TableLength, TableEntry, AmplitudeRange, FrameSize, LevelRange, WeightRange, LimitRange, NoSuchBit, InputLength, RuleLine, BadDigit, DigitCount, NoMemory}
use Rattle.faults.specs.Rows.{Row, row_of, M}

layer_is : (e : Fault) → row_of e ≡ M 1 0 → (row_of e).layer ≡ 77
layer_is e h = ap (λ (r : Row). r.layer) h

pub memory_row : (e : Fault) → row_of e ≡ M 1 0 → e ≡ NoMemory
memory_row (SampleCount n) h = let l = layer_is (SampleCount n) h in absurd (omega arith)
memory_row QuantiserRange h = let l = layer_is QuantiserRange h in absurd (omega arith)
memory_row (NotANumber i) h = let l = layer_is (NotANumber i) h in absurd (omega arith)
memory_row CodeSize h = let l = layer_is CodeSize h in absurd (omega arith)
memory_row (BadEntry i) h = let l = layer_is (BadEntry i) h in absurd (omega arith)
memory_row (ListsDiffer i) h = let l = layer_is (ListsDiffer i) h in absurd (omega arith)
memory_row (DegreeRange i) h = let l = layer_is (DegreeRange i) h in absurd (omega arith)
memory_row ThresholdRange h = let l = layer_is ThresholdRange h in absurd (omega arith)
memory_row (TableLength n) h = let l = layer_is (TableLength n) h in absurd (omega arith)
memory_row (TableEntry i) h = let l = layer_is (TableEntry i) h in absurd (omega arith)
memory_row AmplitudeRange h = let l = layer_is AmplitudeRange h in absurd (omega arith)
memory_row (FrameSize n) h = let l = layer_is (FrameSize n) h in absurd (omega arith)
memory_row (LevelRange i) h = let l = layer_is (LevelRange i) h in absurd (omega arith)
memory_row WeightRange h = let l = layer_is WeightRange h in absurd (omega arith)
memory_row LimitRange h = let l = layer_is LimitRange h in absurd (omega arith)
memory_row (NoSuchBit k) h = let l = layer_is (NoSuchBit k) h in absurd (omega arith)
memory_row InputLength h = let l = layer_is InputLength h in absurd (omega arith)
memory_row RuleLine h = let l = layer_is RuleLine h in absurd (omega arith)
memory_row (BadDigit i) h = let l = layer_is (BadDigit i) h in absurd (omega arith)
memory_row (DigitCount i) h = let l = layer_is (DigitCount i) h in absurd (omega arith)
memory_row NoMemory h = refl
