-- How a verdict is printed. Assumes nothing.
use Rattle.std.specs.Prelude.{ℕ, List, codes}
use Rattle.plain.specs.declared.call.Verdict.{Verdict}
use Rattle.plain.specs.declared.call.Verdict.TheVariants.{Decoded, Spent}

abbrev pub verdict_text : Verdict → List ℕ
verdict_text Decoded = codes "decoded"
verdict_text Spent = codes "spent"
