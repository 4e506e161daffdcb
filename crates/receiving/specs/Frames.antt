-- A frame of the seven-bit code, without noise, with the weight 1 and at most 10 rounds: why its levels are refused, and what the plain machine answers. Assumes nothing.
use Rattle.std.specs.Prelude.{ℕ, List, [], ◌∷◌, length, ℤ, None, Option}
use Rattle.faults.specs.declared.Fault.{Fault}
use Rattle.seven.specs.Seven.{seven_pairs}
use Rattle.noise.specs.Sources.{silence}
use Rattle.rules.specs.declared.mode.Mode.{Mode}
use Rattle.rules.specs.Meaning.{RuleMeaning}
use Rattle.plain.specs.declared.call.Answer.{Answer}
use Rattle.plain.specs.declared.call.Call.{Call}
use Rattle.plain.specs.declared.call.Call.TheVariants.{Decode, Weigh, Read}
use Rattle.plain.specs.Machine.{Frame as PlainFrame, opened, answers_of}
use Rattle.decoder.specs.Memory.{unlike}
use Rattle.decoder.specs.Openings.{first_bad_level, level_fault}
use Rattle.decoder.specs.Replays.{frame_of}

-- there are not seven levels, and then the first that is even or out of range
abbrev pub levels_fault : List ℤ → Option Fault
levels_fault ys = unlike (length ys) 7 (level_fault (first_bad_level ys) None)

-- decode, weigh bit 0, and read into one byte
abbrev pub calls : List Call
calls = Decode ∷ Weigh 0 ∷ Read 1 ∷ []

abbrev pub frame_with : RuleMeaning Mode → List ℤ → PlainFrame Mode
frame_with m ys = frame_of seven_pairs ys 1 10 m silence

-- what the plain machine answers to the calls
unfoldable pub answers_with : RuleMeaning Mode → List ℤ → List (Answer (List ℕ))
answers_with m ys = answers_of (frame_with m ys) calls (opened (frame_with m ys))
