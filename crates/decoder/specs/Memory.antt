-- What each call answers and leaves in the caller's memory, whatever that holds. Assumes nothing.
use Rattle.std.specs.Prelude.{◌≡◌, ℕ, zero, suc, ◌+◌, cond, List, [], ◌∷◌, length, ℤ, ◌-ℤ◌, Some, None, Option, ◌==◌, nat_le, nat_lt, slice_index_or}
use Rattle.std.specs.Int.{saturate_to_bits}
use Rattle.faults.specs.declared.Fault.{Fault}
use Rattle.faults.specs.declared.Fault.TheVariants.{FrameSize, NoSuchBit}
use Rattle.codes.specs.Answers.{Answers}
use Rattle.rules.specs.Meaning.{RuleMeaning}
use Rattle.plain.specs.declared.call.Answer.{Answer}
use Rattle.plain.specs.declared.call.Answer.TheVariants.{Stopped, Flipped, Ended, Toggled, Weighed, Unmet as UnmetAre, Packed, Refused}
use Rattle.plain.specs.declared.call.Call.{Call}
use Rattle.plain.specs.declared.call.Call.TheVariants.{Round, Decode, Toggle, Weigh, Unmet, Read}
use Rattle.plain.specs.declared.call.Verdict.{Verdict}
use Rattle.plain.specs.declared.call.Verdict.TheVariants.{Decoded, Spent}
use Rattle.plain.specs.Machine.{bytes_for}
use Rattle.engine.specs.declared.bit.Bit.{Bit}
use Rattle.engine.specs.declared.bit.Sign.{Sign}
use Rattle.engine.specs.Opening.{Whole, whole}
use Rattle.engine.specs.Packing.{unmet_signs, packed_into}
use Rattle.engine.specs.Sweeps.{swept, swept_count}
use Rattle.engine.specs.Turns.{Memory, memory, blank, flipped, fallen}
use Rattle.decoder.specs.declared.frame.Frame.{Frame}

-- a frame with the caller's records and signs, and then with the rule's state too
pub record Core : Type 0 where
  pub frame : Frame
  pub records : List Bit
  pub signs : List Sign

pub record Held (S : Type 0) : Type 0 where
  pub core : Core
  pub rule : S

abbrev pub core : Frame → List Bit → List Sign → Core
core f rs ss = record { frame = f; records = rs; signs = ss }

abbrev pub held : {S : Type 0} → Frame → List Bit → List Sign → S → Held S
held f rs ss u = record { core = core f rs ss; rule = u }

-- ---- sizes: the first that is not what the frame needs
abbrev pub unlike : ℕ → ℕ → Option Fault → Option Fault
unlike given needed next = cond (given == needed) next (Some (FrameSize given))

abbrev pub sizes_fault : Frame → Answers → ℕ → ℕ → Option Fault
sizes_fault f a records signs = unlike records f.bits (unlike signs f.checks (unlike a.bits f.bits (unlike a.checks f.checks None)))

abbrev pub bit_fault : Frame → ℕ → Option Fault
bit_fault f k = cond (nat_lt k f.bits) None (Some (NoSuchBit k))

abbrev pub or_fault : Option Fault → Option Fault → Option Fault
or_fault None next = next
or_fault (Some e) next = Some e

-- ---- rounds
-- every check is met, or else the limit is reached
abbrev pub verdict_in : Frame → List Sign → Option Verdict
verdict_in f ss = cond (unmet_signs ss == 0) (Some Decoded) (cond (nat_le f.limit f.rounds) (Some Spent) None)

-- what its picks lead to
abbrev pub swept_in : {S : Type 0} → RuleMeaning S → (ℕ → ℕ → ℤ) → Answers → Held S → Whole
swept_in m noise a h = swept a h.core.frame.weight (m.says h.rule) (noise h.core.frame.rounds) (whole h.core.records h.core.signs h.core.frame.objective)

abbrev pub flips_in : {S : Type 0} → RuleMeaning S → (ℕ → ℕ → ℤ) → Held S → ℕ
flips_in m noise h = swept_count (m.says h.rule) (noise h.core.frame.rounds) h.core.records

-- a frame with another objective, and with one round more
abbrev pub weighing : ℤ → Frame → Frame
weighing e f = record { bits = f.bits; checks = f.checks; weight = f.weight; limit = f.limit; rounds = f.rounds; objective = e; opening = f.opening }

abbrev pub counting_one : Frame → Frame
counting_one f = record { bits = f.bits; checks = f.checks; weight = f.weight; limit = f.limit; rounds = f.rounds + 1; objective = f.objective; opening = f.opening }

-- a counted round: the rule is told
abbrev pub told_of : {S : Type 0} → RuleMeaning S → Held S → Whole → Held S
told_of m h t = held (counting_one (weighing t.objective h.core.frame)) t.records t.signs (m.next h.rule h.core.frame.objective t.objective)

abbrev pub rounded : {S : Type 0} → RuleMeaning S → (ℕ → ℕ → ℤ) → Answers → Held S → Held S
rounded m noise a h = told_of m h (swept_in m noise a h)

-- ---- answers, with what is then held
pub record Reply (S : Type 0) : Type 0 where
  pub answer : Answer (List ℕ)
  pub held : Held S

abbrev pub reply : {S : Type 0} → Answer (List ℕ) → Held S → Reply S
reply x h = record { answer = x; held = h }

-- a refusal keeps all
abbrev pub refused_or : {S : Type 0} → Option Fault → Held S → Reply S → Reply S
refused_or None h r = r
refused_or (Some e) h r = reply (Refused e) h

-- a round, by whether it stops
abbrev pub turned_by : {S : Type 0} → RuleMeaning S → (ℕ → ℕ → ℤ) → Answers → Held S → Option Verdict → Reply S
turned_by m noise a h None = reply (Flipped (flips_in m noise h)) (rounded m noise a h)
turned_by m noise a h (Some v) = reply (Stopped v) h

abbrev pub turned_in : {S : Type 0} → RuleMeaning S → (ℕ → ℕ → ℤ) → Answers → Held S → Reply S
turned_in m noise a h = turned_by m noise a h (verdict_in h.core.frame h.core.signs)

-- rounds until one stops, at most n
abbrev pub run_on : {S : Type 0} → Option Verdict → Held S → Held S → Held S
run_on None h next = next
run_on (Some v) h next = h

abbrev pub decoded_in : {S : Type 0} → RuleMeaning S → (ℕ → ℕ → ℤ) → Answers → ℕ → Held S → Held S
decoded_in m noise a zero h = h
decoded_in m noise a (suc n) h = run_on (verdict_in h.core.frame h.core.signs) h (decoded_in m noise a n (rounded m noise a h))

-- how it ended: decoded, or else spent
abbrev pub end_in : List Sign → Verdict
end_in ss = cond (unmet_signs ss == 0) Decoded Spent

abbrev pub ended_at : {S : Type 0} → Held S → Reply S
ended_at h = reply (Ended (end_in h.core.signs) h.core.frame.rounds) h

abbrev pub ended_in : {S : Type 0} → RuleMeaning S → (ℕ → ℕ → ℤ) → Answers → Held S → Reply S
ended_in m noise a h = ended_at (decoded_in m noise a h.core.frame.limit h)

-- ---- calls that leave the rule alone
pub record Said : Type 0 where
  pub answer : Answer (List ℕ)
  pub core : Core

abbrev pub said : Answer (List ℕ) → Core → Said
said x c = record { answer = x; core = c }

abbrev pub said_or : Option Fault → Core → Said → Said
said_or None c r = r
said_or (Some e) c r = said (Refused e) c

-- a flip, and the bit's score then
abbrev pub flipped_to : ℕ → Core → Memory → Said
flipped_to k c m = said (Toggled (slice_index_or m.records k blank).score) (core (weighing (fallen k c.records c.frame.objective) c.frame) m.records m.signs)

abbrev pub toggled_in : Answers → ℕ → Core → Said
toggled_in a k c = said_or (or_fault (sizes_fault c.frame a (length c.records) (length c.signs)) (bit_fault c.frame k)) c (flipped_to k c (flipped a k c.frame.weight (memory c.records c.signs)))

abbrev pub answer_or : Option Fault → Answer (List ℕ) → Answer (List ℕ)
answer_or None x = x
answer_or (Some e) x = Refused e

abbrev pub weighed_in : ℕ → Frame → List Bit → Answer (List ℕ)
weighed_in k f rs = answer_or (unlike (length rs) f.bits (bit_fault f k)) (Weighed (slice_index_or rs k blank).score f.objective (saturate_to_bits 31 (f.objective -ℤ f.opening)))

abbrev pub unmet_in : Frame → List Sign → Answer (List ℕ)
unmet_in f ss = answer_or (unlike (length ss) f.checks None) (UnmetAre (unmet_signs ss))

-- into so many bytes
abbrev pub read_fault : Frame → ℕ → ℕ → Option Fault
read_fault f records output = unlike records f.bits (unlike output (bytes_for f.bits) None)

abbrev pub read_in : ℕ → Frame → List Bit → Answer (List ℕ)
read_in n f rs = answer_or (read_fault f (length rs) n) (Packed (packed_into n rs))

-- ---- every call
abbrev pub step_in : {S : Type 0} → RuleMeaning S → (ℕ → ℕ → ℤ) → Answers → Call → Held S → Reply S
step_in m noise a Round h = refused_or (sizes_fault h.core.frame a (length h.core.records) (length h.core.signs)) h (turned_in m noise a h)
step_in m noise a Decode h = refused_or (sizes_fault h.core.frame a (length h.core.records) (length h.core.signs)) h (ended_in m noise a h)
step_in m noise a (Toggle k) h = reply (toggled_in a k h.core).answer (record { core = (toggled_in a k h.core).core; rule = h.rule })
step_in m noise a (Weigh k) h = reply (weighed_in k h.core.frame h.core.records) h
step_in m noise a Unmet h = reply (unmet_in h.core.frame h.core.signs) h
step_in m noise a (Read n) h = reply (read_in n h.core.frame h.core.records) h

-- ---- runs
abbrev pub held_after : {S : Type 0} → RuleMeaning S → (ℕ → ℕ → ℤ) → Answers → List Call → Held S → Held S
held_after m noise a [] h = h
held_after m noise a (c ∷ cs) h = held_after m noise a cs (step_in m noise a c h).held

abbrev pub answers_in : {S : Type 0} → RuleMeaning S → (ℕ → ℕ → ℤ) → Answers → List Call → Held S → List (Answer (List ℕ))
answers_in m noise a [] h = []
answers_in m noise a (c ∷ cs) h = (step_in m noise a c h).answer ∷ answers_in m noise a cs (step_in m noise a c h).held

-- a list of calls was performed, with these answers, and led from one to the other
pub record Performed {S : Type 0} (m : RuleMeaning S) (noise : ℕ → ℕ → ℤ) (a : Answers) (cs : List Call) (start : Held S) (answers : List (Answer (List ℕ))) (end : Held S) : Type 0 where
  pub answered : answers ≡ answers_in m noise a cs start
  pub led : end ≡ held_after m noise a cs start
