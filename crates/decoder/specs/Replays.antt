-- What holds after every list of calls on an opened frame, for every lawful code. Assumes nothing.
use Rattle.std.specs.Prelude.{◌≡◌, ℕ, ◌⊎◌, List, ◌++◌, map, length, ℤ, pos, ◌-ℤ◌, ◌*ℤ◌, neg_ℤ, Some, None, Ok, Err, vec_items, Option, Result, slice_index_or, Float}
use Rattle.std.specs.Borrow.{MutBor}
use Rattle.faults.specs.declared.Fault.{Fault}
use Rattle.faults.specs.declared.Fault.TheVariants.{NoMemory}
use Rattle.faults.specs.Rows.{row_of}
use Rattle.codes.specs.Answers.{Answers}
use Rattle.codes.specs.Lawful.{Lawful}
use Rattle.codes.specs.Pairs.{Pairs}
use Rattle.rules.specs.Meaning.{RuleMeaning}
use Rattle.plain.specs.declared.call.Answer.{Answer}
use Rattle.plain.specs.declared.call.Answer.TheVariants.{Stopped, Flipped, Ended, Toggled, Weighed, Unmet, Packed, Refused}
use Rattle.plain.specs.declared.call.Call.{Call}
use Rattle.plain.specs.Laws.{sum_of, Picks, Verdicts}
use Rattle.plain.specs.Machine.{Frame as PlainFrame, opened, state_after, answers_of}
use Rattle.quantiser.specs.declared.shape.Shape.{Shape}
use Rattle.quantiser.specs.Levels.{level_of}
use Rattle.quantiser.specs.Runs.{quantise_fault}
use Rattle.engine.specs.declared.bit.Bit.{Bit}
use Rattle.engine.specs.declared.bit.Sign.{Sign}
use Rattle.decoder.specs.declared.replaying.Replayed.{Replayed}
use Rattle.decoder.specs.declared.replaying.Side.{Side}
use Rattle.decoder.specs.declared.replaying.Terms.{Terms}
use Rattle.decoder.specs.Memory.{Held, held, Performed}
use Rattle.decoder.specs.Openings.{open_fault, opened_in}
use Rattle.decoder.specs.Standing.{Standing}

-- the plain frame of a code with these levels, this weight and limit, and this rule and noise
abbrev pub frame_of : {S : Type 0} → Pairs → List ℤ → ℕ → ℕ → RuleMeaning S → (ℕ → ℕ → ℤ) → PlainFrame S
frame_of p ys w limit m noise = record { setting = record { code = p; weight = λ c. w; level = λ k. slice_index_or ys k (pos 0) }; limit = limit; rule = m; noise = noise }

-- an answer with its packed digits as a list
abbrev pub unpacked : {B : Type 0} → (B → List ℕ) → Answer B → Answer (List ℕ)
unpacked items (Stopped v) = Stopped v
unpacked items (Flipped n) = Flipped n
unpacked items (Ended v n) = Ended v n
unpacked items (Toggled x) = Toggled x
unpacked items (Weighed x y z) = Weighed x y z
unpacked items (Unmet n) = Unmet n
unpacked items (Packed b) = Packed (items b)
unpacked items (Refused e) = Refused e

abbrev pub answers_of_replay : Replayed → List (Answer (List ℕ))
answers_of_replay d = map (unpacked vec_items) (vec_items d.answers)

pub record Ran {S : Type 0} (a : Answers) (f : PlainFrame S) (cs : List Call) (answers : List (Answer (List ℕ))) (h : Held S) : Type 0 where
  -- every answer is the plain machine's
  pub answered : answers ≡ answers_of f cs (opened f)
  -- every digit is the present one; scores, signs and objective are those computed from code, levels, weight and present digits; no mark is set
  pub stands : Standing a f (state_after f cs (opened f)) h
  -- the gain is minus twice the sum of the scores of all flips, each computed just before its flip
  pub gain : h.core.frame.objective -ℤ h.core.frame.opening ≡ neg_ℤ (pos 2 *ℤ sum_of (state_after f cs (opened f)).flips)
  -- after each beginning of the list: a round flips exactly its picks; decoded exactly when every check is met, and spent only at the limit
  pub picks : (before after : List Call) → before ++ after ≡ cs → Picks f (state_after f before (opened f))
  pub verdicts : (before after : List Call) → before ++ after ≡ cs → Verdicts f (state_after f before (opened f))

-- so it is for every lawful code with these answers
abbrev pub RunsExactly : {S : Type 0} → Answers → RuleMeaning S → (ℕ → ℕ → ℤ) → List ℤ → ℕ → ℕ → List Call → List (Answer (List ℕ)) → Held S → Type 0
RunsExactly a m noise ys w limit cs answers h = (p : Pairs) → Lawful a p → Ran a (frame_of p ys w limit m noise) cs answers h

-- ---- what a replay is given, by meaning
pub record Given : Type 0 where
  pub code : Answers
  pub shape : Shape
  pub weight : ℕ
  pub limit : ℕ
  pub calls : List Call

abbrev pub given : {C : Type 0} → (C → Answers) → Terms C → Given
given answers t = record { code = answers t.code.now; shape = t.quantiser.now.shape; weight = t.weight; limit = t.limit; calls = t.calls.now }

-- and what is lent to it
pub record Lent (S : Type 0) : Type 0 where
  pub levels : List ℤ
  pub records : List Bit
  pub signs : List Sign
  pub rule : S

abbrev pub lent : {S : Type 0} → List ℤ → List Bit → List Sign → S → Lent S
lent ys rs ss u = record { levels = ys; records = rs; signs = ss; rule = u }

-- what a side lends, as it was handed over
abbrev pub handed : {R N S : Type 0} → (R → S) → Side R N → Lent S
handed state s = lent s.levels.now s.records.now s.signs.now (state s.rule.now)

-- and as it was left; of the rest, T, nothing can be changed
abbrev pub left : {R S T : Type 0} → (R → S) → MutBor R × (MutBor (List ℤ) × (MutBor (List Bit) × (MutBor (List Sign) × T))) → Lent S
left state x = lent x.1.0.now x.1.1.0.now x.1.1.1.0.now (state x.0.now)

abbrev pub levels_from : Given → List Float → List ℤ
levels_from t xs = map (level_of t.shape) xs

abbrev pub opening_fault : {S : Type 0} → Given → List Float → Lent S → Option Fault
opening_fault t xs l = open_fault t.code (levels_from t xs) t.weight t.limit (length l.records) (length l.signs)

abbrev pub opening_of : {S : Type 0} → Given → RuleMeaning S → List Float → Lent S → Held S
opening_of t m xs l = opened_in m t.code (levels_from t xs) t.weight t.limit l.records l.signs

-- ---- what it comes to
-- the samples were quantised, the frame opened with their levels, and the calls performed
pub record Replays {S : Type 0} (t : Given) (m : RuleMeaning S) (noise : ℕ → ℕ → ℤ) (xs : List Float) (before after : Lent S) (d : Replayed) : Type 0 where
  pub quantised : quantise_fault xs (length before.levels) ≡ None
  pub levels : after.levels ≡ levels_from t xs
  pub allowed : opening_fault t xs before ≡ None
  pub performed : Performed m noise t.code t.calls (opening_of t m xs before) (answers_of_replay d) (held d.frame after.records after.signs after.rule)

-- the samples were refused, and all is as it was
pub record SamplesRefused {S : Type 0} (xs : List Float) (before after : Lent S) (e : Fault) : Type 0 where
  pub fault : quantise_fault xs (length before.levels) ≡ Some (row_of e)
  pub kept : after ≡ before

-- the opening was refused, and all is as it was but for the levels, which were quantised
pub record OpeningRefused {S : Type 0} (t : Given) (xs : List Float) (before after : Lent S) (e : Fault) : Type 0 where
  pub quantised : quantise_fault xs (length before.levels) ≡ None
  pub fault : opening_fault t xs before ≡ Some e
  pub kept : after ≡ lent (levels_from t xs) before.records before.signs before.rule

-- neither was refused, but no memory was to be had for the answers; what is then held is left open
pub record NoRoom {S : Type 0} (t : Given) (xs : List Float) (before : Lent S) (e : Fault) : Type 0 where
  pub quantised : quantise_fault xs (length before.levels) ≡ None
  pub allowed : opening_fault t xs before ≡ None
  pub fault : e ≡ NoMemory

abbrev pub Outcome : {S : Type 0} → Given → RuleMeaning S → (ℕ → ℕ → ℤ) → List Float → Lent S → Lent S → Result Replayed Fault → Type 0
Outcome t m noise xs before after (Ok d) = Replays t m noise xs before after d
Outcome t m noise xs before after (Err e) = SamplesRefused xs before after e ⊎ (OpeningRefused t xs before after e ⊎ NoRoom t xs before e)

-- every performed list is exact, for every lawful code
abbrev pub ExactOutcome : {S : Type 0} → Given → RuleMeaning S → (ℕ → ℕ → ℤ) → List Float → Lent S → Result Replayed Fault → Type 0
ExactOutcome t m noise xs after (Ok d) = RunsExactly t.code m noise (levels_from t xs) t.weight t.limit t.calls (answers_of_replay d) (held d.frame after.records after.signs after.rule)
ExactOutcome t m noise xs after (Err e) = Unit {0}
