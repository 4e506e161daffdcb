-- The plain machine: what an open frame is, and what each call answers and does. Assumes nothing.
use Rattle.std.specs.Prelude.{ℕ, zero, suc, ◌+◌, ◌-◌, ◌*◌, ◌/◌, ◌^◌, Bool, cond, ◌&&◌, ◌||◌, List, [], ◌∷◌, map, ℤ, pos, ◌+ℤ◌, ◌-ℤ◌, ◌==◌, int_lt, nat_le, nat_lt}
use Rattle.std.specs.List.{range_with_len}
use Rattle.faults.specs.declared.Fault.TheVariants.{FrameSize, NoSuchBit}
use Rattle.codes.specs.Pairs.{count_below}
use Rattle.rules.specs.Meaning.{RuleMeaning}
use Rattle.plain.specs.declared.call.Answer.{Answer}
use Rattle.plain.specs.declared.call.Answer.TheVariants.{Stopped, Flipped, Ended, Toggled, Weighed, Unmet as UnmetAre, Packed, Refused}
use Rattle.plain.specs.declared.call.Call.{Call}
use Rattle.plain.specs.declared.call.Call.TheVariants.{Round, Decode, Toggle, Weigh, Unmet, Read}
use Rattle.plain.specs.declared.call.Verdict.{Verdict}
use Rattle.plain.specs.declared.call.Verdict.TheVariants.{Decoded, Spent}
use Rattle.plain.specs.Scores.{Setting, open_digit, sign_of, score_of, objective_of}
use Rattle.plain.specs.Turning.{turn}

-- what a frame is opened with, and the rule and the noise of its rounds
pub record Frame (S : Type 0) : Type 0 where
  pub setting : Setting
  pub limit : ℕ
  pub rule : RuleMeaning S
  pub noise : ℕ → ℕ → ℤ

-- present digits, rounds done, the rule's state, and the scores of the flips so far, the last first, each computed just before its flip
pub record State (S : Type 0) : Type 0 where
  pub digits : ℕ → Bool
  pub rounds : ℕ
  pub rule : S
  pub flips : List ℤ

abbrev pub opened : {S : Type 0} → Frame S → State S
opened f = record { digits = open_digit f.setting; rounds = 0; rule = f.rule.first; flips = [] }

-- ---- flips
abbrev pub flip : {S : Type 0} → Frame S → ℕ → State S → State S
flip f k s = record { digits = turn k s.digits; rounds = s.rounds; rule = s.rule; flips = score_of f.setting s.digits k ∷ s.flips }

-- the bits of a set below n, rising
abbrev pub flip_set : {S : Type 0} → Frame S → (ℕ → Bool) → ℕ → State S → State S
flip_set f set zero s = s
flip_set f set (suc n) s = cond (set n) (flip f n (flip_set f set n s)) (flip_set f set n s)

-- ---- rounds
abbrev pub unmet_of : {S : Type 0} → Frame S → State S → ℕ
unmet_of f s = count_below f.setting.code.checks (λ c. int_lt (sign_of f.setting.code s.digits c) (pos 0))

abbrev pub all_met : {S : Type 0} → Frame S → State S → Bool
all_met f s = unmet_of f s == 0

-- score plus the noise of this round
abbrev pub perturbed : {S : Type 0} → Frame S → State S → ℕ → ℤ
perturbed f s k = score_of f.setting s.digits k +ℤ f.noise s.rounds k

-- the first number below n with the least value
abbrev pub lowest : (ℕ → ℤ) → ℕ → ℕ
lowest g zero = 0
lowest g (suc n) = cond (int_lt (g n) (g (lowest g n))) n (lowest g n)

-- the bits to which the rule says yes
abbrev pub picks : {S : Type 0} → Frame S → State S → ℕ → Bool
picks f s k = f.rule.says s.rule (perturbed f s k) (k == lowest (perturbed f s) f.setting.code.bits)

-- a counted round: the picks flip, and the rule is told the objectives before and after
abbrev pub counted : {S : Type 0} → Frame S → State S → State S → State S
counted f s t = record { digits = t.digits; rounds = s.rounds + 1; rule = f.rule.next s.rule (objective_of f.setting s.digits) (objective_of f.setting t.digits); flips = t.flips }

abbrev pub round_made : {S : Type 0} → Frame S → State S → State S
round_made f s = counted f s (flip_set f (picks f s) f.setting.code.bits s)

-- a round that changes nothing
abbrev pub stops : {S : Type 0} → Frame S → State S → Bool
stops f s = all_met f s || nat_le f.limit s.rounds

abbrev pub verdict_of : {S : Type 0} → Frame S → State S → Verdict
verdict_of f s = cond (all_met f s) Decoded Spent

-- rounds until one changes nothing, at most n
abbrev pub decoded : {S : Type 0} → Frame S → ℕ → State S → State S
decoded f zero s = s
decoded f (suc n) s = cond (stops f s) s (decoded f n (round_made f s))

-- ---- digits packed into bytes, the first at the top of the first byte, and spare bits 0
abbrev pub bytes_for : ℕ → ℕ
bytes_for n = (n + 7) / 8

abbrev pub byte_below : ℕ → (ℕ → Bool) → ℕ → ℕ → ℕ
byte_below n digit i zero = 0
byte_below n digit i (suc j) = byte_below n digit i j + cond (nat_lt (i * 8 + j) n && digit (i * 8 + j)) (2 ^ (7 - j)) 0

abbrev pub packed : ℕ → (ℕ → Bool) → List ℕ
packed n digit = map (λ i. byte_below n digit i 8) (range_with_len 0 (bytes_for n))

-- ---- calls
pub record Step (S : Type 0) : Type 0 where
  pub answer : Answer (List ℕ)
  pub state : State S

abbrev pub answers_with : {S : Type 0} → Answer (List ℕ) → State S → Step S
answers_with a s = record { answer = a; state = s }

abbrev pub step : {S : Type 0} → Frame S → Call → State S → Step S
step f Round s = cond (stops f s) (answers_with (Stopped (verdict_of f s)) s) (answers_with (Flipped (count_below f.setting.code.bits (picks f s))) (round_made f s))
step f Decode s = answers_with (Ended (verdict_of f (decoded f f.limit s)) (decoded f f.limit s).rounds) (decoded f f.limit s)
step f (Toggle k) s = cond (nat_lt k f.setting.code.bits) (answers_with (Toggled (score_of f.setting (turn k s.digits) k)) (flip f k s)) (answers_with (Refused (NoSuchBit k)) s)
step f (Weigh k) s = cond (nat_lt k f.setting.code.bits) (answers_with (Weighed (score_of f.setting s.digits k) (objective_of f.setting s.digits) (objective_of f.setting s.digits -ℤ objective_of f.setting (open_digit f.setting))) s) (answers_with (Refused (NoSuchBit k)) s)
step f Unmet s = answers_with (UnmetAre (unmet_of f s)) s
step f (Read n) s = cond (n == bytes_for f.setting.code.bits) (answers_with (Packed (packed f.setting.code.bits s.digits)) s) (answers_with (Refused (FrameSize n)) s)

-- ---- runs
abbrev pub state_after : {S : Type 0} → Frame S → List Call → State S → State S
state_after f [] s = s
state_after f (c ∷ cs) s = state_after f cs (step f c s).state

abbrev pub answers_of : {S : Type 0} → Frame S → List Call → State S → List (Answer (List ℕ))
answers_of f [] s = []
answers_of f (c ∷ cs) s = (step f c s).answer ∷ answers_of f cs (step f c s).state
