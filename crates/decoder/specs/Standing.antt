-- When a frame and its memory stand for a state of the plain machine, and that every call keeps it so. Assumes nothing.
use Rattle.std.specs.Prelude.{◌≡◌, ℕ, ◌<◌, ◌≤◌, Bool, List, ℤ, pos, ◌-ℤ◌, ◌≢◌, int_lt}
use Rattle.faults.specs.declared.Fault.TheVariants.{FrameSize, NoSuchBit}
use Rattle.codes.specs.Answers.{Answers}
use Rattle.codes.specs.Pairs.{count_below}
use Rattle.rules.specs.Meaning.{RuleMeaning}
use Rattle.plain.specs.declared.call.Answer.{Answer}
use Rattle.plain.specs.declared.call.Answer.TheVariants.{Toggled, Weighed, Unmet as UnmetAre, Packed, Refused}
use Rattle.plain.specs.declared.call.Call.{Call}
use Rattle.plain.specs.Machine.{Frame as PlainFrame, State, Step, bytes_for, packed, step}
use Rattle.plain.specs.Scores.{Setting, open_digit, sign_of, score_of, objective_of}
use Rattle.plain.specs.Turning.{turn}
use Rattle.engine.specs.declared.bit.Bit.{Bit}
use Rattle.engine.specs.declared.bit.Sign.{Sign}
use Rattle.engine.specs.Stands.{Fits, StandsFor, Unmarked}
use Rattle.engine.specs.Turns.{memory}
use Rattle.decoder.specs.declared.frame.Frame.{Frame}
use Rattle.decoder.specs.Memory.{Core, core, Held, Reply, Said}

-- of a setting, with this limit, after so many rounds, at these digits
pub record Stands (a : Answers) (s : Setting) (limit rounds : ℕ) (digit : ℕ → Bool) (c : Core) : Type 0 where
  pub fits : Fits a c.frame.weight s
  -- every digit is the present one; scores, signs and objective are those computed from the digits
  pub computed : StandsFor s digit (memory c.records c.signs) c.frame.objective
  pub unmarked : Unmarked c.records
  pub bits : c.frame.bits ≡ s.code.bits
  pub checks : c.frame.checks ≡ s.code.checks
  pub limited : c.frame.limit ≡ limit
  pub counted : c.frame.rounds ≡ rounds
  pub opening : c.frame.opening ≡ objective_of s (open_digit s)

-- and with the rule in the machine's state
pub record Standing {S : Type 0} (a : Answers) (f : PlainFrame S) (p : State S) (h : Held S) : Type 0 where
  pub core : Stands a f.setting f.limit p.rounds p.digits h.core
  pub rule : h.rule ≡ p.rule

-- ---- every call: what stood for a state stands for the next, and the answer is the machine's
pub record Replies {S : Type 0} (a : Answers) (f : PlainFrame S) (t : Step S) (r : Reply S) : Type 0 where
  pub answer : r.answer ≡ t.answer
  pub stands : Standing a f t.state r.held

abbrev pub StepsExactly : {S : Type 0} → Answers → RuleMeaning S → (ℕ → ℕ → ℤ) → Call → Held S → Reply S → Type 0
StepsExactly {S} a m noise c h r = (f : PlainFrame S) (p : State S) → f.rule ≡ m → f.noise ≡ noise → Standing a f p h → Replies a f (step f c p) r

-- ---- the same of the calls that leave the rule alone
pub record Toggles (a : Answers) (s : Setting) (limit rounds : ℕ) (digit : ℕ → Bool) (k : ℕ) (r : Said) : Type 0 where
  pub turned : k < s.code.bits → (r.answer ≡ Toggled (score_of s (turn k digit) k)) × Stands a s limit rounds (turn k digit) r.core
  pub none : s.code.bits ≤ k → (r.answer ≡ Refused (NoSuchBit k)) × Stands a s limit rounds digit r.core

abbrev pub TogglesExactly : Answers → ℕ → Core → Said → Type 0
TogglesExactly a k c r = (s : Setting) (limit rounds : ℕ) (digit : ℕ → Bool) → Stands a s limit rounds digit c → Toggles a s limit rounds digit k r

pub record Weighs (s : Setting) (digit : ℕ → Bool) (k : ℕ) (x : Answer (List ℕ)) : Type 0 where
  pub computed : k < s.code.bits → x ≡ Weighed (score_of s digit k) (objective_of s digit) (objective_of s digit -ℤ objective_of s (open_digit s))
  pub none : s.code.bits ≤ k → x ≡ Refused (NoSuchBit k)

abbrev pub WeighsExactly : ℕ → Frame → List Bit → Answer (List ℕ) → Type 0
WeighsExactly k f rs x = (a : Answers) (s : Setting) (limit rounds : ℕ) (digit : ℕ → Bool) (ss : List Sign) → Stands a s limit rounds digit (core f rs ss) → Weighs s digit k x

abbrev pub CountsExactly : Frame → List Sign → Answer (List ℕ) → Type 0
CountsExactly f ss x = (a : Answers) (s : Setting) (limit rounds : ℕ) (digit : ℕ → Bool) (rs : List Bit) → Stands a s limit rounds digit (core f rs ss) → x ≡ UnmetAre (count_below s.code.checks (λ i. int_lt (sign_of s.code digit i) (pos 0)))

pub record Reads (s : Setting) (digit : ℕ → Bool) (n : ℕ) (x : Answer (List ℕ)) : Type 0 where
  pub whole : n ≡ bytes_for s.code.bits → x ≡ Packed (packed s.code.bits digit)
  pub other : (n ≢ bytes_for s.code.bits) → x ≡ Refused (FrameSize n)

abbrev pub ReadsExactly : ℕ → Frame → List Bit → Answer (List ℕ) → Type 0
ReadsExactly n f rs x = (a : Answers) (s : Setting) (limit rounds : ℕ) (digit : ℕ → Bool) (ss : List Sign) → Stands a s limit rounds digit (core f rs ss) → Reads s digit n x
