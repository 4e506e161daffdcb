-- What an opening refuses, and what it leaves otherwise, whatever memory it is given. Assumes nothing.
use Rattle.std.specs.Prelude.{◌≡◌, ℕ, ◌%◌, ◌<◌, Bool, cond, not, ◌&&◌, List, length, ℤ, pos, Some, None, Option, ◌==◌, nat_le, position, slice_index_or, unsigned_abs}
use Rattle.faults.specs.declared.Fault.{Fault}
use Rattle.faults.specs.declared.Fault.TheVariants.{LevelRange, WeightRange, LimitRange}
use Rattle.codes.specs.Answers.{Answers}
use Rattle.codes.specs.Lawful.{Lawful}
use Rattle.rules.specs.Meaning.{RuleMeaning}
use Rattle.plain.specs.Bounds.{most_level, most_weight}
use Rattle.plain.specs.Machine.{Frame as PlainFrame, opened}
use Rattle.engine.specs.declared.bit.Bit.{Bit}
use Rattle.engine.specs.declared.bit.Sign.{Sign}
use Rattle.engine.specs.Opening.{Whole, filled}
use Rattle.decoder.specs.declared.frame.Frame.{Frame}
use Rattle.decoder.specs.Memory.{Held, held, unlike}
use Rattle.decoder.specs.Standing.{Standing}

-- the most rounds that a limit allows
abbrev pub most_limit : ℕ
most_limit = 1000

-- odd, from −31 to 31
abbrev pub level_fits : ℤ → Bool
level_fits y = nat_le (unsigned_abs y) most_level && unsigned_abs y % 2 == 1

-- the least index of one that does not fit
abbrev pub first_bad_level : List ℤ → Option ℕ
first_bad_level ys = position (λ y. not (level_fits y)) ys

abbrev pub level_fault : Option ℕ → Option Fault → Option Fault
level_fault None next = next
level_fault (Some i) next = Some (LevelRange i)

abbrev pub weight_fault : ℕ → Option Fault → Option Fault
weight_fault w next = cond (nat_le 1 w && nat_le w most_weight) next (Some WeightRange)

abbrev pub limit_fault : ℕ → Option Fault
limit_fault limit = cond (nat_le limit most_limit) None (Some LimitRange)

-- the first fault of an opening: sizes of levels, records and signs for the code, and then levels, weight and limit
abbrev pub open_fault : Answers → List ℤ → ℕ → ℕ → ℕ → ℕ → Option Fault
open_fault a ys w limit records signs = unlike (length ys) a.bits (unlike records a.bits (unlike signs a.checks (level_fault (first_bad_level ys) (weight_fault w (limit_fault limit)))))

-- ---- what is then held
abbrev pub opened_frame : Answers → ℕ → ℕ → ℤ → Frame
opened_frame a w limit e = record { bits = a.bits; checks = a.checks; weight = w; limit = limit; rounds = 0; objective = e; opening = e }

abbrev pub opened_with : {S : Type 0} → RuleMeaning S → Answers → ℕ → ℕ → Whole → Held S
opened_with m a w limit h = held (opened_frame a w limit h.objective) h.records h.signs m.first

abbrev pub opened_in : {S : Type 0} → RuleMeaning S → Answers → List ℤ → ℕ → ℕ → List Bit → List Sign → Held S
opened_in m a ys w limit rs ss = opened_with m a w limit (filled a w ys rs ss)

-- ---- and that it stands for the plain opening, with these levels and this weight and limit
abbrev pub OpenedExactly : {S : Type 0} → Answers → RuleMeaning S → List ℤ → ℕ → ℕ → Held S → Type 0
OpenedExactly {S} a m ys w limit h = (f : PlainFrame S) → f.rule ≡ m → f.limit ≡ limit → Lawful a f.setting.code → ((c : ℕ) → c < f.setting.code.checks → f.setting.weight c ≡ w) → ((k : ℕ) → k < f.setting.code.bits → f.setting.level k ≡ slice_index_or ys k (pos 0)) → Standing a f (opened f) h
