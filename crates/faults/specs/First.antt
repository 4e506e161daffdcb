-- The least number that passes a test, and the first of several faults. Assumes nothing.
use Rattle.std.specs.Prelude.{ℕ, zero, suc, Bool, cond, Some, None, Option}
use Rattle.faults.specs.Rows.{Row}

-- the first that is there
abbrev pub or_else : Option ℕ → Option ℕ → Option ℕ
or_else None o = o
or_else (Some i) o = Some i

-- the least number below n that passes the test
abbrev pub first : (ℕ → Bool) → ℕ → Option ℕ
first test zero = None
first test (suc n) = or_else (first test n) (cond (test n) (Some n) None)

-- the fault at the place that was found, or else the next
abbrev pub fault_at : (ℕ → Row) → Option ℕ → Option Row → Option Row
fault_at f None next = next
fault_at f (Some i) next = Some (f i)

-- the first of two faults that is there
abbrev pub or_fault : Option Row → Option Row → Option Row
or_fault None next = next
or_fault (Some r) next = Some r
