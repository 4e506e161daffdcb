-- What `find` gives of a range, as the first number that passes a test.
use Rattle.std.proofs.Common.{◌≡◌, ℕ, ◌<◌, ◌≤◌, Bool, true, false, List, Option, Some, None, sym, arith}
use Rattle.std.specs.Bool.{⊤}
use Rattle.std.specs.Fn.{CalledAt}
use Rattle.std.specs.Iterator.{YieldsThen}
use Rattle.std.specs.List.{FoldsTo}
use Rattle.std.specs.Option.{MatchOption}
use Rattle.std.specs.declared.ops.Range.{Range}
use Rattle.std.proofs.iter.Yields.{nat_range_steps}
use Rattle.std.proofs.lemmas.Iterator.{first_from_Range}
use Rattle.faults.specs.First.{first}
use Rattle.faults.proofs.Firsts.{first_all, first_found}
use denote.Param.Members.{Mut}
use denote.Ref.{Bor}

pub first_from_find : {F : Type 0} {g : Mut F (Bor ℕ × Unit {0}) Bool} (test : ℕ → Bool) (n : ℕ) (u : Range ℕ) (f : F) (r : Option ℕ) → (xs : List ℕ) × (j : F) × YieldsThen nat_range_steps (record { start = 0; end = n }) xs r u × FoldsTo (λ p x q. CalledAt g p x false q) f xs j × MatchOption r ⊤ (λ x. (h : F) × CalledAt g j x true h) → ((x : ℕ) (b : Bool) (q : F) → CalledAt g f x b q → (q ≡ f) × (b ≡ test x)) → r ≡ first test n
first_from_find {F} {g} test n u f r ran calls = by r (first_from_Range (record { start = 0; end = n }) u f r (λ x. test x ≡ true) (λ x. test x ≡ false) ran (λ x q k. sym (calls x true q k).1) (λ x q k. let c = calls x false q k in (c.0, sym c.1)))
  where
    by : (r : Option ℕ) → MatchOption r ((k : ℕ) → 0 ≤ k → k < n → test k ≡ false) (λ i. (0 ≤ i) × (i < n) × (test i ≡ true) × ((k : ℕ) → 0 ≤ k → k < i → test k ≡ false)) → r ≡ first test n
    by None h = sym (first_all test n (λ k l. h k (omega arith) l))
    by (Some i) h = sym (first_found test i n (first_all test i (λ k l. h.3 k (omega arith) l)) h.2 h.1)
