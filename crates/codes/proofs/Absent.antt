-- What an answer that is there says.
use Rattle.std.proofs.Common.{◌≡◌, ℕ, Some, None, Option, arith}

pub none_some : {A X : Type 0} (x : A) → ◌≡◌ {A = Option A} None (Some x) → X
none_some x e = let z : ◌≡◌ {A = ℕ} 0 1 = cc in absurd (omega arith)

pub same_some : {A : Type 0} (x y : A) → ◌≡◌ {A = Option A} (Some x) (Some y) → x ≡ y
same_some x y e = cc
