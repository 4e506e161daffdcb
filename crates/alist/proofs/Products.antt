-- A product that was made of lawful codes is lawful.
use Rattle.std.proofs.Common.{IfOk, Ok, Err, Result, MatchResult}
use Rattle.codes.specs.Answers.{Answers}
use Rattle.codes.specs.Cross.{product_pairs, MadeProduct}
use Rattle.codes.specs.Lawful.{Lawful}
use Rattle.codes.specs.Pairs.{Pairs}

pub lawful_product : {X E : Type 0} (r : Result X E) (f : X → Answers) (a b : Answers) (pa pb : Pairs) (Q : E → Type 0) → MatchResult r (λ p. MadeProduct a b (f p)) Q → Lawful a pa → Lawful b pb → IfOk r (λ p. Lawful (f p) (product_pairs pa pb))
lawful_product (Ok p) f a b pa pb Q h la lb = h.lawful pa pb la lb
lawful_product (Err e) f a b pa pb Q h la lb = tt
