-- Samples and their image under a codeword, and the outcomes of both. Assumes nothing.
use Rattle.std.specs.Prelude.{◌≡◌, ℕ, ◌<◌, Bool, true, false, List, length, get_or, slice_index_or, Float}
use Rattle.std.specs.Float.{nan}
use Rattle.std.specs.Float.Ieee.{neg, eq}
use Rattle.codes.specs.Pairs.{Pairs}
use Rattle.quantiser.specs.Limits.{plus_zero}
use Rattle.plain.specs.declared.call.Answer.{Answer}
use Rattle.plain.specs.Mirror.{turned_at}
use Rattle.plain.specs.Symmetry.{AllSameBut}
use Rattle.engine.specs.Turns.{blank}
use Rattle.decoder.specs.Memory.{Held}

-- the second samples are the first, negated exactly at the ones of z, where none is zero
pub record Negated (z : ℕ → Bool) (xs ys : List Float) : Type 0 where
  pub count : length ys ≡ length xs
  pub ones : (k : ℕ) → k < length xs → z k ≡ true → (slice_index_or ys k nan ≡ neg (slice_index_or xs k nan)) × (eq (slice_index_or xs k nan) plus_zero ≡ false)
  pub zeros : (k : ℕ) → k < length xs → z k ≡ false → slice_index_or ys k nan ≡ slice_index_or xs k nan

-- the same answers, but that packed digits differ exactly at the ones; the same numbers, signs and scores; and digits that differ exactly at the ones
pub record Images-alike {S T : Type 0} (z : ℕ → Bool) (p : Pairs) (answers : List (Answer (List ℕ))) (h : Held S) (answers' : List (Answer (List ℕ))) (h' : Held T) : Type 0 where
  pub answered : AllSameBut z p.bits answers answers'
  pub frames : h'.core.frame ≡ h.core.frame
  pub signs : h'.core.signs ≡ h.core.signs
  pub scores : (k : ℕ) → k < p.bits → (get_or h'.core.records k blank).score ≡ (get_or h.core.records k blank).score
  pub digits : (k : ℕ) → k < p.bits → (get_or h'.core.records k blank).digit ≡ turned_at z (λ i. (get_or h.core.records i blank).digit) k
