-- That samples and their image under a codeword come to the same. Assumes nothing.
use Rattle.std.specs.Prelude.{◌≡◌, ℕ, Bool, List, length, ℤ, Ok, Err, Result, Float}
use Rattle.faults.specs.declared.Fault.{Fault}
use Rattle.faults.specs.declared.Fault.TheVariants.{NoMemory}
use Rattle.faults.specs.Rows.{row_of}
use Rattle.codes.specs.Lawful.{Lawful}
use Rattle.codes.specs.Pairs.{Pairs, Codeword}
use Rattle.rules.specs.Meaning.{RuleMeaning, Alike}
use Rattle.decoder.specs.declared.replaying.Replayed.{Replayed}
use Rattle.decoder.specs.Images.{Negated, Images-alike}
use Rattle.decoder.specs.Memory.{held}
use Rattle.decoder.specs.Replays.{answers_of_replay, Given, Lent}

-- not for want of memory
abbrev pub Lasting : Result Replayed Fault → Type 0
Lasting r = r ≡ Err NoMemory → ⊥

-- memory of the same sizes
pub record SameSizes {S T : Type 0} (l : Lent S) (l' : Lent T) : Type 0 where
  pub levels : length l'.levels ≡ length l.levels
  pub records : length l'.records ≡ length l.records
  pub signs : length l'.signs ≡ length l.signs

-- refused with the same letter, number and place; or performed with the same answers, but that packed digits differ exactly at the ones
abbrev pub SameOutcome : {S T : Type 0} → (ℕ → Bool) → Pairs → Lent S → Lent T → Result Replayed Fault → Result Replayed Fault → Type 0
SameOutcome z p l l' (Ok d) (Ok d') = Images-alike z p (answers_of_replay d) (held d.frame l.records l.signs l.rule) (answers_of_replay d') (held d'.frame l'.records l'.signs l'.rule)
SameOutcome z p l l' (Ok d) (Err e) = ⊥
SameOutcome z p l l' (Err e) (Ok d) = ⊥
SameOutcome z p l l' (Err e) (Err e') = row_of e' ≡ row_of e

-- so it is wherever the second samples are the first, negated exactly at the ones of a codeword, none of them zero; rules are alike and sources equal; and memory has the same sizes
abbrev pub CodewordSymmetry : {S T : Type 0} → Given → RuleMeaning S → RuleMeaning T → (ℕ → ℕ → ℤ) → (ℕ → ℕ → ℤ) → List Float → List Float → Lent S → Lent T → Lent S → Lent T → Result Replayed Fault → Result Replayed Fault → Type 0
CodewordSymmetry t m o noise noise' xs ys before before' after after' r r' = (p : Pairs) (z : ℕ → Bool) → Lawful t.code p → Codeword p z → Negated z xs ys → Alike m o → noise' ≡ noise → SameSizes before before' → SameOutcome z p after after' r r'
