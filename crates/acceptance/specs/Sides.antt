-- What the two frames of a trial are to each other, and what both come to. Assumes nothing.
use Rattle.std.specs.Prelude.{◌≡◌, map, Ok, Err, vec_items, Result}
use Rattle.std.specs.List.{range_with_len}
use Rattle.faults.specs.declared.Fault.{Fault}
use Rattle.faults.specs.Rows.{row_of}
use Rattle.codes.specs.Lawful.{Lawful}
use Rattle.circulant.specs.Means.{circulant_of}
use Rattle.plain.specs.Symmetry.{AllSameBut}
use Rattle.decoder.specs.declared.replaying.Replayed.{Replayed}
use Rattle.decoder.specs.Images.{Negated}
use Rattle.decoder.specs.Replays.{answers_of_replay}
use Rattle.acceptance.specs.declared.given.Given.{Given}
use Rattle.acceptance.specs.Frames.{pairs, is_one}

-- a lawful code of the pairs, the word of the ones, and samples that are negated exactly there
pub record Imaged (g : Given) : Type 0 where
  pub code : Lawful (circulant_of g.code) pairs
  pub word : vec_items g.word ≡ map is_one (range_with_len 0 384)
  pub samples : Negated is_one (vec_items g.samples) (vec_items g.other_samples)

-- refused with the same letter, number and place; or performed with the same answers, but that packed digits differ exactly at the ones
abbrev pub SameSides : Result Replayed Fault → Result Replayed Fault → Type 0
SameSides (Ok d) (Ok d') = AllSameBut is_one 384 (answers_of_replay d) (answers_of_replay d')
SameSides (Ok d) (Err e) = ⊥
SameSides (Err e) (Ok d) = ⊥
SameSides (Err e) (Err e') = row_of e' ≡ row_of e
