-- That both sides of a trial come to the same.
use Rattle.std.proofs.Common.{◌≡◌, ℕ, Bool, List, map, length, ℤ, Some, None, Ok, Err, Option, Result, sym, ap, ◌∙◌, subst, ⊎_elim}
use lib.Ieee.{Float}
use Rattle.faults.specs.declared.Fault.{Fault}
use Rattle.faults.specs.Rows.{row_of}
use Rattle.codes.specs.Answers.{Answers}
use Rattle.codes.specs.Lawful.{Lawful}
use Rattle.codes.specs.Pairs.{Pairs, Codeword}
use Rattle.codes.proofs.Absent.{none_some, same_some}
use Rattle.noise.specs.Sources.{Lawful as LawfulNoise}
use Rattle.rules.specs.Meaning.{RuleMeaning, Alike}
use Rattle.quantiser.specs.declared.Quantiser.{Quantiser}
use Rattle.quantiser.specs.Levels.{level_of}
use Rattle.quantiser.specs.Runs.{quantise_fault}
use Rattle.plain.specs.declared.call.Answer.{Answer}
use Rattle.plain.specs.declared.call.Call.{Call}
use Rattle.decoder.specs.declared.replaying.Replayed.{Replayed}
use Rattle.decoder.specs.Images.{Negated, Images-alike}
use Rattle.decoder.specs.Memory.{Held, held, answers_in, held_after}
use Rattle.decoder.specs.Openings.{open_fault}
use Rattle.decoder.specs.Replays.{answers_of_replay, Given, Lent, opening_fault, opening_of, Replays, SamplesRefused, OpeningRefused, NoRoom, Outcome}
use Rattle.decoder.specs.Trials.{Lasting, SameSizes, SameOutcome, CodewordSymmetry}
use Rattle.decoder.proofs.Imaged.{quantise_alike, open_alike, runs_alike}

abbrev pub terms_of : Quantiser → Answers → ℕ → ℕ → List Call → Given
terms_of q a w limit cs = record { code = a; shape = q.shape; weight = w; limit = limit; calls = cs }

module _ {S T : Type 0} (q : Quantiser) (a : Answers) (w limit : ℕ) (cs : List Call) (m : RuleMeaning S) (o : RuleMeaning T) (noise : ℕ → ℕ → ℤ) (law : LawfulNoise noise) (xs ys : List Float) (before after : Lent S) (before' after' : Lent T) (p : Pairs) (z : ℕ → Bool) (lawful : Lawful a p) (word : Codeword p z) (negated : Negated z xs ys) (alike : Alike m o) (sizes : SameSizes before before') where
  -- ---- both are refused alike
  samples_alike : quantise_fault ys (length before'.levels) ≡ quantise_fault xs (length before.levels)
  samples_alike = ap (quantise_fault ys) sizes.levels ∙ quantise_alike z xs ys (length before.levels) negated

  openings_alike : quantise_fault xs (length before.levels) ≡ None → opening_fault (terms_of q a w limit cs) ys before' ≡ opening_fault (terms_of q a w limit cs) xs before
  openings_alike ok =
      ap (λ (n : ℕ). open_fault a (map (level_of q.shape) ys) w limit n (length before'.signs)) sizes.records
      ∙ ap (open_fault a (map (level_of q.shape) ys) w limit (length before.records)) sizes.signs
      ∙ open_alike q z xs ys (length before.levels) ok negated a w limit (length before.records) (length before.signs)

  -- ---- both performed
  both_ran : (d d' : Replayed) → Replays (terms_of q a w limit cs) m noise xs before after d → Replays (terms_of q a w limit cs) o noise ys before' after' d' → SameOutcome z p after after' (Ok d) (Ok d')
  both_ran d d' r r' =
      let same = runs_alike q z xs ys (length before.levels) r.quantised negated a p lawful word m o alike noise law w limit before.records before'.records before.signs before'.signs r.allowed r'.allowed cs in
      let h = held_after m noise a cs (opening_of (terms_of q a w limit cs) m xs before) in
      let h' = held_after o noise a cs (opening_of (terms_of q a w limit cs) o ys before') in
      let end : h ≡ held d.frame after.records after.signs after.rule = sym r.performed.led in
      let end' : h' ≡ held d'.frame after'.records after'.signs after'.rule = sym r'.performed.led in
      let x = answers_in m noise a cs (opening_of (terms_of q a w limit cs) m xs before) in
      let x' = answers_in o noise a cs (opening_of (terms_of q a w limit cs) o ys before') in
      subst (λ (g : Held T). Images-alike z p (answers_of_replay d) (held d.frame after.records after.signs after.rule) (answers_of_replay d') g) end'
      (subst (λ (l : List (Answer (List ℕ))). Images-alike z p (answers_of_replay d) (held d.frame after.records after.signs after.rule) l h') (sym r'.performed.answered)
      (subst (λ (g : Held S). Images-alike z p (answers_of_replay d) g x' h') end
      (subst (λ (l : List (Answer (List ℕ))). Images-alike z p l h x' h') (sym r.performed.answered) same)))

  -- ---- by cases
  some_none : {A X : Type 0} (x : A) → ◌≡◌ {A = Option A} (Some x) None → X
  some_none x e = none_some x (sym e)

  first_ran : (d : Replayed) (e : Fault) → Replays (terms_of q a w limit cs) m noise xs before after d → Lasting (Err e) → Outcome (terms_of q a w limit cs) o noise ys before' after' (Err e) → ⊥
  first_ran d e r lasts out =
      ⊎_elim
      (λ (s : SamplesRefused ys before' after' e). some_none (row_of e) (sym s.fault ∙ samples_alike ∙ r.quantised))
      (λ rest.
      ⊎_elim
      (λ (s : OpeningRefused (terms_of q a w limit cs) ys before' after' e). some_none e (sym s.fault ∙ openings_alike r.quantised ∙ r.allowed))
      (λ (s : NoRoom (terms_of q a w limit cs) ys before' e). lasts (ap Err s.fault))
      rest)
      out

  second_ran : (d : Replayed) (e : Fault) → Replays (terms_of q a w limit cs) o noise ys before' after' d → Lasting (Err e) → Outcome (terms_of q a w limit cs) m noise xs before after (Err e) → ⊥
  second_ran d e r lasts out =
      let ok : quantise_fault xs (length before.levels) ≡ None = sym samples_alike ∙ r.quantised in
      ⊎_elim
      (λ (s : SamplesRefused xs before after e). some_none (row_of e) (sym s.fault ∙ ok))
      (λ rest.
      ⊎_elim
      (λ (s : OpeningRefused (terms_of q a w limit cs) xs before after e). some_none e (sym s.fault ∙ sym (openings_alike ok) ∙ r.allowed))
      (λ (s : NoRoom (terms_of q a w limit cs) xs before e). lasts (ap Err s.fault))
      rest)
      out

  -- the second of a side whose samples, or whose opening, are refused
  after_samples : (e e' : Fault) → SamplesRefused xs before after e → Lasting (Err e') → Outcome (terms_of q a w limit cs) o noise ys before' after' (Err e') → row_of e' ≡ row_of e
  after_samples e e' s lasts out =
      ⊎_elim
      (λ (s' : SamplesRefused ys before' after' e'). same_some (row_of e') (row_of e) (sym s'.fault ∙ samples_alike ∙ s.fault))
      (λ rest.
      ⊎_elim
      (λ (s' : OpeningRefused (terms_of q a w limit cs) ys before' after' e'). some_none (row_of e) (sym s.fault ∙ sym samples_alike ∙ s'.quantised))
      (λ (s' : NoRoom (terms_of q a w limit cs) ys before' e'). absurd (lasts (ap Err s'.fault)))
      rest)
      out

  after_opening : (e e' : Fault) → OpeningRefused (terms_of q a w limit cs) xs before after e → Lasting (Err e') → Outcome (terms_of q a w limit cs) o noise ys before' after' (Err e') → row_of e' ≡ row_of e
  after_opening e e' s lasts out =
      ⊎_elim
      (λ (s' : SamplesRefused ys before' after' e'). some_none (row_of e') (sym s'.fault ∙ samples_alike ∙ s.quantised))
      (λ rest.
      ⊎_elim
      (λ (s' : OpeningRefused (terms_of q a w limit cs) ys before' after' e'). ap row_of (same_some e' e (sym s'.fault ∙ openings_alike s.quantised ∙ s.fault)))
      (λ (s' : NoRoom (terms_of q a w limit cs) ys before' e'). absurd (lasts (ap Err s'.fault)))
      rest)
      out

  both_refused : (e e' : Fault) → Lasting (Err e) → Lasting (Err e') → Outcome (terms_of q a w limit cs) m noise xs before after (Err e) → Outcome (terms_of q a w limit cs) o noise ys before' after' (Err e') → row_of e' ≡ row_of e
  both_refused e e' lasts lasts' out out' =
      ⊎_elim
      (λ (s : SamplesRefused xs before after e). after_samples e e' s lasts' out')
      (λ rest.
      ⊎_elim
      (λ (s : OpeningRefused (terms_of q a w limit cs) xs before after e). after_opening e e' s lasts' out')
      (λ (s : NoRoom (terms_of q a w limit cs) xs before e). absurd (lasts (ap Err s.fault)))
      rest)
      out

  outcomes_same : (r r' : Result Replayed Fault) → Lasting r → Lasting r' → Outcome (terms_of q a w limit cs) m noise xs before after r → Outcome (terms_of q a w limit cs) o noise ys before' after' r' → SameOutcome z p after after' r r'
  outcomes_same (Ok d) (Ok d') lasts lasts' out out' = both_ran d d' out out'
  outcomes_same (Ok d) (Err e) lasts lasts' out out' = first_ran d e out lasts' out'
  outcomes_same (Err e) (Ok d) lasts lasts' out out' = second_ran d e out' lasts out
  outcomes_same (Err e) (Err e') lasts lasts' out out' = both_refused e e' lasts lasts' out out'

pub trial_law : {S T : Type 0} (q : Quantiser) (a : Answers) (w limit : ℕ) (cs : List Call) (m : RuleMeaning S) (o : RuleMeaning T) (noise noise' : ℕ → ℕ → ℤ) → LawfulNoise noise → (xs ys : List Float) (before after : Lent S) (before' after' : Lent T) (r r' : Result Replayed Fault) → Lasting r → Lasting r' → Outcome (terms_of q a w limit cs) m noise xs before after r → Outcome (terms_of q a w limit cs) o noise' ys before' after' r' → CodewordSymmetry (terms_of q a w limit cs) m o noise noise' xs ys before before' after after' r r'
trial_law q a w limit cs m o noise noise' law xs ys before after before' after' r r' lasts lasts' out out' p z lawful word negated alike equal sizes =
    outcomes_same q a w limit cs m o noise law xs ys before after before' after' p z lawful word negated alike sizes r r' lasts lasts' out (subst (λ (n : ℕ → ℕ → ℤ). Outcome (terms_of q a w limit cs) o n ys before' after' r') equal out')
