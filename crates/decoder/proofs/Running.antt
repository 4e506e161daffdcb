-- A run of rounds, one after another.
use Rattle.std.proofs.Common.{◌≡◌, ℕ, zero, suc, ◌+◌, ◌<◌, ◌≤◌, Bool, true, false, cond, eqb, leb, List, ℤ, Some, None, Option, sym, refl, ap, ◌∙◌, arith}
use Rattle.std.proofs.lemmas.Bool.{leb-false}
use Rattle.codes.specs.Answers.{Answers}
use Rattle.codes.proofs.Absent.{none_some, same_some}
use Rattle.rules.specs.Meaning.{RuleMeaning}
use Rattle.plain.specs.declared.call.Answer.TheVariants.{Ended}
use Rattle.plain.specs.declared.call.Verdict.{Verdict}
use Rattle.plain.specs.declared.call.Verdict.TheVariants.{Decoded, Spent}
use Rattle.engine.specs.declared.bit.Sign.{Sign}
use Rattle.engine.specs.Packing.{unmet_signs}
use Rattle.decoder.specs.declared.frame.Frame.{Frame}
use Rattle.decoder.specs.Memory.{Held, reply, verdict_in, run_on, rounded, decoded_in, end_in, ended_at, ended_in}

-- ---- what a verdict tells
by_tests : (met late : Bool) (v : Verdict) → cond met (Some Decoded) (cond late (Some Spent) None) ≡ Some v → cond met Decoded Spent ≡ v
by_tests true late v e = same_some Decoded v e
by_tests false true v e = same_some Spent v e
by_tests false false v e = none_some v e

pub verdict_ends : (f : Frame) (ss : List Sign) (v : Verdict) → verdict_in f ss ≡ Some v → end_in ss ≡ v
verdict_ends f ss v e = by_tests (eqb (unmet_signs ss) 0) (leb f.limit f.rounds) v e

not_late : (met late : Bool) → cond met (Some Decoded) (cond late (Some Spent) None) ≡ None → late ≡ false
not_late true late e = none_some Decoded (sym e)
not_late false true e = none_some Spent (sym e)
not_late false false e = refl

pub verdict_goes_on : (f : Frame) (ss : List Sign) → verdict_in f ss ≡ None → f.rounds < f.limit
verdict_goes_on f ss e = leb-false f.limit f.rounds (not_late (eqb (unmet_signs ss) 0) (leb f.limit f.rounds) e)

-- ---- so many rounds more lead where the whole run leads
pub record Ongoing {S : Type 0} (m : RuleMeaning S) (noise : ℕ → ℕ → ℤ) (a : Answers) (start now : Held S) : Type 0 where
  pub left : ℕ
  pub enough : now.core.frame.limit ≤ left + now.core.frame.rounds
  pub leads : decoded_in m noise a start.core.frame.limit start ≡ decoded_in m noise a left now

module _ {S : Type 0} (m : RuleMeaning S) (noise : ℕ → ℕ → ℤ) (a : Answers) where
  pub begin : (start : Held S) → Ongoing m noise a start start
  begin start = record { left = start.core.frame.limit; enough = omega arith; leads = refl }

  pub one_more : (start now next : Held S) → Ongoing m noise a start now → verdict_in now.core.frame now.core.signs ≡ None → next ≡ rounded m noise a now → Ongoing m noise a start next
  one_more start now next o goes is = more o.left o.enough o.leads
    where
      more : (n : ℕ) → now.core.frame.limit ≤ n + now.core.frame.rounds → decoded_in m noise a start.core.frame.limit start ≡ decoded_in m noise a n now → Ongoing m noise a start next
      more zero enough leads = let h = verdict_goes_on now.core.frame now.core.signs goes in absurd (omega arith)
      more (suc n) enough leads =
          let limit : next.core.frame.limit ≡ now.core.frame.limit = ap (λ (h : Held S). h.core.frame.limit) is in
          let rounds : next.core.frame.rounds ≡ now.core.frame.rounds + 1 = ap (λ (h : Held S). h.core.frame.rounds) is in
          record {
            left = n;
            enough = omega arith;
            leads = leads ∙ ap (λ (v : Option Verdict). run_on v now (decoded_in m noise a n (rounded m noise a now))) goes ∙ ap (decoded_in m noise a n) (sym is);
          }

  stays : (n : ℕ) (now : Held S) (v : Verdict) → verdict_in now.core.frame now.core.signs ≡ Some v → decoded_in m noise a n now ≡ now
  stays zero now v e = refl
  stays (suc n) now v e = ap (λ (o : Option Verdict). run_on o now (decoded_in m noise a n (rounded m noise a now))) e

  pub ends : (start now : Held S) (v : Verdict) → Ongoing m noise a start now → verdict_in now.core.frame now.core.signs ≡ Some v → reply (Ended v now.core.frame.rounds) now ≡ ended_in m noise a start
  ends start now v o e =
      ap (λ (x : Verdict). reply (Ended x now.core.frame.rounds) now) (sym (verdict_ends now.core.frame now.core.signs v e))
      ∙ ap ended_at (sym (o.leads ∙ stays o.left now v e))
