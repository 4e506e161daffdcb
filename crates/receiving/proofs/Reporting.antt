-- That a decode, a weighing and a reading answer as the plain machine does.
use Rattle.std.proofs.Common.{◌≡◌, ℕ, List, [], ◌∷◌, ℤ, sym, refl, ap, ◌∙◌, arith}
use Rattle.faults.specs.declared.Fault.{Fault}
use Rattle.codes.specs.Answers.{Answers}
use Rattle.codes.specs.Lawful.{Lawful}
use Rattle.seven.specs.Seven.{seven_pairs}
use Rattle.noise.specs.Lawfuls.{silence_lawful}
use Rattle.noise.specs.Sources.{silence, Lawful as LawfulNoise}
use Rattle.rules.specs.declared.mode.Mode.{Mode}
use Rattle.rules.specs.Meaning.{RuleMeaning}
use Rattle.plain.specs.declared.call.Answer.{Answer}
use Rattle.plain.specs.declared.call.Answer.TheVariants.{Refused}
use Rattle.plain.specs.declared.call.Call.TheVariants.{Decode}
use Rattle.plain.specs.Machine.{Frame as PlainFrame, State, opened, step, answers_of}
use Rattle.decoder.specs.Memory.{Held, Reply, reply, step_in, weighed_in, read_in}
use Rattle.decoder.specs.Openings.{open_fault, OpenedExactly}
use Rattle.decoder.specs.Standing.{Standing, Replies, Weighs, Reads, StepsExactly, WeighsExactly, ReadsExactly}
use Rattle.decoder.proofs.Stepping.{run_exact}
use Rattle.receiving.specs.Frames.{levels_fault, calls, frame_with, answers_with}

-- an opening of the code refuses the levels alone
pub fault_same : (a : Answers) (ys : List ℤ) → Lawful a seven_pairs → open_fault a ys 1 10 7 3 ≡ levels_fault ys
fault_same a ys l = rw (l.bits, l.checks)

module _ {S : Type 0} (a : Answers) (m : RuleMeaning S) (noise : ℕ → ℕ → ℤ) (f : PlainFrame S) (rule : f.rule ≡ m) (source : f.noise ≡ noise) (h : Held S) (St : Standing a f (opened f) h) where
  answers_are : LawfulNoise noise → (x w b : Answer (List ℕ)) (h' : Held S) → reply x h' ≡ step_in m noise a Decode h → w ≡ weighed_in 0 h'.core.frame h'.core.records → b ≡ read_in 1 h'.core.frame h'.core.records → x ∷ w ∷ b ∷ [] ≡ answers_of f calls (opened f)
  answers_are law x w b h' decodes weighs reads =
      let first : x ≡ (step_in m noise a Decode h).answer = ap (λ (r : Reply S). r.answer) decodes in
      let after : h' ≡ (step_in m noise a Decode h).held = ap (λ (r : Reply S). r.held) decodes in
      ap (λ (y : Answer (List ℕ)). y ∷ w ∷ b ∷ []) first
      ∙ ap (λ (y : Answer (List ℕ)). (step_in m noise a Decode h).answer ∷ y ∷ b ∷ []) weighs
      ∙ ap (λ (y : Answer (List ℕ)). (step_in m noise a Decode h).answer ∷ weighed_in 0 h'.core.frame h'.core.records ∷ y ∷ []) reads
      ∙ ap (λ (k : Held S). (step_in m noise a Decode h).answer ∷ weighed_in 0 k.core.frame k.core.records ∷ read_in 1 k.core.frame k.core.records ∷ []) after
      ∙ (run_exact a m noise law calls f (opened f) h rule source St).0

  module _ (bits : f.setting.code.bits ≡ 7) (x : Answer (List ℕ)) (h' : Held S) (decodes : StepsExactly a m noise Decode h (reply x h')) (e : Fault) where
    after : Replies a f (step f Decode (opened f)) (reply x h')
    after = decodes f (opened f) rule source St

    weighs : WeighsExactly 0 h'.core.frame h'.core.records (Refused e) → ⊥
    weighs exact =
        let p : State S = (step f Decode (opened f)).state in
        let w : Weighs f.setting p.digits 0 (Refused e) = exact a f.setting f.limit p.rounds p.digits h'.core.signs after.stands.core in
        let same = w.computed (omega arith) in
        let z : ◌≡◌ {A = ℕ} 0 1 = cc in
        omega arith

    reads : ReadsExactly 1 h'.core.frame h'.core.records (Refused e) → ⊥
    reads exact =
        let p : State S = (step f Decode (opened f)).state in
        let r : Reads f.setting p.digits 1 (Refused e) = exact a f.setting f.limit p.rounds p.digits h'.core.signs after.stands.core in
        let same = r.whole (rw bits) in
        let z : ◌≡◌ {A = ℕ} 0 1 = cc in
        omega arith

-- ---- the same of a frame of the seven-bit code
module _ (a : Answers) (lawful : Lawful a seven_pairs) (m n : RuleMeaning Mode) (same : n ≡ m) (ys : List ℤ) (h : Held Mode) (opens : OpenedExactly a m ys 1 10 h) where
  stands : Standing a (frame_with m ys) (opened (frame_with m ys)) h
  stands = opens (frame_with m ys) refl refl lawful (λ c l. refl) (λ k l. refl)

  pub answered : (x w b : Answer (List ℕ)) (h' : Held Mode) → reply x h' ≡ step_in n silence a Decode h → w ≡ weighed_in 0 h'.core.frame h'.core.records → b ≡ read_in 1 h'.core.frame h'.core.records → x ∷ w ∷ b ∷ [] ≡ answers_with m ys
  unfolding answers_with
  answered = answers_are a n silence (frame_with m ys) (sym same) refl h stands silence_lawful

  pub not_weighed : (x : Answer (List ℕ)) (h' : Held Mode) → StepsExactly a n silence Decode h (reply x h') → (e : Fault) → WeighsExactly 0 h'.core.frame h'.core.records (Refused e) → ⊥
  not_weighed = weighs a n silence (frame_with m ys) (sym same) refl h stands refl

  pub not_read : (x : Answer (List ℕ)) (h' : Held Mode) → StepsExactly a n silence Decode h (reply x h') → (e : Fault) → ReadsExactly 1 h'.core.frame h'.core.records (Refused e) → ⊥
  not_read = reads a n silence (frame_with m ys) (sym same) refl h stands refl
