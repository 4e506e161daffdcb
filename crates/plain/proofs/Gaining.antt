-- The gain of a run.
use Rattle.std.proofs.Common.{◌≡◌, ℕ, zero, suc, ◌<◌, ◌≤◌, Bool, pos, ◌-ℤ◌, ◌*ℤ◌, arith}
use Rattle.std.proofs.lemmas.Int.{ints}
use Rattle.plain.specs.Laws.{sum_of, GainLaw}
use Rattle.plain.specs.Machine.{Frame, State, opened, flip, flip_set, picks, round_made}
use Rattle.plain.specs.Scores.{objective_of, open_digit}
use Rattle.plain.proofs.FlipLaw.{flip_law}
use Rattle.plain.proofs.Keeping.{either, Keeps, run_keeps}

module _ {S : Type 0} (f : Frame S) where
  abbrev Gained : State S → Type 0
  Gained s = objective_of f.setting s.digits ≡ objective_of f.setting (open_digit f.setting) -ℤ pos 2 *ℤ sum_of s.flips

  gained_flip : (k : ℕ) (s : State S) → k < f.setting.code.bits → Gained s → Gained (flip f k s)
  gained_flip k s h g =
      let t = (flip_law f.setting s.digits k h).objective in
      omega (arith, ints, t, g)

  gained_set : (set : ℕ → Bool) (n : ℕ) (s : State S) → n ≤ f.setting.code.bits → Gained s → Gained (flip_set f set n s)
  gained_set set zero s h g = g
  gained_set set (suc n) s h g =
      let r = gained_set set n s (omega arith) g in
      either Gained (set n) _ _ (λ e. gained_flip n (flip_set f set n s) (omega arith) r) (λ e. r)

  gained_round : (s : State S) → Gained s → Gained (round_made f s)
  gained_round s g = gained_set (picks f s) f.setting.code.bits s (omega arith) g

  gained_kept : Keeps f Gained
  gained_kept = record { at_flip = gained_flip; at_round = λ s e g. gained_round s g }

pub gain_law : (S : Type 0) → GainLaw S
gain_law S f cs =
    let g = run_keeps f (Gained f) (gained_kept f) cs (opened f) (omega (arith, ints)) in
    omega (arith, ints, g)
