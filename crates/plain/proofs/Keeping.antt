-- What flips and rounds keep holds after every run.
use Rattle.std.proofs.Common.{◌≡◌, ℕ, zero, suc, ◌<◌, Bool, true, false, cond, eqb, ltb, List, [], ◌∷◌, refl}
use Rattle.std.proofs.lemmas.Bool.{ltb-true}
use Rattle.plain.specs.declared.call.Call.{Call}
use Rattle.plain.specs.declared.call.Call.TheVariants.{Round, Decode, Toggle, Weigh, Unmet, Read}
use Rattle.plain.specs.Machine.{Frame, State, flip, round_made, stops, decoded, bytes_for, Step, step, state_after}

-- what holds both ways holds of either
pub either : {A : Type 0} (P : A → Type 0) (b : Bool) (x y : A) → (b ≡ true → P x) → (b ≡ false → P y) → P (cond b x y)
either P true x y p q = p refl
either P false x y p q = q refl

pub record Keeps {S : Type 0} (f : Frame S) (P : State S → Type 0) : Type 0 where
  pub at_flip : (k : ℕ) (s : State S) → k < f.setting.code.bits → P s → P (flip f k s)
  pub at_round : (s : State S) → stops f s ≡ false → P s → P (round_made f s)

module _ {S : Type 0} (f : Frame S) (P : State S → Type 0) (keeps : Keeps f P) where
  pub decode_keeps : (n : ℕ) (s : State S) → P s → P (decoded f n s)
  decode_keeps zero s p = p
  decode_keeps (suc n) s p = either P (stops f s) _ _ (λ e. p) (λ e. decode_keeps n (round_made f s) (keeps.at_round s e p))

  step_keeps : (c : Call) (s : State S) → P s → P (step f c s).state
  step_keeps Round s p = either (λ (x : Step S). P x.state) (stops f s) _ _ (λ e. p) (λ e. keeps.at_round s e p)
  step_keeps Decode s p = decode_keeps f.limit s p
  step_keeps (Toggle k) s p = either (λ (x : Step S). P x.state) (ltb k f.setting.code.bits) _ _ (λ e. keeps.at_flip k s (ltb-true k f.setting.code.bits e) p) (λ e. p)
  step_keeps (Weigh k) s p = either (λ (x : Step S). P x.state) (ltb k f.setting.code.bits) _ _ (λ e. p) (λ e. p)
  step_keeps Unmet s p = p
  step_keeps (Read n) s p = either (λ (x : Step S). P x.state) (eqb n (bytes_for f.setting.code.bits)) _ _ (λ e. p) (λ e. p)

  pub run_keeps : (cs : List Call) (s : State S) → P s → P (state_after f cs s)
  run_keeps [] s p = p
  run_keeps (c ∷ cs) s p = run_keeps cs (step f c s).state (step_keeps c s p)
