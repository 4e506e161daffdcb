-- Codeword symmetry.
use Rattle.std.proofs.Common.{◌≡◌, ℕ, zero, suc, ◌<◌, Bool, true, false, cond, not, ◌&&◌, eqb, ℤ, pos, negsuc, ◌+ℤ◌, ◌*ℤ◌, neg_ℤ, sym, refl, ap, ◌∙◌, arith}
use mathlib.Core.Path.{fun_ext}
use lib.Signed.{lt_z}
use Rattle.std.proofs.lemmas.Int.{ints}
use Rattle.codes.specs.Pairs.{Pairs, Codeword}
use Rattle.plain.specs.Scores.{Setting, sum_below, sign_of, own_of, voice_of}
use Rattle.plain.specs.Mirror.{turned_at, mirrored, MirrorLaw, OpeningsMirror}
use Rattle.plain.proofs.Sums.{sum_ext}
use Rattle.plain.proofs.Even.{flip_if, value_of, even_below, met_of, signed, sign_met, even_met, unit_times}

-- parity of an exclusive or
flips_add : (z d e f : Bool) → flip_if (cond z (not d) d) (flip_if (not e) f) ≡ flip_if (not (flip_if z e)) (flip_if d f)
flips_add true true true true = refl
flips_add true true true false = refl
flips_add true true false f = refl
flips_add true false true f = refl
flips_add true false false true = refl
flips_add true false false false = refl
flips_add false true true f = refl
flips_add false true false f = refl
flips_add false false e f = refl

step_add : (h z d e f : Bool) → flip_if (h && cond z (not d) d) (flip_if (not e) f) ≡ flip_if (not (flip_if (h && z) e)) (flip_if (h && d) f)
step_add true z d e f = flips_add z d e f
step_add false z d e f = refl

even_add : (n : ℕ) (h z d : ℕ → Bool) → even_below n (λ k. h k && turned_at z d k) ≡ flip_if (not (even_below n (λ k. h k && z k))) (even_below n (λ k. h k && d k))
even_add zero h z d = refl
even_add (suc n) h z d = ap (flip_if (h n && turned_at z d n)) (even_add n h z d) ∙ step_add (h n) (z n) (d n) (even_below n (λ k. h k && z k)) (even_below n (λ k. h k && d k))

sign_mirror : (p : Pairs) (z d : ℕ → Bool) → Codeword p z → (c : ℕ) → c < p.checks → sign_of p (turned_at z d) c ≡ sign_of p d c
sign_mirror p z d word c l =
    let even : met_of p z c ≡ true = even_met p.bits (λ b. p.holds c b && z b) (word c l) in
    let same : met_of p (turned_at z d) c ≡ met_of p d c = even_add p.bits (p.holds c) z d ∙ ap (λ e. flip_if (not e) (met_of p d c)) even in
    sign_met p (turned_at z d) c ∙ ap value_of same ∙ sym (sign_met p d c)

signed_twice : (z d : Bool) (y : ℤ) → signed (not (cond z (not d) d)) (cond z (neg_ℤ y) y) ≡ signed (not d) y
signed_twice true true y = omega (arith, ints)
signed_twice true false y = omega (arith, ints)
signed_twice false d y = refl

own_mirror : (s : Setting) (z d : ℕ → Bool) (k : ℕ) → own_of (mirrored z s) (turned_at z d) k ≡ own_of s d k
own_mirror s z d k = unit_times (turned_at z d k) ((mirrored z s).level k) ∙ signed_twice (z k) (d k) (s.level k) ∙ sym (unit_times (d k) (s.level k))

voice_mirror : (s : Setting) (z d : ℕ → Bool) → Codeword s.code z → (c : ℕ) → c < s.code.checks → voice_of (mirrored z s) (turned_at z d) c ≡ voice_of s d c
voice_mirror s z d word c l = ap (λ v. pos (s.weight c) *ℤ v) (sign_mirror s.code z d word c l)

cond_swap : (t z d : Bool) → cond t (not (cond z (not d) d)) (cond z (not d) d) ≡ cond z (not (cond t (not d) d)) (cond t (not d) d)
cond_swap true true d = refl
cond_swap true false d = refl
cond_swap false z d = refl

pub mirror_law : MirrorLaw
mirror_law s z d word =
    let m = s.code.checks in
    record {
      signs = sign_mirror s.code z d word;
      scores = λ k.
          ap (λ v. v +ℤ sum_below m (λ c. cond (s.code.holds c k) (voice_of (mirrored z s) (turned_at z d) c) (pos 0))) (own_mirror s z d k)
          ∙ ap (λ v. own_of s d k +ℤ v) (sum_ext m (λ c. cond (s.code.holds c k) (voice_of (mirrored z s) (turned_at z d) c) (pos 0)) (λ c. cond (s.code.holds c k) (voice_of s d c) (pos 0)) (λ c l. ap (λ v. cond (s.code.holds c k) v (pos 0)) (voice_mirror s z d word c l)));
      objective =
          ap (λ v. v +ℤ sum_below m (voice_of (mirrored z s) (turned_at z d))) (sum_ext s.code.bits (own_of (mirrored z s) (turned_at z d)) (own_of s d) (λ k l. own_mirror s z d k))
          ∙ ap (λ v. sum_below s.code.bits (own_of s d) +ℤ v) (sum_ext m (voice_of (mirrored z s) (turned_at z d)) (voice_of s d) (voice_mirror s z d word));
      flips = λ k. fun_ext (λ i. cond_swap (eqb i k) (z i) (d i));
    }

-- the sign of a level that is not 0, and of its negation
pub sign_turned : (z : Bool) (y : ℤ) → (y ≡ pos 0 → ⊥) → lt_z (cond z (neg_ℤ y) y) (pos 0) ≡ cond z (not (lt_z y (pos 0))) (lt_z y (pos 0))
sign_turned false y ne = refl
sign_turned true (pos zero) ne = absurd (ne refl)
sign_turned true (pos (suc n)) ne = grind (arith, ints)
sign_turned true (negsuc n) ne = grind (arith, ints)

pub openings_mirror : OpeningsMirror
openings_mirror s z k ne = sign_turned (z k) (s.level k) ne
