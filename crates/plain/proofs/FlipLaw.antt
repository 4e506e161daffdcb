-- The plain law of a flip.
use Rattle.std.proofs.Common.{◌≡◌, ℕ, ◌<◌, Bool, true, false, cond, not, ◌&&◌, ℤ, pos, ◌+ℤ◌, ◌-ℤ◌, ◌*ℤ◌, neg_ℤ, sym, refl, ap, ◌∙◌, arith}
use Rattle.std.proofs.lemmas.Int.{ints}
use Rattle.plain.specs.Scores.{Setting, sum_below, voice_of, score_of}
use Rattle.plain.specs.Turning.{turn, FlipLaw}
use Rattle.plain.proofs.Sums.{sum_ext, sum_but, sum_negated, sum_twice, sum_plus}
use Rattle.plain.proofs.Even.{value_of, met_of, signed, sign_met, own, voice, heard, score_by, objective_by, voice_is, score_is, objective_is, turn_same, turn_other, met_held, met_free}

value_not : (e : Bool) → value_of (not e) ≡ neg_ℤ (value_of e)
value_not true = refl
value_not false = refl

pub signed_not : (e : Bool) (z : ℤ) → signed (not e) z ≡ neg_ℤ (signed e z)
signed_not true z = refl
signed_not false z = omega (arith, ints)

-- a check's part in its bit's score, negated with its sign
heard_own : (h e e' : Bool) (z : ℤ) → (h ≡ true → e' ≡ not e) → cond h (signed e' z) (pos 0) ≡ neg_ℤ (cond h (signed e z) (pos 0))
heard_own true e e' z on = ap (λ b. signed b z) (on refl) ∙ signed_not e z
heard_own false e e' z on = refl

-- and in another bit's score
heard_other : (h g e e' : Bool) (z : ℤ) → (h ≡ true → e' ≡ not e) → (h ≡ false → e' ≡ e) → cond g (signed e' z) (pos 0) ≡ cond g (signed e z) (pos 0) +ℤ cond (h && g) (pos 2 *ℤ signed e' z) (pos 0)
heard_other true true e e' z on off =
    let q : signed e' z ≡ neg_ℤ (signed e z) = ap (λ b. signed b z) (on refl) ∙ signed_not e z in
    omega (arith, ints)
heard_other true false e e' z on off = refl
heard_other false true e e' z on off =
    let q : signed e' z ≡ signed e z = ap (λ b. signed b z) (off refl) in
    omega (arith, ints)
heard_other false false e e' z on off = refl

-- and in the objective
heard_all : (h e e' : Bool) (z : ℤ) → (h ≡ true → e' ≡ not e) → (h ≡ false → e' ≡ e) → signed e z ≡ signed e' z +ℤ (cond h (signed e z) (pos 0) +ℤ cond h (signed e z) (pos 0))
heard_all true e e' z on off =
    let q : signed e' z ≡ neg_ℤ (signed e z) = ap (λ b. signed b z) (on refl) ∙ signed_not e z in
    omega (arith, ints)
heard_all false e e' z on off =
    let q : signed e' z ≡ signed e z = ap (λ b. signed b z) (off refl) in
    omega (arith, ints)

pub own_turned : (s : Setting) (d : ℕ → Bool) (k : ℕ) → own s (turn k d) k ≡ neg_ℤ (own s d k)
own_turned s d k = ap (λ b. signed (not b) (s.level k)) (turn_same k d) ∙ signed_not (not (d k)) (s.level k)

pub own_kept : (s : Setting) (d : ℕ → Bool) (k b : ℕ) → (b ≡ k → ⊥) → own s (turn k d) b ≡ own s d b
own_kept s d k b ne = ap (λ t. signed (not t) (s.level b)) (turn_other k b d ne)

pub score_turned : (s : Setting) (d : ℕ → Bool) (k : ℕ) → k < s.code.bits → score_by s (turn k d) (met_of s.code (turn k d)) k ≡ neg_ℤ (score_by s d (met_of s.code d) k)
score_turned s d k l =
    let o = own_turned s d k in
    let v = sum_negated s.code.checks (heard s (met_of s.code d) k) (heard s (met_of s.code (turn k d)) k)
    (λ c m. heard_own (s.code.holds c k) (met_of s.code d c) (met_of s.code (turn k d) c) (pos (s.weight c)) (met_held s.code d k c l)) in
    omega (arith, ints)

pub objective_turned : (s : Setting) (d : ℕ → Bool) (k : ℕ) → k < s.code.bits → objective_by s (turn k d) (met_of s.code (turn k d)) ≡ objective_by s d (met_of s.code d) -ℤ pos 2 *ℤ score_by s d (met_of s.code d) k
objective_turned s d k l =
    let o = own_turned s d k in
    let t = sum_but s.code.bits k (own s (turn k d)) (own s d) l (λ i m ne. own_kept s d k i ne) in
    let v = sum_twice s.code.checks (voice s (met_of s.code d)) (voice s (met_of s.code (turn k d))) (heard s (met_of s.code d) k)
    (λ c m. heard_all (s.code.holds c k) (met_of s.code d c) (met_of s.code (turn k d) c) (pos (s.weight c)) (met_held s.code d k c l) (met_free s.code d k c)) in
    omega (arith, ints)

others_turned : (s : Setting) (d : ℕ → Bool) (k b : ℕ) → k < s.code.bits → (b ≡ k → ⊥) → score_of s (turn k d) b ≡ score_of s d b +ℤ sum_below s.code.checks (λ c. cond (s.code.holds c k && s.code.holds c b) (pos 2 *ℤ voice_of s (turn k d) c) (pos 0))
others_turned s d k b l ne =
    let o = own_kept s d k b ne in
    let v = sum_plus s.code.checks (heard s (met_of s.code (turn k d)) b) (heard s (met_of s.code d) b) (λ c. cond (s.code.holds c k && s.code.holds c b) (pos 2 *ℤ voice s (met_of s.code (turn k d)) c) (pos 0))
    (λ c m. heard_other (s.code.holds c k) (s.code.holds c b) (met_of s.code d c) (met_of s.code (turn k d) c) (pos (s.weight c)) (met_held s.code d k c l) (met_free s.code d k c)) in
    let e = score_is s d b in
    let e' = score_is s (turn k d) b in
    let u = sum_ext s.code.checks (λ c. cond (s.code.holds c k && s.code.holds c b) (pos 2 *ℤ voice_of s (turn k d) c) (pos 0)) (λ c. cond (s.code.holds c k && s.code.holds c b) (pos 2 *ℤ voice s (met_of s.code (turn k d)) c) (pos 0))
    (λ c m. ap (λ z. cond (s.code.holds c k && s.code.holds c b) (pos 2 *ℤ z) (pos 0)) (voice_is s (turn k d) c)) in
    omega (arith, ints)

pub flip_law : FlipLaw
flip_law s d k l = record {
  held = λ c h. sign_met s.code (turn k d) c ∙ ap value_of (met_held s.code d k c l h) ∙ value_not (met_of s.code d c) ∙ sym (ap neg_ℤ (sign_met s.code d c));
  free = λ c h. sign_met s.code (turn k d) c ∙ ap value_of (met_free s.code d k c h) ∙ sym (sign_met s.code d c);
  score = score_is s (turn k d) k ∙ score_turned s d k l ∙ sym (ap neg_ℤ (score_is s d k));
  others = λ b ne. others_turned s d k b l ne;
  objective =
      let e = objective_is s d in
      let e' = objective_is s (turn k d) in
      let f = score_is s d k in
      let t = objective_turned s d k l in
      omega (arith, ints);
}
