-- Scores and objectives stay within their bounds.
use Rattle.std.proofs.Common.{◌≡◌, ℕ, zero, suc, ◌+◌, ◌*◌, ◌<◌, ◌≤◌, Bool, true, false, cond, not, ℤ, pos, ◌+ℤ◌, sym, refl, subst, arith}
use Rattle.std.proofs.lemmas.Int.{ints}
use Rattle.codes.specs.Limits.{most_at_bit}
use Rattle.codes.specs.Pairs.{count_below}
use Rattle.noise.specs.Sources.{most_amplitude}
use Rattle.plain.specs.Bounds.{most_level, most_weight, Within, Modest, BoundsLaw}
use Rattle.plain.specs.Scores.{Setting, sum_below, score_of, objective_of}
use Rattle.plain.proofs.Even.{met_of, signed, own, voice, heard, score_by, score_is, objective_is}
use Rattle.plain.proofs.Sums.{sum_small}

signed_within : (b : ℕ) (e : Bool) (z : ℤ) → Within b z → Within b (signed e z)
signed_within b true z w = w
signed_within b false z w = let l = w.low in let h = w.high in record { low = omega (arith, ints); high = omega (arith, ints) }

weight_within : (w : ℕ) → w ≤ most_weight → Within most_weight (pos w)
weight_within w h = record { low = omega (arith, ints); high = omega (arith, ints) }

heard_within : (t e : Bool) (w : ℕ) → w ≤ most_weight → Within (cond t most_weight 0) (cond t (signed e (pos w)) (pos 0))
heard_within true e w h = signed_within most_weight e (pos w) (weight_within w h)
heard_within false e w h = record { low = omega (arith, ints); high = omega (arith, ints) }

wider : (a b : ℕ) (z : ℤ) → a ≤ b → Within a z → Within b z
wider a b z h w = let l = w.low in let g = w.high in record { low = omega (arith, ints); high = omega (arith, ints) }

added : (a b : ℕ) (y z : ℤ) → Within a y → Within b z → Within (a + b) (y +ℤ z)
added a b y z v w = let l = v.low in let h = v.high in let m = w.low in let g = w.high in record { low = omega (arith, ints); high = omega (arith, ints) }

count_all : (n : ℕ) → count_below n (λ i. true) ≡ n
count_all zero = refl
count_all (suc n) = omega (arith, count_all n)

-- n numbers within b each
sum_within : (b n : ℕ) (f : ℕ → ℤ) → ((i : ℕ) → i < n → Within b (f i)) → Within (b * n) (sum_below n f)
sum_within b n f each = subst (λ m. Within (b * m) (sum_below n f)) (count_all n) (sum_small b n (λ i. true) f each)

module _ (s : Setting) (digit : ℕ → Bool) (ok : Modest s) where
  -- of digits and signs that need not belong to one another
  pub score_by_within : (met : ℕ → Bool) (k : ℕ) → k < s.code.bits → Within (most_level + most_weight * most_at_bit) (score_by s digit met k)
  score_by_within met k h =
      let few = count_below s.code.checks (λ c. s.code.holds c k) in
      let voices = sum_small most_weight s.code.checks (λ c. s.code.holds c k) (heard s met k) (λ c l. heard_within (s.code.holds c k) (met c) (s.weight c) (ok.weights c l)) in
      wider (most_level + most_weight * few) (most_level + most_weight * most_at_bit) (score_by s digit met k) (omega (arith, ok.degrees k h))
      (added most_level (most_weight * few) (own s digit k) (sum_below s.code.checks (heard s met k)) (signed_within most_level (not (digit k)) (s.level k) (ok.levels k h)) voices)

  -- of so many bits and checks
  pub sums_within : (met : ℕ → Bool) (n m : ℕ) → n ≤ s.code.bits → m ≤ s.code.checks → Within (most_level * n + most_weight * m) (sum_below n (own s digit) +ℤ sum_below m (voice s met))
  sums_within met n m i j =
      added (most_level * n) (most_weight * m) (sum_below n (own s digit)) (sum_below m (voice s met))
      (sum_within most_level n (own s digit) (λ k l. signed_within most_level (not (digit k)) (s.level k) (ok.levels k (omega arith))))
      (sum_within most_weight m (voice s met) (λ c l. signed_within most_weight (met c) (pos (s.weight c)) (weight_within (s.weight c) (ok.weights c (omega arith)))))

  score_within : (k : ℕ) → k < s.code.bits → Within (most_level + most_weight * most_at_bit) (score_of s digit k)
  score_within k h = subst (Within (most_level + most_weight * most_at_bit)) (sym (score_is s digit k)) (score_by_within (met_of s.code digit) k h)

  objective_within : Within (most_level * s.code.bits + most_weight * s.code.checks) (objective_of s digit)
  objective_within = subst (Within (most_level * s.code.bits + most_weight * s.code.checks)) (sym (objective_is s digit)) (sums_within (met_of s.code digit) s.code.bits s.code.checks (omega arith) (omega arith))

pub bounds_law : BoundsLaw
bounds_law s digit ok = record { scores = score_within s digit ok; perturbed = λ noise law r k h. added (most_level + most_weight * most_at_bit) most_amplitude (score_of s digit k) (noise r k) (score_within s digit ok k h) (record { low = law.low r k; high = law.high r k }); objective = objective_within s digit ok }
