-- The sources that come with the crate are lawful. Assumes nothing.
use Rattle.std.specs.Prelude.{◌≡◌, ℕ, ◌+◌, ◌*◌, ◌%◌, ◌<◌, ◌≤◌, Bool, true, false, cond, ◌&&◌, T, ◌⊎◌, not, List, length, get_or, ℤ, pos, ◌≤ℤ◌, is_some, Some, None, Option, int_le, nat_lt, refl}
use Rattle.std.proofs.Common.{sym, ◌∙◌, subst, inl, inr, mod-lt, arith, le-ltb}
use Rattle.std.proofs.Math.Bool.{and-false}
use Rattle.std.specs.Int.Signed.{le_z_yes}
use Rattle.std.proofs.lemmas.List.{get_or_past}
use Rattle.std.proofs.lemmas.Int.{ints}
use Rattle.std.proofs.lemmas.Bool.{cases_lt, and_parts, not-false}
use Rattle.faults.proofs.Firsts.{first_none, position_first}
use Rattle.noise.specs.Sources.{most_rounds, most_bits, least_noise, most_noise, most_amplitude, Lawful, within, silence, entry_fits, tabled, first_bad, spread, generated}

pub silence_lawful : Lawful silence
silence_lawful = record { low = λ r k. omega (arith, ints); high = λ r k. omega (arith, ints); beyond = λ r k h. refl }

unspoken : (r k : ℕ) → (most_rounds ≤ r) ⊎ (most_bits ≤ k) → (nat_lt r most_rounds && nat_lt k most_bits) ≡ false
unspoken r k (inl a) = rw (le-ltb r most_rounds a)
unspoken r k (inr a) = rw (le-ltb k most_bits a) (and-false (nat_lt r most_rounds))

low_of : (b : Bool) (x : ℤ) → least_noise ≤ℤ x → least_noise ≤ℤ cond b x (pos 0)
low_of true x h = h
low_of false x h = omega (arith, ints)

high_of : (b : Bool) (x : ℤ) → x ≤ℤ most_noise → cond b x (pos 0) ≤ℤ most_noise
high_of true x h = h
high_of false x h = omega (arith, ints)

-- numbers within the limits, and 0 beyond
pub within_lawful : (f : ℕ → ℕ → ℤ) → ((r k : ℕ) → least_noise ≤ℤ f r k) → ((r k : ℕ) → f r k ≤ℤ most_noise) → Lawful (within f)
within_lawful f low high = record {
  low = λ r k. low_of (nat_lt r most_rounds && nat_lt k most_bits) (f r k) (low r k);
  high = λ r k. high_of (nat_lt r most_rounds && nat_lt k most_bits) (f r k) (high r k);
  beyond = λ r k h. rw (unspoken r k h);
}

-- a number from −amplitude to amplitude
pub spread_low : (a u : ℕ) → a ≤ most_amplitude → least_noise ≤ℤ spread a u
spread_low a u h = omega (arith, ints)

pub spread_high : (a u : ℕ) → a ≤ most_amplitude → spread a u ≤ℤ most_noise
spread_high a u h = let l : u % (2 * a + 1) < 2 * a + 1 = mod-lt u (omega arith) in omega (arith, ints)

pub generated_lawful : (seed amplitude : ℕ) → amplitude ≤ most_amplitude → Lawful (generated seed amplitude)
generated_lawful seed a h = within_lawful _ (λ r k. spread_low a _ h) (λ r k. spread_high a _ h)

-- ---- a table without a bad entry
none_found : (o : Option ℕ) → is_some o ≡ false → o ≡ None
none_found None e = refl
none_found (Some i) e = let z : ◌≡◌ {A = ℕ} 0 1 = cc in absurd (omega arith)

-- past the end there is 0
entry_fits_lem : (entries : List ℤ) → is_some (first_bad entries) ≡ false → (i : ℕ) → entry_fits (get_or entries i (pos 0)) ≡ true
entry_fits_lem entries e i =
    elim (cases_lt i (length entries)) [
      | inl h ↦ not-false _ (first_none (λ k. not (entry_fits (get_or entries k (pos 0)))) (length entries) (sym (position_first _ (pos 0) entries) ∙ none_found (first_bad entries) e) i h)
      | inr h ↦ rw (get_or_past entries i (pos 0) h)
    ]

fits_low : (z : ℤ) → entry_fits z ≡ true → least_noise ≤ℤ z
fits_low z e = le_z_yes (subst T (sym (and_parts (int_le least_noise z) (int_le z most_noise) e).0) tt)

fits_high : (z : ℤ) → entry_fits z ≡ true → z ≤ℤ most_noise
fits_high z e = le_z_yes (subst T (sym (and_parts (int_le least_noise z) (int_le z most_noise) e).1) tt)

pub tabled_lawful : (entries : List ℤ) → is_some (first_bad entries) ≡ false → Lawful (tabled entries)
tabled_lawful entries e =
    within_lawful _
    (λ r k. fits_low (get_or entries ((r + k) % length entries) (pos 0)) (entry_fits_lem entries e _))
    (λ r k. fits_high (get_or entries ((r + k) % length entries) (pos 0)) (entry_fits_lem entries e _))
