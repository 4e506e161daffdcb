-- The ones of the trials are a codeword, by counting them in every check.
use Rattle.std.proofs.Common.{◌≡◌, ℕ, zero, suc, ◌%◌, Bool, true, ◌&&◌, eqb, refl}
use Rattle.std.proofs.lemmas.Bool.Decides.{Decides-eqb, Decides-below_and}
use Rattle.codes.specs.Pairs.{ones_in}
use Rattle.acceptance.specs.Frames.{pairs, is_one, OnesAreCodeword}

abbrev even_at : ℕ → Bool
even_at c = eqb (ones_in pairs is_one c % 2) 0

abbrev even_below : ℕ → Bool
even_below zero = true
even_below (suc c) = even_at c && even_below c

pub ones_are_codeword : OnesAreCodeword
ones_are_codeword = (Decides-below_and even_at (λ c. ones_in pairs is_one c % 2 ≡ 0) even_below (λ c. Decides-eqb (ones_in pairs is_one c % 2) 0) refl (λ c. refl) 144).0 refl
