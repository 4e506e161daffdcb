-- Text that is written piece by piece.
use Rattle.std.proofs.Common.{◌≡◌, ℕ, ◌+◌, ◌/◌, ◌%◌, ◌<◌, ◌^◌, ◌-◌, false, List, [], ◌∷◌, ◌++◌, length, get_or, take, refl, ap}
use Rattle.std.specs.Fmt.{digits, padded_integral, format_spec}
use Rattle.std.proofs.lemmas.Fmt.{hex_byte}
use Rattle.std.proofs.lemmas.List.{take_more}
use Rattle.lines.specs.Digits.{digit}
use Rattle.receiving.specs.Text.{hex_text}

-- ---- hexadecimal digits
hex_push : (xs : List ℕ) (b : ℕ) → hex_text (xs ++ (b ∷ [])) ≡ hex_text xs ++ (digit (b / 16) ∷ digit (b % 16) ∷ [])
hex_push [] b = refl
hex_push (x ∷ xs) b = ap (λ (t : List ℕ). digit (x / 16) ∷ digit (x % 16) ∷ t) (hex_push xs b)

-- what `{:02x}` writes of the byte at i
pub hex_more : (xs : List ℕ) (i : ℕ) → i < length xs → get_or xs i 0 < 256 → (t u : List ℕ) → t ≡ hex_text (take i xs) → u ≡ t ++ padded_integral (format_spec 32 0 4 2 (2 ^ 64 - 1)) false [] (digits 16 false (get_or xs i 0)) → u ≡ hex_text (take (i + 1) xs)
hex_more xs i h small t u et eu = rw (eu, et, hex_byte false (get_or xs i 0) small, take_more xs i 0 h, hex_push) refl
