-- One turn over two digits.
use Rattle.std.proofs.Common.{◌≡◌, ℕ, ◌+◌, ◌-◌, ◌*◌, ◌≤◌, List, [], ◌∷◌, ◌++◌, length, get_or, take, drop, ℤ, append_assoc, arith}
use Rattle.std.proofs.lemmas.List.{take_rest}
use Rattle.lines.specs.Digits.{nibble, level, worth, levels_of}

-- two digits more have been read
pub turn : (xs : List ℕ) (done done' all : List ℤ) → 2 ≤ length xs → done' ≡ done ++ (level (worth (nibble (get_or xs 0 0)) * 16 + worth (nibble (get_or xs 1 0))) ∷ []) → done ++ levels_of xs ≡ all → done' ++ levels_of (take (length xs - 2) (drop 2 xs)) ≡ all
turn [] done done' all h e inv = absurd (omega arith)
turn (x ∷ []) done done' all h e inv = absurd (omega arith)
turn (x ∷ y ∷ zs) done done' all h e inv = rw (e, take_rest (x ∷ y ∷ zs) 2, append_assoc) inv
