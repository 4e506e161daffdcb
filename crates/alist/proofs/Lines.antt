-- Text that is written number by number and line by line.
use Rattle.std.proofs.Common.{◌≡◌, ℕ, ◌+◌, List, [], ◌∷◌, ◌++◌, append_assoc, add-one}
use Rattle.alist.specs.Text.{number_text, numbers_text, line_text, lines_text}

-- one number more
pub number_more : (f : ℕ → ℕ) (n d : ℕ) (t u v : List ℕ) → d ≡ f n → u ≡ t ++ numbers_text f n → v ≡ u ++ number_text n d → v ≡ t ++ numbers_text f (n + 1)
number_more f n d t u v ed eu ev = rw (add-one, ev, eu, ed) (append_assoc t (numbers_text f n) (number_text n (f n)))

-- and the end of the line
pub line_all : (f : ℕ → ℕ) (n m : ℕ) (t u v : List ℕ) → n ≡ m → u ≡ t ++ numbers_text f n → v ≡ u ++ (10 ∷ []) → v ≡ t ++ line_text f m
line_all f n m t u v en eu ev = rw (ev, eu, en) (append_assoc t (numbers_text f m) (10 ∷ []))

-- one line more
pub line_more : (g : ℕ → List ℕ) (n : ℕ) (t u v : List ℕ) → u ≡ t ++ lines_text g n → v ≡ u ++ g n → v ≡ t ++ lines_text g (n + 1)
line_more g n t u v eu ev = rw (add-one, ev, eu) (append_assoc t (lines_text g n) (g n))

-- six parts, one after another
pub six_parts : (t a b c d e f t₁ t₂ t₃ t₄ t₅ t₆ : List ℕ) → t₁ ≡ t ++ a → t₂ ≡ t₁ ++ b → t₃ ≡ t₂ ++ c → t₄ ≡ t₃ ++ d → t₅ ≡ t₄ ++ e → t₆ ≡ t₅ ++ f → t₆ ≡ t ++ (a ++ (b ++ (c ++ (d ++ (e ++ f)))))
six_parts t a b c d e f t₁ t₂ t₃ t₄ t₅ t₆ ea eb ec ed ee ef = rw (ef, ee, ed, ec, eb, ea) (simp append_assoc)
