-- Answers and faults as lines of text. Assumes nothing.
use Rattle.std.specs.Prelude.{ℕ, ◌/◌, ◌%◌, List, [], ◌∷◌, ◌++◌, codes, decimal}
use Rattle.std.specs.Fmt.{signed_decimal}
use Rattle.faults.specs.Rows.{Row, printed}
use Rattle.lines.specs.Digits.{digit}
use Rattle.lines.specs.Lines.{feed}
use Rattle.plain.specs.declared.call.Answer.{Answer}
use Rattle.plain.specs.declared.call.Answer.TheVariants.{Stopped, Flipped, Ended, Toggled, Weighed, Unmet, Packed, Refused}
use Rattle.plain.specs.Words.{verdict_text}

abbrev pub space : ℕ
space = 32

-- two hexadecimal digits for each byte
abbrev pub hex_text : List ℕ → List ℕ
hex_text [] = []
hex_text (b ∷ bs) = digit (b / 16) ∷ digit (b % 16) ∷ hex_text bs

-- a verdict and the rounds, the gain, or packed digits; of other answers nothing is shown
abbrev pub answer_text : Answer (List ℕ) → List ℕ
answer_text (Stopped v) = []
answer_text (Flipped n) = []
answer_text (Ended v n) = verdict_text v ++ (space ∷ decimal n)
answer_text (Toggled x) = []
answer_text (Weighed score objective gain) = signed_decimal gain
answer_text (Unmet n) = []
answer_text (Packed bs) = hex_text bs
answer_text (Refused e) = []

-- apart by single spaces, and then a line feed
abbrev pub more_text : List (Answer (List ℕ)) → List ℕ
more_text [] = feed ∷ []
more_text (x ∷ xs) = space ∷ (answer_text x ++ more_text xs)

abbrev pub answers_line : List (Answer (List ℕ)) → List ℕ
answers_line [] = feed ∷ []
answers_line (x ∷ xs) = answer_text x ++ more_text xs

-- the word, and then letter, number and place
abbrev pub refused_line : Row → List ℕ
refused_line r = codes "refused " ++ (printed r ++ (feed ∷ []))
