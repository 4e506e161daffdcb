-- The alist form of a code: lines of numbers apart by spaces. Assumes nothing.
use Rattle.std.specs.Prelude.{ℕ, zero, suc, ◌+◌, ◌-◌, ◌^◌, min, max, cond, fold, List, [], ◌∷◌, ◌++◌, Some, None, decimal, Option, ◌==◌}
use Rattle.std.specs.List.{range_with_len}
use Rattle.std.specs.Option.{unwrap_or}
use Rattle.codes.specs.declared.side.Side.{Side}
use Rattle.codes.specs.declared.side.Side.TheVariants.{ByCheck, ByBit}
use Rattle.codes.specs.Answers.{Answers}

-- ---- lines of numbers
-- a number, after a space unless it is the first
abbrev pub number_text : ℕ → ℕ → List ℕ
number_text place n = cond (place == 0) [] (32 ∷ []) ++ decimal n

abbrev pub numbers_text : (ℕ → ℕ) → ℕ → List ℕ
numbers_text f zero = []
numbers_text f (suc n) = numbers_text f n ++ number_text n (f n)

-- the first n values of f, and a line feed
abbrev pub line_text : (ℕ → ℕ) → ℕ → List ℕ
line_text f n = numbers_text f n ++ (10 ∷ [])

abbrev pub lines_text : (ℕ → List ℕ) → ℕ → List ℕ
lines_text g zero = []
lines_text g (suc n) = lines_text g n ++ g n

-- two numbers on a line
abbrev pub pair_text : ℕ → ℕ → List ℕ
pair_text m n = decimal m ++ (32 ∷ (decimal n ++ (10 ∷ [])))

-- ---- what a code answers, by check or by bit
abbrev pub count_of : Side → Answers → ℕ
count_of ByCheck a = a.checks
count_of ByBit a = a.bits

-- how many numbers a check or a bit has
abbrev pub degree_of : Side → Answers → ℕ → ℕ
degree_of ByCheck a i = unwrap_or (a.check_degree i) 0
degree_of ByBit a i = unwrap_or (a.bit_degree i) 0

abbrev pub widest_of : Side → Answers → ℕ
widest_of s a = fold (λ widest i. max widest (degree_of s a i)) 0 (range_with_len 0 (count_of s a))

-- numbered from 1, and 0 where there is none
abbrev pub entry_text : Option ℕ → ℕ
entry_text None = 0
entry_text (Some x) = min (x + 1) (2 ^ 64 - 1)

abbrev pub entry_of : Side → Answers → ℕ → ℕ → ℕ
entry_of ByCheck a i p = entry_text (a.check_bit i p)
entry_of ByBit a i p = entry_text (a.bit_check i p)

-- ---- the whole
-- the degrees of all checks or bits
abbrev pub degrees_text : Side → Answers → List ℕ
degrees_text s a = line_text (degree_of s a) (count_of s a)

-- the numbers of each check or bit, a line each, filled up with 0
abbrev pub lists_text : Side → Answers → List ℕ
lists_text s a = lines_text (λ i. line_text (entry_of s a i) (widest_of s a)) (count_of s a)

-- bits and checks; the largest degrees; all degrees; and all lists: bits first each time
abbrev pub alist_text : Answers → List ℕ
alist_text a =
    pair_text a.bits a.checks
    ++ (pair_text (widest_of ByBit a) (widest_of ByCheck a)
    ++ (degrees_text ByBit a
    ++ (degrees_text ByCheck a
    ++ (lists_text ByBit a
    ++ lists_text ByCheck a))))
