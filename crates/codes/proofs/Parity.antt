-- The ones of a sum of two rows, by the ones of each.
use Rattle.std.proofs.Common.{◌≡◌, ℕ, zero, suc, ◌+◌, ◌*◌, Bool, true, false, cond, not, ◌&&◌, refl, arith}
use Rattle.codes.specs.Linear.{ZeroIsCodeword, sum_of, CodewordsAdd}
use Rattle.codes.specs.Pairs.{count_below}
use Rattle.codes.proofs.Counts.{count_same, count_none}

and_none : (h : Bool) → (h && false) ≡ false
and_none true = refl
and_none false = refl

pub zero_is_codeword : ZeroIsCodeword
zero_is_codeword p c h =
    let e = count_same p.bits (λ b. p.holds c b && false) (λ b. false) (λ b l. and_none (p.holds c b)) in
    omega (arith, e, count_none p.bits)

-- a one in both rows counts twice, and is none of the sum
one_digit : (h y z : Bool) → cond (h && cond y (not z) z) 1 0 + 2 * cond (h && (y && z)) 1 0 ≡ cond (h && y) 1 0 + cond (h && z) 1 0
one_digit true true true = refl
one_digit true true false = refl
one_digit true false true = refl
one_digit true false false = refl
one_digit false y z = refl

ones_added : (n : ℕ) (h y z : ℕ → Bool) → count_below n (λ b. h b && sum_of y z b) + 2 * count_below n (λ b. h b && (y b && z b)) ≡ count_below n (λ b. h b && y b) + count_below n (λ b. h b && z b)
ones_added zero h y z = refl
ones_added (suc n) h y z = omega (arith, ones_added n h y z, one_digit (h n) (y n) (z n))

pub codewords_add : CodewordsAdd
codewords_add p y z ey ez c h = omega (arith, ones_added p.bits (p.holds c) y z, ey c h, ez c h)
