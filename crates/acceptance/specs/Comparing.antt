-- In what answers and readings differ. Assumes nothing.
use Rattle.std.specs.Prelude.{◌≡◌, ℕ, zero, suc, ◌+◌, ◌-◌, ◌/◌, ◌%◌, ◌^◌, ◌<◌, min, Bool, false, cond, not, ◌⊎◌, List, length, ◌==◌, slice_index, slice_index_or}
use Rattle.plain.specs.declared.call.Answer.{Answer}
use Rattle.plain.specs.declared.call.Answer.TheVariants.{Unmet, Packed}

-- ---- counts and places
-- so many of the numbers below n are in P
abbrev pub Tallied : (ℕ → Type 0) → ℕ → ℕ → Type 0
Tallied P zero count = count ≡ 0
Tallied P (suc n) count = (before : ℕ) × Tallied P n before × ((P n × (count ≡ before + 1)) ⊎ ((P n → ⊥) × (count ≡ before)))

-- ---- readings
-- bit k of some bytes, the first at the top of the first byte; 0 beyond their end
abbrev pub bit_of : List ℕ → ℕ → Bool
bit_of xs k = slice_index xs (k / 8) / 2 ^ (7 - k % 8) % 2 == 1

abbrev pub differs_at : List ℕ → List ℕ → ℕ → Bool
differs_at xs ys k = cond (bit_of xs k) (not (bit_of ys k)) (bit_of ys k)

-- two readings differ exactly at the ones of a word
abbrev pub DifferExactly : List Bool → List ℕ → List ℕ → Type 0
DifferExactly word xs ys = (k : ℕ) → k < length word → differs_at xs ys k ≡ slice_index_or word k false

-- ---- lists of answers
abbrev pub answer_at : List (Answer (List ℕ)) → ℕ → Answer (List ℕ)
answer_at us k = slice_index_or us k (Unmet 0)

abbrev pub EqualAt : List (Answer (List ℕ)) → List (Answer (List ℕ)) → ℕ → Type 0
EqualAt us vs k = answer_at us k ≡ answer_at vs k

-- so many of the answers are equal, place by place
abbrev pub Equals : List (Answer (List ℕ)) → List (Answer (List ℕ)) → ℕ → Type 0
Equals us vs count = Tallied (EqualAt us vs) (min (length us) (length vs)) count

-- both answers are readings, and differ exactly at the ones of a word
abbrev pub Turned : List Bool → Answer (List ℕ) → Answer (List ℕ) → Type 0
Turned word a b = (xs : List ℕ) × (ys : List ℕ) × (a ≡ Packed xs) × (b ≡ Packed ys) × DifferExactly word xs ys

abbrev pub TurnedAt : List Bool → List (Answer (List ℕ)) → List (Answer (List ℕ)) → ℕ → Type 0
TurnedAt word us vs k = Turned word (answer_at us k) (answer_at vs k)

-- so many of the answers are such readings, place by place
abbrev pub Turns : List Bool → List (Answer (List ℕ)) → List (Answer (List ℕ)) → ℕ → Type 0
Turns word us vs count = Tallied (TurnedAt word us vs) (min (length us) (length vs)) count
