-- What marking keeps, and what it sets.
use Rattle.std.proofs.Common.{◌≡◌, ℕ, zero, suc, ◌+◌, ◌<◌, ◌≤◌, Bool, true, false, cond, eqb, List, length, get_or, ℤ, ◌+ℤ◌, sym, refl, ap, ◌∙◌, ⊎_elim, arith}
use Rattle.std.specs.Int.{from_bool, saturate_to_bits}
use Rattle.std.proofs.lemmas.Bool.{cases_eq}
use Rattle.codes.specs.Pairs.{count_below}
use Rattle.codes.proofs.Counts.{unit_few}
use Rattle.engine.specs.declared.bit.Bit.{Bit}
use Rattle.engine.specs.Sweeps.{picks_at, marked, mark_places}
use Rattle.engine.specs.Turns.{blank, alter}
use Rattle.engine.proofs.Rows.{alter_length, alter_same, alter_other, alter_keeps}

pub mark_length : (picked : ℕ → Bool) (n : ℕ) (rs : List Bit) → length (mark_places picked n rs) ≡ length rs
mark_length picked zero rs = refl
mark_length picked (suc n) rs = alter_length (marked (picked n)) n (mark_places picked n rs) ∙ mark_length picked n rs

-- marking changes nothing else
pub mark_keeps : {X : Type 0} (g : Bit → X) → ((t : Bool) (r : Bit) → g (marked t r) ≡ g r) → (picked : ℕ → Bool) (n : ℕ) (rs : List Bit) (b : ℕ) → g (get_or (mark_places picked n rs) b blank) ≡ g (get_or rs b blank)
mark_keeps g same picked zero rs b = refl
mark_keeps g same picked (suc n) rs b = alter_keeps g (marked (picked n)) (same (picked n)) n (mark_places picked n rs) b ∙ mark_keeps g same picked n rs b

-- a record is marked exactly if it is picked
pub mark_at : (picked : ℕ → Bool) (n : ℕ) (rs : List Bit) → n ≤ length rs → (b : ℕ) → b < n → (get_or (mark_places picked n rs) b blank).mark ≡ picked b
mark_at picked zero rs h b l = absurd (omega arith)
mark_at picked (suc n) rs h b l =
    ⊎_elim
    (λ (same : b ≡ n).
    let lt : n < length (mark_places picked n rs) = rw (mark_length picked n rs) (omega arith) in
    ap (λ j. (get_or (mark_places picked (suc n) rs) j blank).mark) same
    ∙ ap (λ (r : Bit). r.mark) (alter_same (marked (picked n)) n (mark_places picked n rs) lt)
    ∙ ap picked (sym same))
    (λ (ne : b ≡ n → ⊥). ap (λ (r : Bit). r.mark) (alter_other (marked (picked n)) n b (mark_places picked n rs) ne) ∙ mark_at picked n rs (omega arith) b (omega arith))
    (cases_eq b n)

-- so the picks are the same while marks are set
pub picks_kept : (says : ℤ → Bool → Bool) (noise : ℕ → ℤ) (low : ℕ) (rs : List Bit) (picked : ℕ → Bool) (n k : ℕ) → picks_at says noise low (mark_places picked n rs) k ≡ picks_at says noise low rs k
picks_kept says noise low rs picked n k = ap (λ (z : ℤ). says (saturate_to_bits 15 (z +ℤ noise k)) (eqb k low)) (mark_keeps (λ (r : Bit). r.score) (λ t r. refl) picked n rs k)

pub count_most : (n : ℕ) (f : ℕ → Bool) → count_below n f ≤ n
count_most zero f = omega arith
count_most (suc n) f = let most = count_most n f in let one = unit_few (f n) in omega arith

-- a test counted, as a cast to a number counts it
unit_is : (t : Bool) → from_bool t ≡ cond t 1 0
unit_is true = refl
unit_is false = refl

-- the first n bits are marked by their picks
pub record Marks (says : ℤ → Bool → Bool) (noise : ℕ → ℤ) (low : ℕ) (rs : List Bit) (n : ℕ) (after : List Bit) (count : ℕ) : Type 0 where
  pub records : after ≡ mark_places (picks_at says noise low rs) n rs
  pub counts : count ≡ count_below n (picks_at says noise low rs)

-- one more is counted, and there are no more marks than bits
pub mark_room : (f : ℕ → Bool) (n count one : ℕ) (picked : Bool) → count ≡ count_below n f → one ≡ from_bool picked → count + one ≤ n + 1
mark_room f n count one picked counts counted = let most = count_most n f in let few = unit_few picked in let unit = unit_is picked in omega arith

pub mark_one : (says : ℤ → Bool → Bool) (noise : ℕ → ℤ) (low : ℕ) (rs : List Bit) (n : ℕ) (before : List Bit) (count one : ℕ) (picked : Bool) → Marks says noise low rs n before count → picked ≡ picks_at says noise low before n → one ≡ from_bool picked → Marks says noise low rs (suc n) (alter (marked picked) n before) (count + one)
mark_one says noise low rs n before count one picked M is counted =
    let P = picks_at says noise low rs in
    let here : picked ≡ P n = is ∙ ap (λ (l : List Bit). picks_at says noise low l n) M.records ∙ picks_kept says noise low rs P n n in
    record {
      records = ap (λ (t : Bool). alter (marked t) n before) here ∙ ap (alter (marked (P n)) n) M.records;
      counts = ap (λ (c : ℕ). c + one) M.counts ∙ ap (λ (o : ℕ). count_below n P + o) (counted ∙ unit_is picked ∙ ap (λ (t : Bool). cond t 1 0) here);
    }
