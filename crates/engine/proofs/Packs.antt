-- Counts of signs, and digits packed into bytes.
use Rattle.std.proofs.Common.{◌≡◌, ℕ, zero, suc, ◌+◌, ◌-◌, ◌*◌, ◌/◌, ◌^◌, ◌<◌, ◌≤◌, Bool, true, false, cond, ◌&&◌, ltb, List, length, get_or, pos, refl, ap, ◌∙◌, ⊎_elim, pow-suc, arith}
use lib.Signed.{lt_z}
use Rattle.std.proofs.lemmas.Nat.{pow_pos, pow-add, shl-shr}
use Rattle.std.proofs.lemmas.List.FromFn.{length-map-range_with_len, get_or-map-range_with_len, fill_by_all}
use Rattle.std.proofs.lemmas.Bool.{cases_Bool, ltb-true}
use Rattle.codes.specs.Pairs.{Pairs, count_below}
use Rattle.codes.proofs.Counts.{count_same, count_by_below}
use Rattle.plain.specs.Machine.{bytes_for, byte_below, packed}
use Rattle.plain.specs.Scores.{sign_of}
use Rattle.engine.specs.declared.bit.Sign.{Sign}
use Rattle.engine.specs.declared.bit.Sign.TheVariants.{Met, Unmet}
use Rattle.engine.specs.Packing.{is_unmet, unmet_signs}
use Rattle.engine.specs.Stands.{sign_value}

-- ---- unmet signs
unmet_below : (t : Sign) → is_unmet t ≡ lt_z (sign_value t) (pos 0)
unmet_below Met = refl
unmet_below Unmet = refl

-- of signs that are those of the digits, as many are unmet as checks are
pub unmet_counts : (p : Pairs) (d : ℕ → Bool) (n : ℕ) (ss : List Sign) → length ss ≡ n → ((c : ℕ) → c < n → sign_value (get_or ss c Met) ≡ sign_of p d c) → unmet_signs ss ≡ count_below n (λ c. lt_z (sign_of p d c) (pos 0))
unmet_counts p d n ss size same =
    count_by_below is_unmet Met ss
    ∙ ap (λ m. count_below m (λ c. is_unmet (get_or ss c Met))) size
    ∙ count_same n (λ c. is_unmet (get_or ss c Met)) (λ c. lt_z (sign_of p d c) (pos 0)) (λ c l. unmet_below (get_or ss c Met) ∙ ap (λ z. lt_z z (pos 0)) (same c l))

-- ---- places in a byte, the first at the top
pub place_is : (j : ℕ) → j < 8 → 128 / 2 ^ j ≡ 2 ^ (7 - j)
place_is j l =
    let e : 7 ≡ 7 - j + j = omega arith in
    ap (λ v. v / 2 ^ j) (ap (λ v. 2 ^ v) e ∙ pow-add 2 (7 - j) j) ∙ shl-shr (2 ^ (7 - j)) j

twice : (j : ℕ) → j < 8 → 2 ^ (8 - j) ≡ 2 ^ (7 - j) * 2
twice j l = let e : 8 - j ≡ suc (7 - j) = omega arith in ap (λ v. 2 ^ v) e ∙ pow-suc 2 (7 - j)

cond_most : (t : Bool) (x : ℕ) → cond t x 0 ≤ x
cond_most true x = omega arith
cond_most false x = omega arith

-- the places to come have room
byte_room : (n : ℕ) (d : ℕ → Bool) (i j : ℕ) → j ≤ 8 → byte_below n d i j + 2 ^ (8 - j) ≤ 256
byte_room n d i zero l = omega arith
byte_room n d i (suc j) l =
    let before = byte_room n d i j (omega arith) in
    let e = twice j (omega arith) in
    let here = cond_most (ltb (i * 8 + j) n && d (i * 8 + j)) (2 ^ (7 - j)) in
    let f : 2 ^ (8 - suc j) ≡ 2 ^ (7 - j) = ap (λ v. 2 ^ v) (omega arith) in
    omega arith

pub byte_fits : (n : ℕ) (d : ℕ → Bool) (i j : ℕ) → j < 8 → byte_below n d i j + 128 / 2 ^ j < 256
byte_fits n d i j l =
    let room = byte_room n d i j (omega arith) in
    let e = twice j l in
    let p = place_is j l in
    let some = pow_pos (7 - j) in
    omega arith

-- ---- digits that agree are packed alike
digit_same : (n k : ℕ) (d e : ℕ → Bool) → (k < n → d k ≡ e k) → (ltb k n && d k) ≡ (ltb k n && e k)
digit_same n k d e same =
    ⊎_elim
    (λ (t : ltb k n ≡ true). ap (λ v. ltb k n && v) (same (ltb-true k n t)))
    (λ (f : ltb k n ≡ false). rw f)
    (cases_Bool (ltb k n))

byte_same : (n : ℕ) (d e : ℕ → Bool) → ((k : ℕ) → k < n → d k ≡ e k) → (i j : ℕ) → byte_below n d i j ≡ byte_below n e i j
byte_same n d e same i zero = refl
byte_same n d e same i (suc j) =
    ap (λ v. v + cond (ltb (i * 8 + j) n && d (i * 8 + j)) (2 ^ (7 - j)) 0) (byte_same n d e same i j)
    ∙ ap (λ v. byte_below n e i j + cond v (2 ^ (7 - j)) 0) (digit_same n (i * 8 + j) d e (same (i * 8 + j)))

pub packed_same : (n : ℕ) (d e : ℕ → Bool) → ((k : ℕ) → k < n → d k ≡ e k) → packed n d ≡ packed n e
packed_same n d e same =
    fill_by_all (λ i. byte_below n e i 8) (packed n d) (bytes_for n) 0
    (length-map-range_with_len (λ i. byte_below n d i 8) 0 (bytes_for n))
    (λ k l. get_or-map-range_with_len (λ i. byte_below n d i 8) 0 (bytes_for n) k k 0 l (omega arith) ∙ byte_same n d e same k 8)
