-- What counts within their limits say.
use Rattle.std.proofs.Common.{◌≡◌, ℕ, ◌≤◌, true, false, ◌&&◌, leb}
use Rattle.std.proofs.lemmas.Bool.{and_parts, leb-true, not-false}
use Rattle.codes.specs.Degrees.{outside}
use Rattle.codes.specs.Limits.{most_bits, most_checks, sizes_fit}

-- what two counts within their limits say
pub limits : (bits checks : ℕ) → sizes_fit bits checks ≡ true → (1 ≤ bits) × (bits ≤ most_bits) × (1 ≤ checks) × (checks ≤ most_checks)
limits bits checks e =
    let b = and_parts (leb 1 bits && leb bits most_bits) (leb 1 checks && leb checks most_checks) e in
    let n = and_parts (leb 1 bits) (leb bits most_bits) b.0 in
    let m = and_parts (leb 1 checks) (leb checks most_checks) b.1 in
    (leb-true 1 bits n.0, leb-true bits most_bits n.1, leb-true 1 checks m.0, leb-true checks most_checks m.1)

-- what a count that is not outside its limits says
pub in_limits : (least most n : ℕ) → outside least most n ≡ false → (least ≤ n) × (n ≤ most)
in_limits least most n e =
    let b = and_parts (leb least n) (leb n most) (not-false _ e) in
    (leb-true least n b.0, leb-true n most b.1)
