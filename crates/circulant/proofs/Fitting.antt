-- What the sizes of a grid that fits are.
use Rattle.std.proofs.Common.{◌≡◌, ℕ, ◌*◌, ◌≤◌, true, ◌&&◌, eqb, leb, mul-le-mul_left, mul-one, arith}
use Rattle.std.proofs.lemmas.Bool.{and_parts, leb-true, eqb-true}
use Rattle.circulant.specs.Circles.{grid_fits}
use Rattle.codes.specs.Limits.{most_bits, most_checks, most_size, sizes_fit}
use Rattle.codes.proofs.Limiting.{limits}

-- a factor is no larger than the product
pub factor_le : (n size : ℕ) → 1 ≤ size → n ≤ n * size
factor_le n size h = omega (arith, mul-one n, mul-le-mul_left n h)

pub record Fitted (rows columns size count : ℕ) : Type 0 where
  pub some : 1 ≤ size
  pub small : size ≤ most_size
  pub some_bits : 1 ≤ columns * size
  pub few_bits : columns * size ≤ most_bits
  pub some_checks : 1 ≤ rows * size
  pub few_checks : rows * size ≤ most_checks
  pub cells : count ≡ rows * columns

pub fitted : (rows columns size count : ℕ) → grid_fits rows columns size count ≡ true → Fitted rows columns size count
fitted rows columns size count e =
    let a = and_parts (leb 1 size && leb size most_size) (sizes_fit (columns * size) (rows * size) && eqb count (rows * columns)) e in
    let b = and_parts (leb 1 size) (leb size most_size) a.0 in
    let c = and_parts (sizes_fit (columns * size) (rows * size)) (eqb count (rows * columns)) a.1 in
    let l = limits (columns * size) (rows * size) c.0 in
    record {
      some = leb-true 1 size b.0;
      small = leb-true size most_size b.1;
      some_bits = l.0;
      few_bits = l.1;
      some_checks = l.2;
      few_checks = l.3;
      cells = eqb-true count (rows * columns) c.1;
    }
