-- The product of two codes: its pairs, its answers, and what is refused. Assumes nothing.
use Rattle.std.specs.Prelude.{◌≡◌, ℕ, ◌+◌, ◌-◌, ◌*◌, ◌/◌, ◌%◌, ◌^◌, Bool, cond, ◌&&◌, Some, None, Option, ◌==◌, nat_le, nat_lt}
use Rattle.faults.specs.Rows.{Row, C}
use Rattle.codes.specs.Answers.{Answers}
use Rattle.codes.specs.Lawful.{Lawful}
use Rattle.codes.specs.Limits.{most_at_bit, sizes_fit}
use Rattle.codes.specs.Pairs.{Pairs}

-- the bit k is at the row k / nB and the column k % nB, a bit of A and a bit of B;
-- the check r * mB + i is check i of B on row r, and the check nA * mB + i * nB + j is check i of A on column j
abbrev pub product_holds : Pairs → Pairs → ℕ → ℕ → Bool
product_holds a b c k =
    cond (nat_lt c (a.bits * b.checks))
    (k / b.bits == c / b.checks && b.holds (c % b.checks) (k % b.bits))
    (k % b.bits == (c - a.bits * b.checks) % b.bits && a.holds ((c - a.bits * b.checks) / b.bits) (k / b.bits))

abbrev pub product_pairs : Pairs → Pairs → Pairs
product_pairs a b = record {
  bits = a.bits * b.bits;
  checks = a.bits * b.checks + a.checks * b.bits;
  holds = product_holds a b;
}

-- why two codes have no product
abbrev pub product_fault : Answers → Answers → Option Row
product_fault a b = cond (sizes_fit (a.bits * b.bits) (a.bits * b.checks + a.checks * b.bits)) (cond (nat_le (a.widest + b.widest) most_at_bit) None (Some (C 4 0))) (Some (C 1 0))

-- ---- the answers, for parts of any answers
-- an entry of a list of columns: the number in the row r
abbrev pub in_row : ℕ → ℕ → Option ℕ → Option ℕ
in_row width r None = None
in_row width r (Some j) = cond (nat_lt j width) (Some (r * width + j)) None

-- an entry of a list of rows: the number in the column j, past the first `start`
abbrev pub in_column : ℕ → ℕ → ℕ → ℕ → Option ℕ → Option ℕ
in_column start height width j None = None
in_column start height width j (Some r) = cond (nat_lt r height) (Some (start + (r * width + j))) None

-- both sizes together, if they fit
abbrev pub added : Option ℕ → Option ℕ → Option ℕ
added None o = None
added (Some x) None = None
added (Some x) (Some y) = cond (nat_lt (x + y) (2 ^ 64)) (Some (x + y)) None

-- the first x entries are those of `before`, and the others of `after`
abbrev pub joined : Option ℕ → (ℕ → Option ℕ) → (ℕ → Option ℕ) → ℕ → Option ℕ
joined None before after p = None
joined (Some x) before after p = cond (nat_lt p x) (before p) (after (p - x))

-- of a product of a, with these rows and downs as its bits and checks, and b, with these columns and acrosses:
-- how many bits the check c holds
abbrev pub cross_check_degree : ℕ → ℕ → ℕ → ℕ → Answers → Answers → ℕ → Option ℕ
cross_check_degree rows columns downs acrosses a b c = cond (nat_lt c (rows * acrosses)) (b.check_degree (c % acrosses)) (cond (nat_lt (c - rows * acrosses) (downs * columns)) (a.check_degree ((c - rows * acrosses) / columns)) None)

-- the p-th of them
abbrev pub cross_check_bit : ℕ → ℕ → ℕ → ℕ → Answers → Answers → ℕ → ℕ → Option ℕ
cross_check_bit rows columns downs acrosses a b c p = cond (nat_lt c (rows * acrosses)) (in_row columns (c / acrosses) (b.check_bit (c % acrosses) p)) (cond (nat_lt (c - rows * acrosses) (downs * columns)) (in_column 0 rows columns ((c - rows * acrosses) % columns) (a.check_bit ((c - rows * acrosses) / columns) p)) None)

-- how many checks hold the bit k
abbrev pub cross_bit_degree : ℕ → ℕ → ℕ → ℕ → Answers → Answers → ℕ → Option ℕ
cross_bit_degree rows columns downs acrosses a b k = cond (nat_lt k (rows * columns)) (added (b.bit_degree (k % columns)) (a.bit_degree (k / columns))) None

-- the p-th of them: those on its row, then those on its column
abbrev pub cross_bit_check : ℕ → ℕ → ℕ → ℕ → Answers → Answers → ℕ → ℕ → Option ℕ
cross_bit_check rows columns downs acrosses a b k p = cond (nat_lt k (rows * columns)) (joined (b.bit_degree (k % columns)) (λ q. in_row acrosses (k / columns) (b.bit_check (k % columns) q)) (λ q. in_column (rows * acrosses) downs columns (k % columns) (a.bit_check (k / columns) q)) p) None

abbrev pub cross : ℕ → ℕ → ℕ → ℕ → ℕ → Answers → Answers → Answers
cross rows columns downs acrosses widest a b = record {
  bits = rows * columns;
  checks = rows * acrosses + downs * columns;
  widest = widest;
  check_degree = cross_check_degree rows columns downs acrosses a b;
  check_bit = cross_check_bit rows columns downs acrosses a b;
  bit_degree = cross_bit_degree rows columns downs acrosses a b;
  bit_check = cross_bit_check rows columns downs acrosses a b;
}

abbrev pub product : Answers → Answers → Answers
product a b = cross a.bits b.bits a.checks b.checks (a.widest + b.widest) a b

-- p is the product of a and b, which was not refused: lawful if they are, and of their pairs
pub record MadeProduct (a b p : Answers) : Type 0 where
  pub allowed : product_fault a b ≡ None
  pub is : p ≡ product a b
  pub lawful : (pa pb : Pairs) → Lawful a pa → Lawful b pb → Lawful p (product_pairs pa pb)
