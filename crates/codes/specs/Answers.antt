-- What a code answers; an absent answer is None. Assumes nothing.
use Rattle.std.specs.Prelude.{ℕ, Option}

pub record Answers : Type 0 where
  pub bits : ℕ
  pub checks : ℕ
  -- the most checks that hold one bit
  pub widest : ℕ
  -- how many bits a check holds, and its bits by place
  pub check_degree : ℕ → Option ℕ
  pub check_bit : ℕ → ℕ → Option ℕ
  -- how many checks hold a bit, and these by place
  pub bit_degree : ℕ → Option ℕ
  pub bit_check : ℕ → ℕ → Option ℕ
