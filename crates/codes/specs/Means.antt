-- What each kind of code answers, by what it holds. Assumes nothing.
use Rattle.std.specs.Prelude.{ℕ, List}
use Rattle.codes.specs.declared.lists.Lists.{Lists}
use Rattle.codes.specs.declared.matrix.Matrix.{Matrix}
use Rattle.codes.specs.declared.product.Product.{Product}
use Rattle.codes.specs.Answers.{Answers}
use Rattle.codes.specs.Lists.{held}
use Rattle.codes.specs.Held.{lists_in}
use Rattle.codes.specs.Cross.{cross}

-- a matrix, by what its lists are
abbrev pub matrix_by : {L : Type 0} → (L → List (List ℕ)) → Matrix L → Answers
matrix_by lists m = held (lists m.rows) (lists m.columns) m.widest

-- of lists that stand end to end
abbrev pub matrix_of : Matrix Lists → Answers
matrix_of m = held (lists_in m.rows) (lists_in m.columns) m.widest

-- a product, by what its parts answer
abbrev pub product_of : {A B : Type 0} → (A → Answers) → (B → Answers) → Product A B → Answers
product_of f g p = cross p.shape.rows p.shape.columns p.shape.downs p.shape.acrosses p.widest (f p.first) (g p.second)
