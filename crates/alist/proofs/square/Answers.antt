use Rattle.std.proofs.lemmas.Result.{err_from_is_err_and}
use Rattle.codes.specs.Means.{product_of}
use Rattle.seven.specs.Means.{seven_of}
use Rattle.seven.specs.Seven.{seven_pairs}
use Rattle.alist.proofs.Products.{lawful_product}
use Rattle.alist.proofs.square.Goals as goal

pub returns-in_err-new-2 : goal.returns-in_err-new-2
returns-in_err-new-2 c = let p = err_from_is_err_and c.from_residual-in_err-new-2.result c.from_residual-in_err-new-2.ensures.1 in rw p.1 tt

pub returns : goal.returns
returns c = lawful_product c.new-3.result (product_of seven_of seven_of) _ _ seven_pairs seven_pairs _ c.new-3.ensures c.in_ok-new.ensures c.in_ok-new-2.ensures
