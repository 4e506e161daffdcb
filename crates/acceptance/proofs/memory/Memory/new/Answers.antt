use Rattle.std.proofs.lemmas.Result.{err_from_is_err_and}
use Rattle.acceptance.proofs.memory.Memory.new.Goals as goal

pub returns-in_err-records : goal.returns-in_err-records
returns-in_err-records c =
    let p = err_from_is_err_and c.from_residual-in_err-records.result c.from_residual-in_err-records.ensures.1 in
    rw p.1 p.2

pub returns-in_err-signs : goal.returns-in_err-signs
returns-in_err-signs c =
    let p = err_from_is_err_and c.from_residual-in_err-signs.result c.from_residual-in_err-signs.ensures.1 in
    rw p.1 p.2
