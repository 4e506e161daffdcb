use Rattle.std.proofs.Common.{refl, rules}
use Rattle.listed.proofs.Meaning.{degrees_are}
use Rattle.listed.proofs.Passing.{fine}
use Rattle.listed.proofs.Matched.check_degrees.Goals as goal

pub returns-in_err-none_found : goal.returns-in_err-none_found
returns-in_err-none_found c =
    let l = c.args.self.now in
    let e = degrees_are l.bits l.checks l.by_check.now l.by_bit.now (fine _ _ _ _ l.matched) _ _ refl refl in
    rw (← e) (search rules)

pub returns : goal.returns
returns c =
    let l = c.args.self.now in
    let e = degrees_are l.bits l.checks l.by_check.now l.by_bit.now (fine _ _ _ _ l.matched) _ _ refl refl in
    rw (← e) (search rules)
