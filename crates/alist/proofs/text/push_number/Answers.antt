use Rattle.std.proofs.Common.{eq-eqb}
use Rattle.alist.proofs.text.push_number.Goals as goal

pub returns-in_ok-write : goal.returns-in_ok-write
returns-in_ok-write c = rw (eq-eqb c.args.place 0 c.if-place-eq0.true) c.in_ok-write.ensures.bytes
