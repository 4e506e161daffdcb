use Rattle.std.proofs.Common.{◌≡◌}
use Rattle.engine.specs.Opening.{sign_places}
use Rattle.engine.proofs.opening.sign_of.Given as goal

abbrev pub invariant-loop-p : goal.invariant-loop-p
invariant-loop-p g l = l.sign ≡ sign_places ((g.C.Code.answers l.code).check_bit l.c) l.records l.p
