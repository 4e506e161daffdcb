use Rattle.std.proofs.Common.{◌≡◌}
use Rattle.engine.specs.Turns.{raise_places}
use Rattle.engine.proofs.turning.raise_check.Given as goal

abbrev pub invariant-loop-p : goal.invariant-loop-p
invariant-loop-p g l = l.records ≡ raise_places ((g.C.Code.answers l.code).check_bit l.c) l.k l.by l.p l.initial.records
