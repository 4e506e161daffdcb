use Rattle.std.proofs.Common.{◌≡◌, ◌≤◌, take, count_by}
use Rattle.engine.specs.Packing.{is_unmet}
use Rattle.engine.proofs.packing.unmet.Given as goal

abbrev pub invariant-loop-sign : goal.invariant-loop-sign
invariant-loop-sign l = (l.count ≤ l.sign-index) × (l.count ≡ count_by is_unmet (take l.sign-index l.signs))
