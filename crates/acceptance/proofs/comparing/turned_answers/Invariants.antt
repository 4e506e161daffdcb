use Rattle.std.proofs.Common.{◌≤◌, map, length, vec_items}
use Rattle.decoder.specs.Replays.{unpacked}
use Rattle.acceptance.specs.Comparing.{Tallied, TurnedAt}
use Rattle.acceptance.proofs.comparing.turned_answers.Given as goal

abbrev pub invariant-loop-a : goal.invariant-loop-a
invariant-loop-a l = (l.count ≤ length l.yielded) × Tallied (TurnedAt l.word (map (unpacked vec_items) l.first) (map (unpacked vec_items) l.second)) (length l.yielded) l.count
