use Rattle.std.proofs.Common.{arith}
use Rattle.alist.specs.Text.{entry_of}
use Rattle.alist.proofs.Lines.{number_more, line_all}
use Rattle.alist.proofs.text.View.push_list.Goals as goal

pub loop-place-preserved : goal.loop-place-preserved
loop-place-preserved g c = number_more (entry_of c.args.self.now.side (g.C.Code.answers c.args.self.now.code.now) c.args.at) c.loop-place.place c.entry.result _ _ _ c.entry.ensures c.loop-place.invariant c.in_ok-push_number.ensures

pub returns : goal.returns
returns g c = line_all (entry_of c.args.self.now.side (g.C.Code.answers c.args.self.now.code.now) c.args.at) c.loop-place.place c.args.width _ _ _ (omega arith) c.loop-place.invariant c.in_ok-writeln.ensures.bytes
