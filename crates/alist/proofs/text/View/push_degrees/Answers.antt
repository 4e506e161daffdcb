use Rattle.std.proofs.Common.{arith}
use Rattle.alist.specs.Text.{count_of, degree_of}
use Rattle.alist.proofs.Lines.{number_more, line_all}
use Rattle.alist.proofs.text.View.push_degrees.Goals as goal

pub loop-at-preserved : goal.loop-at-preserved
loop-at-preserved g c = number_more (degree_of c.args.self.now.side (g.C.Code.answers c.args.self.now.code.now)) c.loop-at.at c.degree.result _ _ _ c.degree.ensures c.loop-at.invariant c.in_ok-push_number.ensures

pub returns : goal.returns
returns g c = line_all (degree_of c.args.self.now.side (g.C.Code.answers c.args.self.now.code.now)) c.loop-at.at (count_of c.args.self.now.side (g.C.Code.answers c.args.self.now.code.now)) _ _ _ (omega arith) c.loop-at.invariant c.in_ok-writeln.ensures.bytes
