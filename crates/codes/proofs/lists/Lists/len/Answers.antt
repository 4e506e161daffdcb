use Rattle.std.proofs.Common.{arith}
use Rattle.codes.proofs.Held.{many_in}
use Rattle.codes.proofs.lists.Lists.len.Goals as goal

pub returns : goal.returns
returns c = omega (arith, c.args.self.now.starts.ok.0, many_in c.args.self.now)
