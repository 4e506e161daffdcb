use Rattle.std.proofs.Common.{arith, rules}
use Rattle.codes.proofs.Held.{many_in, ends_in, list_in, none_in}
use Rattle.codes.proofs.lists.Lists.get.Goals as goal

pub index-requires : goal.index-requires
index-requires c = omega (arith, c.args.self.now.starts.ok.0, many_in c.args.self.now)

pub index-requires-then-at-len : goal.index-requires-then-at-len
index-requires-then-at-len c = omega (arith, c.args.self.now.starts.ok.0, many_in c.args.self.now)

pub slice_bounds-result-count : goal.slice_bounds-result-count
slice_bounds-result-count c =
    let ends = ends_in c.args.self.now c.args.at _ _ (omega arith) c.index.ensures c.index-then-at-len.ensures in
    omega arith

pub slice_bounds-result-start : goal.slice_bounds-result-start
slice_bounds-result-start c =
    let ends = ends_in c.args.self.now c.args.at _ _ (omega arith) c.index.ensures c.index-then-at-len.ensures in
    search rules

pub slice_bounds-result-end : goal.slice_bounds-result-end
slice_bounds-result-end c =
    let ends = ends_in c.args.self.now c.args.at _ _ (omega arith) c.index.ensures c.index-then-at-len.ensures in
    search rules

pub returns-then-at-len : goal.returns-then-at-len
returns-then-at-len c = list_in c.args.self.now c.args.at _ _ _ (omega arith) c.index.ensures c.index-then-at-len.ensures c.deref.ensures.value

pub returns-else-at-len : goal.returns-else-at-len
returns-else-at-len c = none_in c.args.self.now c.args.at (omega arith)
