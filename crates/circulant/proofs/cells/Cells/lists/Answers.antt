use Rattle.std.proofs.Common.{◌≡◌, ℕ, ◌≤◌, ◌++◌, map, ap, ◌∙◌}
use Rattle.std.proofs.lemmas.List.Elements.{All-same}
use Rattle.codes.specs.Limits.{stride}
use Rattle.circulant.specs.declared.turn.Turn.{Turn}
use Rattle.codes.specs.declared.side.Side.{Side}
use Rattle.circulant.specs.declared.cells.Cells.{Cells}
use Rattle.circulant.specs.declared.line.Line.{Line}
use Rattle.circulant.specs.Turns.{turns_of, landing}
use Rattle.circulant.proofs.Circling.{near, list_more}
use Rattle.circulant.proofs.cells.Cells.lists.Goals as goal

same_line : (l : Line) (z : Cells) (s : Side) (n : ℕ) → l.cells ≡ z → l.side ≡ s → l.number ≡ n → turns_of l.side l.cells.grid l.cells.cells.now l.number ≡ turns_of s z.grid z.cells.now n
same_line l z s n a b c = λ i. turns_of (b i) (a i).grid (a i).cells.now (c i)

pub add_list-requires-clause-near : goal.add_list-requires-clause-near
add_list-requires-clause-near c =
    let z = c.args.self.now in
    let line = same_line c.line.result z c.args.side c.loop-number.number c.line.ensures.cells c.line.ensures.side c.line.ensures.number in
    All-same (λ (t : Turn). t.start ≤ stride) _ _ (c.deref.ensures.value ∙ c.in_ok-turns.ensures ∙ line) (near c.args.side z.grid z.cells.now c.loop-number.number)

pub loop-offset-preserved : goal.loop-offset-preserved
loop-offset-preserved c =
    let z = c.args.self.now in
    let line = same_line c.line.result z c.args.side c.loop-number.number c.line.ensures.cells c.line.ensures.side c.line.ensures.number in
    let turns = c.deref.ensures.value ∙ c.in_ok-turns.ensures ∙ line in
    let added = c.in_ok-add_list.ensures in
    let from_none = ap (λ o. o ++ map (landing z.grid.size c.loop-offset.offset) c.deref.result.now) c.loop-offset.invariant.1 in
    let more = list_more c.args.side z.grid z.cells.now c.loop-number.number c.loop-offset.offset c.loop-offset-test.true in
    ((cc), added.1)
