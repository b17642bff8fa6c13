-- A listed node more is noted, and at the end all are.
use Rattle.std.proofs.Common.{◌≡◌, length, subst, sym, arith}
use Rattle.std.proofs.lemmas.List.Elements.{Contains-get_or}
use Rattle.state_cover.proofs.CoverLemmas.{SoFar, so_far-more, is_after, knows_after}
use Rattle.state_cover.proofs.cover.CoverObserver.see.Goals as goal

pub note-requires-clause-inside : goal.note-requires-clause-inside
note-requires-clause-inside g c =
    let (old, knows, lists) = c.requires in
    let below = lists.inside _ (Contains-get_or (g.M.Moved.changed c.args.moved.now) c.loop-at.at 0 (omega (arith, c.loop-at-test.true, c.loop-at.invariant.end))) in
    omega (arith, below, c.changed_node.ensures, knows.count, c.loop-at.invariant.so_far.count)

pub note-requires-clause-there : goal.note-requires-clause-there
note-requires-clause-there g c =
    let (old, knows, lists) = c.requires in
    let below = lists.inside _ (Contains-get_or (g.M.Moved.changed c.args.moved.now) c.loop-at.at 0 (omega (arith, c.loop-at-test.true, c.loop-at.invariant.end))) in
    omega (arith, below, c.changed_node.ensures, lists.count)

pub loop-at-preserved : goal.loop-at-preserved
loop-at-preserved g c = record {
  so_far = so_far-more (g.M.Moved.changed c.args.moved.now) (g.M.Moved.state c.args.moved.now) c.args.self.now c.loop-at.self c.note.new.self c.loop-at.at
      c.changed_node.result (sym c.changed_node.ensures) c.loop-at.invariant.so_far c.note.ensures;
  end = c.change_count-at-end.ensures;
}

pub returns-clause-seen : goal.returns-clause-seen
returns-clause-seen g c =
    let (old, knows, lists) = c.requires in
    let all : c.loop-at.at ≡ length (g.M.Moved.changed c.args.moved.now) = omega (arith, c.loop-at.invariant.end) in
    is_after _ old _ _ _ lists knows (subst (SoFar _ _ _ _) all c.loop-at.invariant.so_far)

pub returns-clause-knows : goal.returns-clause-knows
returns-clause-knows g c =
    let (old, knows, lists) = c.requires in
    let all : c.loop-at.at ≡ length (g.M.Moved.changed c.args.moved.now) = omega (arith, c.loop-at.invariant.end) in
    knows_after _ old _ _ _ lists knows (subst (SoFar _ _ _ _) all c.loop-at.invariant.so_far)
