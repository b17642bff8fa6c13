-- One node more.
use Rattle.std.proofs.Common.{◌<◌, ℕ, List, length, get_or, subst, arith}
use Rattle.std.specs.Prelude.{Contains}
use Rattle.std.proofs.lemmas.List.{take_all}
use Rattle.std.proofs.lemmas.List.Elements.{Contains-get_or}
use Rattle.machine_parts.specs.Marking.{MarksAll}
use Rattle.machine_parts.proofs.MarkLemmas.{MarksAll-more}
use Rattle.column_machines.proofs.uneven.put_changed.Goals as goal

pub insert-requires : goal.insert-requires
insert-requires g c =
    let list = g.M.Moved.changed c.args.moved.now in
    let within : c.loop-at.at < length list = omega (arith, c.loop-at-test.true, c.change_count-count.ensures) in
    omega (arith, c.requires (get_or list c.loop-at.at 0) (Contains-get_or list c.loop-at.at 0 within), c.changed_node.ensures, c.loop-at.invariant.marks.count)

pub loop-at-preserved : goal.loop-at-preserved
loop-at-preserved g c =
    let list = g.M.Moved.changed c.args.moved.now in
    let within : c.loop-at.at < length list = omega (arith, c.loop-at-test.true, c.change_count-count.ensures) in
    let inside = c.requires (get_or list c.loop-at.at 0) (Contains-get_or list c.loop-at.at 0 within) in
    record {
      marks = rw c.insert.ensures.inside
          (MarksAll-more list c.loop-at.at c.changed_node.result c.args.set.now.inside c.loop-at.set.inside within c.changed_node.ensures
          (omega (arith, inside, c.changed_node.ensures, c.loop-at.invariant.marks.count)) c.loop-at.invariant.marks);
    }

pub returns : goal.returns
returns g c =
    let list = g.M.Moved.changed c.args.moved.now in
    subst (λ (xs : List ℕ). MarksAll (Contains xs) c.args.set.now.inside c.loop-at.set.inside)
    (take_all c.loop-at.at list (omega (arith, c.loop-at-test.false, c.change_count-count.ensures))) c.loop-at.invariant.marks
