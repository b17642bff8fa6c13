-- One slot more was run.
use Rattle.std.proofs.Common.{◌<◌, ◌+◌, List, length, sym, ap, subst, ◌∙◌, arith}
use Rattle.std.proofs.lemmas.List.{length-set}
use Rattle.machine_parts.specs.Evaluating.{Rooms}
use Rattle.part_steps.specs.Waiting.{Slot, IsEmptyFrom, IsEmptyBelow}
use Rattle.part_steps.proofs.WaitingLemmas.{IsEmptyFrom-cleared, IsEmptyBelow-cleared}
use Rattle.part_steps.proofs.CodesLemmas.{RunsSome-then}
use Rattle.part_steps.proofs.evaluation.run_all.Goals as goal

pub loop-place-preserved : goal.loop-place-preserved
loop-place-preserved g c =
    let slots = c.loop-place.workspace.bundles in
    let now = c.run_slot.new.workspace.bundles in
    let place = c.loop-place.place in
    let high = c.high-high.result in
    let so_far = c.loop-place.invariant in
    let ran = c.run_slot.ensures in
    let inside : place < length slots = omega (arith, c.loop-place-test.true, so_far.inside, so_far.counted) in
    record {
      runs = RunsSome-then c.args.joining c.args.dense.now.codes.items c.args.dense.now.nodes.items c.args.state.now
          c.args.workspace.now.bundles slots now
          c.args.workspace.now.changes.items c.loop-place.workspace.changes.items c.run_slot.new.workspace.changes.items so_far.runs ran.runs;
      counted = ap (λ (list : List Slot). length list) ran.cleared ∙ (length-set slots place _ ∙ so_far.counted);
      inside = so_far.inside;
      below = subst (IsEmptyBelow (place + 1)) (sym ran.cleared) (IsEmptyBelow-cleared slots place inside so_far.below);
      from = subst (IsEmptyFrom high) (sym ran.cleared) (IsEmptyFrom-cleared slots place inside high so_far.from);
      room = omega (arith, ran.room, so_far.room, ap (λ (room : Rooms). room.changes) ran.rooms);
      steps = omega (arith, ran.steps, so_far.steps);
      known = ran.known;
      done = ran.done ∙ so_far.done;
      rooms = ran.rooms ∙ so_far.rooms;
    }
