-- There is room for as many members as all parts have.
use Rattle.std.proofs.Common.{ℕ, subst, arith}
use Rattle.part_lists.specs.Growing.{AddsMarked}
use Rattle.column_machines.specs.Evaluating.{rooms}
use Rattle.column_machines.proofs.MakingLemmas.{HasRoomFor-sum}
use Rattle.column_machines.proofs.edits.make_room.Goals as goal

pub returns-clause-marks : goal.returns-clause-marks
returns-clause-marks c =
    subst (λ (n : ℕ). AddsMarked n c.args.agenda.now c.add_marked.new.agenda) c.parts-parts.ensures c.in_ok-add_marked.ensures

pub returns-clause-runs : goal.returns-clause-runs
returns-clause-runs c =
    let parts = c.args.machine.now.parts in
    let adds = subst (λ (n : ℕ). AddsMarked n c.args.agenda.now c.add_marked.new.agenda) c.parts-parts.ensures c.in_ok-add_marked.ensures in
    record {
      counted = adds.count c.requires.few;
      room_for = HasRoomFor-sum parts c.most_members-members.result (rooms c.widen.new.workspace) c.most_members-members.ensures
          c.in_ok-widen.ensures.outs
          c.in_ok-widen.ensures.changes (omega (arith, c.in_ok-widen.ensures.parts, c.parts-parts.ensures));
    }
