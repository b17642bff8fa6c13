-- One part more is evaluated.
use Rattle.std.proofs.Common.{◌≡◌, ◌<◌, ◌≤◌, ℕ, [], ◌∷◌, ◌++◌, All, Vec, Global, false, length, sym, ap, subst, ◌∙◌, arith}
use Rattle.std.proofs.lemmas.List.{length-set}
use Rattle.machine_parts.specs.declared.part.MachinePart.{MachinePart}
use Rattle.machine_parts.specs.Parts.{Stands}
use Rattle.machine_parts.specs.Marking.{members_of}
use Rattle.machine_parts.proofs.MarkLemmas.{marked_sum-cleared}
use Rattle.machine_parts.proofs.SetMarks.{marked_inside}
use Rattle.machine_laws.specs.Machines.{MachineData}
use Rattle.machine_laws.proofs.StayingParts.{part_here}
use Rattle.column_machines.specs.Evaluating.{rooms, Rooms, Reports}
use Rattle.column_machines.proofs.EvaluationLemmas.{Evaluated-more, done_room-more}
use Rattle.column_machines.proofs.evaluation.evaluate_all.Goals as goal

pub evaluate-requires : goal.evaluate-requires
evaluate-requires c =
    let so_far = c.loop-k.invariant in
    let parts = c.args.machine.now.parts in
    let marks = c.loop-k.agenda in
    let k = c.in-Some.k in
    let within : k < length parts = omega (arith, marked_inside marks k c.in-Some.ensures.marked, c.loop-k.invariant.count, c.requires.counted) in
    let machine = so_far.machine in
    let room = ap (λ (room : Rooms). room.outs) so_far.rooms in
    record {
      inside = subst (λ (m : MachineData). k < length m.parts) (sym machine) within;
      words = c.requires.words;
      nodes = subst (λ (m : MachineData). length c.args.hi.now ≡ length m.state) (sym machine) c.requires.nodes;
      outs = subst (λ (m : MachineData). All (λ part. part.members ≤ (rooms c.loop-k.workspace).outs) m.parts) (sym machine)
          (subst (λ n. All (λ (part : MachinePart). part.members ≤ n) parts) (sym room) c.requires.outs);
      rails = so_far.rails;
      room = λ part stands.
          let stood : Stands parts k part = subst (λ (m : MachineData). Stands m.parts k part) machine stands in
          let less = marked_sum-cleared members_of parts marks k part stood.inside stood.here c.in-Some.ensures.marked in
          omega (arith, less, so_far.changes_room);
    }

pub loop-k-preserved : goal.loop-k-preserved
loop-k-preserved c =
    let k = c.in-Some.k in
    let parts = c.args.machine.now.parts in
    let marks = c.loop-k.agenda in
    let marked = c.in-Some.ensures.marked in
    let cleared = c.in-Some.ensures.cleared in
    let so_far = c.loop-k.invariant in
    let within : k < length parts = omega (arith, marked_inside marks k c.in-Some.ensures.marked, c.loop-k.invariant.count, c.requires.counted) in
    let (part, stands) = part_here parts k within in
    let there : Stands c.loop-k.machine.parts k part = subst (λ (m : MachineData). Stands m.parts k part) (sym so_far.machine) stands in
    let reports = subst (λ (m : MachineData). Reports c.args.joining m.parts c.args.used c.args.hi.now c.args.lo.now k c.loop-k.workspace.changes.items c.evaluate.new.workspace.changes.items)
    so_far.machine c.evaluate.ensures.changes in
    let changes_room = ap (λ (room : Rooms). room.changes) c.evaluate.ensures.rooms in
    let more = Evaluated-more c.args.joining parts c.args.used c.args.hi.now c.args.lo.now c.args.agenda.now marks
    c.loop-k.workspace.changes.items c.evaluate.new.workspace.changes.items c.loop-k.workspace.done.items k marked reports so_far.evaluated in
    let done = c.evaluate.ensures.done in
    let done_are : c.push_reserved.new.self.items ≡ c.loop-k.workspace.done.items ++ k ∷ [] =
    c.push_reserved.ensures.items ∙ ap (λ (list : Vec ℕ Global). list.items ++ k ∷ []) done in
    let same = c.evaluate.ensures.rooms ∙ so_far.rooms in
    let parts_same = c.push_reserved.ensures.capacity ∙ ap (λ (room : Rooms). room.parts) same in
    record {
      evaluated = rw (cleared, done_are) more;
      machine = c.evaluate.ensures.machine ∙ so_far.machine;
      count = ap length cleared ∙ (length-set marks k false ∙ so_far.count);
      rooms = λ i. record {
        outs = ap (λ (room : Rooms). room.outs) same i;
        changes = ap (λ (room : Rooms). room.changes) same i;
        parts = parts_same i;
      };
      rails = c.evaluate.ensures.rails;
      changes_room = rw cleared
          (omega (arith, marked_sum-cleared members_of parts marks k part stands.inside stands.here marked, so_far.changes_room, c.evaluate.ensures.few part there, changes_room));
      done_room = rw cleared
          (done_room-more marks k c.loop-k.workspace.done c.evaluate.new.workspace.done c.push_reserved.new.self marked so_far.done_room done
          c.push_reserved.ensures.len c.push_reserved.ensures.capacity);
    }
