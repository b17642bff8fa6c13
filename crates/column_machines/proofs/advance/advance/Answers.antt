-- A step, from what was noted and written.
use Rattle.std.proofs.Common.{◌≡◌, ◌≤◌, List, All, length, sym, ap, subst, ◌∙◌, arith}
use Rattle.std.specs.Prelude.{Contains, slice_index_or}
use Rattle.std.proofs.lemmas.List.Sums.{count_by-le-length}
use Rattle.std.proofs.lemmas.List.Elements.{Contains-get_or}
use Rattle.machine_parts.specs.declared.part.MachinePart.{MachinePart}
use Rattle.machine_parts.specs.Parts.{AreApart}
use Rattle.machine_parts.specs.Marking.{members_of, MarksAll}
use Rattle.machine_parts.proofs.MarkLemmas.{marked_sum-within}
use Rattle.machine_parts.proofs.SetMarks.{marked_inside}
use Rattle.machine_laws.specs.Machines.{MachineData}
use Rattle.machine_laws.specs.Columns.{AreSeated}
use Rattle.column_machines.specs.Evaluating.{Rooms}
use Rattle.column_machines.specs.Running.{AreWritten, ReadsAny, StaysOn}
use Rattle.column_machines.proofs.EvaluationLemmas.{cleared_rooms}
use Rattle.column_machines.proofs.TakingLemmas.{AreChanged, not_beyond}
use Rattle.column_machines.proofs.StepLemmas.{has_next, StepsTo-taken}
use Rattle.column_machines.proofs.advance.advance.Goals as goal

pub evaluate_all-requires : goal.evaluate_all-requires
evaluate_all-requires c =
    let runs = c.requires.runnable in
    let parts = c.args.machine.now.parts in
    let marks = c.args.agenda.now in
    let same = cleared_rooms c.args.workspace.now c.clear.new.self c.clear-2.new.self c.clear.ensures.capacity c.clear-2.ensures.capacity in
    record {
      counted = runs.counted;
      words = c.requires.words;
      nodes = c.requires.nodes;
      outs = subst (λ (room : Rooms). All (λ part. part.members ≤ room.outs) parts) (sym same) runs.room_for.outs;
      rails = c.requires.rails;
      changes = c.clear.ensures.items;
      done = c.clear-2.ensures.items;
      changes_room = omega (arith, marked_sum-within members_of parts marks, runs.room_for.changes, c.clear.ensures.capacity);
      done_room = omega (arith, count_by-le-length (λ mark. mark) marks, runs.counted, runs.room_for.parts_room, c.clear-2.ensures.capacity);
    }

pub mark_again-requires : goal.mark_again-requires
mark_again-requires c =
    let parts : c.all_parts.result.now ≡ c.args.machine.now.parts = c.all_parts.ensures.value ∙ ap (λ (m : MachineData). m.parts) c.evaluate_all.ensures.machine in
    record {
      counted = c.evaluate_all.ensures.count ∙ c.requires.runnable.counted ∙ ap length (sym parts);
      inside = λ k there.
          let done = subst (λ xs. Contains xs k) c.deref.ensures.value there in
          let marked = c.evaluate_all.ensures.evaluated.marked k done in
          omega (arith, marked_inside c.args.agenda.now k marked, c.requires.runnable.counted, ap length parts);
    }

pub changed_columns-changed-requires-clause-inside : goal.changed_columns-changed-requires-clause-inside
changed_columns-changed-requires-clause-inside c = λ k d within.
    c.evaluate_all.ensures.evaluated.inside _ (subst (λ xs. Contains xs (slice_index_or c.deref-2.result.now k d)) c.deref-2.ensures.value
    (Contains-get_or c.deref-2.result.now k d within))

pub take_over-requires : goal.take_over-requires
take_over-requires c =
    let machine = c.evaluate_all.ensures.machine in
    record {
      words = c.requires.words;
      inside = λ k d within. c.evaluate_all.ensures.evaluated.inside _ (subst (λ xs. Contains xs (slice_index_or c.deref-3.result.now k d)) c.deref-3.ensures.value
          (Contains-get_or c.deref-3.result.now k d within));
      nodes = subst (λ (m : MachineData). length c.args.hi.now ≡ length m.state) (sym machine) c.requires.nodes;
      counted = c.mark_again.ensures.count ∙ c.evaluate_all.ensures.count ∙ c.requires.runnable.counted ∙ ap (λ (m : MachineData). length m.parts) (sym machine);
    }

pub returns-clause-columns_are : goal.returns-clause-columns_are
returns-clause-columns_are c =
    let joining = c.args.joining in
    let used = c.args.used in
    let m = c.args.machine.now in
    let parts = m.parts in
    let marks = c.args.agenda.now in
    let hi = c.args.hi.now in
    let lo = c.args.lo.now in
    let even = c.requires.words in
    let e = c.evaluate_all.ensures in
    let machine = e.machine in
    let seats : AreSeated (length hi) parts =
    subst (λ n. AreSeated n parts) (sym c.requires.nodes)
    (subst (λ (one : MachineData). AreSeated (length one.state) one.parts) machine c.all_parts.ensures.seated) in
    let (room, seated) = seats in
    let apart : AreApart parts = subst (λ (one : MachineData). AreApart one.parts) machine c.all_parts.ensures.apart in
    let parts_are : c.all_parts.result.now ≡ parts = c.all_parts.ensures.value ∙ ap (λ (one : MachineData). one.parts) machine in
    let changes = c.evaluate_all.new.workspace.changes.items in
    let done = c.evaluate_all.new.workspace.done.items in
    let first = c.evaluate_all.new.agenda in
    let second = c.mark_again.new.agenda in
    let third = c.take_over.new.agenda in
    let new_hi = c.take_over.new.hi in
    let new_lo = c.take_over.new.lo in
    let changed = c.changed_columns-changed.result in
    let written = subst (λ xs. AreWritten xs hi lo new_hi new_lo) c.deref-3.ensures.value c.take_over.ensures.written in
    let again = subst (λ (list : List MachinePart). MarksAll (StaysOn joining list done) first second) parts_are
    (subst (λ xs. MarksAll (StaysOn joining c.all_parts.result.now xs) first second) c.deref.ensures.value c.mark_again.ensures) in
    let read = subst (λ (one : MachineData). MarksAll (ReadsAny one.parts changes) second third) machine
    (subst (λ xs. MarksAll (ReadsAny c.evaluate_all.new.machine.parts xs) second third) c.deref-3.ensures.value c.take_over.ensures.marks) in
    let told : AreChanged used hi lo c.deref-2.result.now changed =
    record { set = c.changed_columns-changed.ensures.set; unset = c.changed_columns-changed.ensures.unset } in
    let bits = subst (λ xs. AreChanged used hi lo xs changed) c.deref-2.ensures.value told in
    record {
      highs = written.highs;
      lows = written.lows;
      marks_counted = read.count ∙ (again.count ∙ e.count);
      has = λ column state col. has_next joining used parts marks hi lo room seated apart even first changes done e.evaluated e.rest column state col new_hi new_lo written;
      each = λ column state col.
          StepsTo-taken joining used parts marks hi lo room seated apart even first changes done e.evaluated e.rest column state col new_hi new_lo written
          changed bits second third e.count again read;
      beyond = λ column unused. not_beyond used hi lo changes changed bits column unused;
    }

pub returns-clause-rooms : goal.returns-clause-rooms
returns-clause-rooms c =
    c.evaluate_all.ensures.rooms
    ∙ cleared_rooms c.args.workspace.now c.clear.new.self c.clear-2.new.self c.clear.ensures.capacity c.clear-2.ensures.capacity
