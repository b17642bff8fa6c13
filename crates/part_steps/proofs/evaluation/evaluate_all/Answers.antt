-- One part more is evaluated, or waits to be, and at the end none waits.
use Rattle.std.proofs.Common.{◌≡◌, ◌<◌, ℕ, [], ◌∷◌, ◌++◌, Vec, Global, Some, None, vec_len, false, length, inl, inr, refl, sym, ap, subst, ◌∙◌, arith}
use Rattle.std.specs.Prelude.{slice_get, vec_capacity}
use Rattle.std.proofs.lemmas.List.{length-set}
use Rattle.std.proofs.lemmas.Option.{slice_get_read}
use Rattle.machine_parts.specs.Marking.{IsMarked, members_of, instructions_of}
use Rattle.machine_parts.specs.Evaluating.{Rooms, IsSeated}
use Rattle.part_steps.specs.Known.{Knows}
use Rattle.part_steps.specs.Workspaces.{rooms}
use Rattle.part_steps.specs.Together.{CanRun, outputs_at, instructions_at}
use Rattle.machine_parts.proofs.MarkLemmas.{count_marked-cleared, marked_sum-cleared}
use Rattle.machine_parts.proofs.SetMarks.{marked_inside}
use Rattle.part_steps.proofs.WaitingLemmas.{none_waits, waiting_sum-none}
use Rattle.part_steps.proofs.EvaluationLemmas.{found_by, codeless_by, no_change_of, CanRun-seated, outputs_seated, instructions_seated, NoteTheirChanges-from_AreSeatsOf, EvaluatedBut-none, EvaluatedBut-run, EvaluatedBut-taken, EvaluatedBut-codeless, Evaluated-from_EvaluatedBut}
use Rattle.part_steps.proofs.CodesLemmas.{pushed_rooms}
use Rattle.part_steps.proofs.evaluation.evaluate_all.Goals as goal

pub loop-k-init : goal.loop-k-init
loop-k-init g c =
    let empty = c.clear_all.ensures in
    let slots = c.clear_all.new.self in
    let codes = c.args.dense.now.codes.items in
    record {
      evaluated = rw (c.requires.changes, c.requires.done) (EvaluatedBut-none c.args.joining c.args.parts.now c.args.state.now c.args.agenda.now.waiting
          c.args.agenda.now.marks c.args.dense.now.seats.items slots empty);
      all = λ one waits. absurd {A = CanRun (length c.args.state.now) (rooms c.args.workspace.now) codes c.args.dense.now.nodes.items one} (none_waits slots empty one waits);
      known = rw c.replace-known.ensures.value c.requires.dense.known;
      count = refl;
      waiting = refl;
      rooms = refl;
      changes_room = omega (arith, waiting_sum-none (outputs_at codes) slots empty, ap length c.requires.changes, c.requires.changes_room);
      done_room = omega (arith, ap length c.requires.done, c.requires.done_room);
      steps = omega (arith, waiting_sum-none (instructions_at codes) slots empty);
    }

pub take_in-requires-clause-run : goal.take_in-requires-clause-run
take_in-requires-clause-run g c =
    let k = c.in-Some.k in
    let parts = c.args.parts.now in
    let codes = c.args.dense.now.codes.items in
    let nodes = c.args.dense.now.nodes.items in
    let seats = c.args.dense.now.seats.items in
    let seat = c.in-Some-index.seat in
    let count = length c.args.state.now in
    let room = rooms c.args.workspace.now in
    let inside : k < length seats =
    omega (arith, marked_inside c.loop-k.agenda.marks k c.in-Some.ensures.marked, c.loop-k.invariant.count, c.requires.counted, c.requires.dense.seats.counted) in
    let there : slice_get seats k ≡ Some (Some seat) = slice_get_read seats (length seats) k _ refl inside c.index.ensures ∙ ap Some c.in-Some-index.is in
    let found = found_by parts codes nodes seats k seat c.requires.dense.seats there in
    let seated = subst (IsSeated count room) found.stands.here (c.requires.seated k found.part found.stands.inside) in
    let same = pushed_rooms c.loop-k.workspace c.push_reserved.new.self c.push_reserved.ensures.capacity ∙ c.loop-k.invariant.rooms in
    subst (λ wide. CanRun count wide codes nodes seat) (sym same)
    (CanRun-seated c.args.joining parts c.args.state.now room codes nodes k found.part seat found.stands found.place seated)

pub loop-k-preserved-in-Some-index : goal.loop-k-preserved-in-Some-index
loop-k-preserved-in-Some-index g c =
    let k = c.in-Some.k in
    let joining = c.args.joining in
    let state = c.args.state.now in
    let parts = c.args.parts.now in
    let codes = c.args.dense.now.codes.items in
    let nodes = c.args.dense.now.nodes.items in
    let seats = c.args.dense.now.seats.items in
    let seat = c.in-Some-index.seat in
    let count = length state in
    let room = rooms c.args.workspace.now in
    let marks = c.loop-k.agenda.marks in
    let marked = c.in-Some.ensures.marked in
    let cleared = c.in-Some.ensures.cleared in
    let so_far = c.loop-k.invariant in
    let inside : k < length seats = omega (arith, marked_inside marks k marked, so_far.count, c.requires.counted, c.requires.dense.seats.counted) in
    let there : slice_get seats k ≡ Some (Some seat) = slice_get_read seats (length seats) k _ refl inside c.index.ensures ∙ ap Some c.in-Some-index.is in
    let found = found_by parts codes nodes seats k seat c.requires.dense.seats there in
    let part = found.part in
    let seated = subst (IsSeated count room) found.stands.here (c.requires.seated k part found.stands.inside) in
    let runs = CanRun-seated joining parts state room codes nodes k part seat found.stands found.place seated in
    let outputs = outputs_seated joining parts state room codes nodes k part seat found.stands found.place seated in
    let instructions = instructions_seated joining parts state room codes nodes k part seat found.stands found.place seated in
    let same = pushed_rooms c.loop-k.workspace c.push_reserved.new.self c.push_reserved.ensures.capacity ∙ so_far.rooms in
    let ready : ¬ IsMarked c.args.agenda.now.waiting k = rw (← so_far.waiting) c.in-Some.ensures.ready in
    let notes = NoteTheirChanges-from_AreSeatsOf joining parts state room codes nodes seats c.requires.dense.seats c.requires.seated in
    let took = c.take_in.ensures in
    let more = EvaluatedBut-taken joining parts state c.args.agenda.now.waiting c.args.agenda.now.marks seats marks c.loop-k.workspace.done.items k marked ready
    codes nodes notes seat there c.loop-k.workspace.bundles c.take_in.new.workspace.bundles c.loop-k.workspace.changes.items c.take_in.new.workspace.changes.items took.takes
    so_far.evaluated in
    let done_are : c.take_in.new.workspace.done.items ≡ c.loop-k.workspace.done.items ++ k ∷ [] =
    ap (λ (list : Vec ℕ Global). list.items) took.done ∙ c.push_reserved.ensures.items in
    let changes_room = ap (λ (room : Rooms). room.changes) took.rooms in
    record {
      evaluated = rw (cleared, done_are) more;
      all = λ one waits.
          elim (took.takes.only one waits) [
            | inl earlier ↦ so_far.all one (took.takes.runs.stays one earlier)
            | inr is ↦ subst (CanRun count room codes nodes) (sym is) runs
          ];
      known = took.known;
      count = ap length cleared ∙ (length-set marks k false ∙ so_far.count);
      waiting = c.in-Some.ensures.waiting ∙ so_far.waiting;
      rooms = took.rooms ∙ same;
      changes_room = rw cleared
          (omega (
            arith,
            marked_sum-cleared members_of parts marks k part found.stands.inside found.stands.here marked,
            so_far.changes_room,
            took.room,
            outputs,
            changes_room,
          ));
      done_room = rw cleared
          (omega (
            arith,
            count_marked-cleared marks k marked,
            so_far.done_room,
            c.push_reserved.ensures.len,
            c.push_reserved.ensures.capacity,
            ap (λ (list : Vec ℕ Global). vec_len list) took.done,
            ap (λ (list : Vec ℕ Global). vec_capacity list) took.done,
          ));
      steps = rw cleared
          (omega (
            arith,
            marked_sum-cleared instructions_of parts marks k part found.stands.inside found.stands.here marked,
            so_far.steps,
            took.steps,
            instructions,
          ));
    }

pub loop-k-preserved : goal.loop-k-preserved
loop-k-preserved g c =
    let k = c.in-Some.k in
    let joining = c.args.joining in
    let state = c.args.state.now in
    let parts = c.args.parts.now in
    let seats = c.args.dense.now.seats.items in
    let marks = c.loop-k.agenda.marks in
    let marked = c.in-Some.ensures.marked in
    let cleared = c.in-Some.ensures.cleared in
    let so_far = c.loop-k.invariant in
    let inside : k < length seats = omega (arith, marked_inside marks k marked, so_far.count, c.requires.counted, c.requires.dense.seats.counted) in
    let there : slice_get seats k ≡ Some None = slice_get_read seats (length seats) k _ refl inside c.index.ensures ∙ ap Some c.in_default-index.is in
    let (part, stands, none) = codeless_by parts c.args.dense.now.codes.items c.args.dense.now.nodes.items seats k c.requires.dense.seats there in
    let ready : ¬ IsMarked c.args.agenda.now.waiting k = rw (← so_far.waiting) c.in-Some.ensures.ready in
    let more = EvaluatedBut-codeless joining parts state c.args.agenda.now.waiting c.args.agenda.now.marks seats marks c.loop-k.workspace.done.items k marked ready
    c.loop-k.workspace.bundles c.loop-k.workspace.changes.items (no_change_of joining parts state k part stands none) so_far.evaluated in
    record {
      evaluated = rw (cleared, c.push_reserved.ensures.items) more;
      all = so_far.all;
      known = so_far.known;
      count = ap length cleared ∙ (length-set marks k false ∙ so_far.count);
      waiting = c.in-Some.ensures.waiting ∙ so_far.waiting;
      rooms = pushed_rooms c.loop-k.workspace c.push_reserved.new.self c.push_reserved.ensures.capacity ∙ so_far.rooms;
      changes_room = rw cleared (omega (arith, marked_sum-cleared members_of parts marks k part stands.inside stands.here marked, so_far.changes_room));
      done_room = rw cleared
          (omega (
            arith,
            count_marked-cleared marks k marked,
            so_far.done_room,
            c.push_reserved.ensures.len,
            c.push_reserved.ensures.capacity,
          ));
      steps = rw cleared (omega (arith, marked_sum-cleared instructions_of parts marks k part stands.inside stands.here marked, so_far.steps));
    }

pub returns-clause-evaluated : goal.returns-clause-evaluated
returns-clause-evaluated g c =
    let joining = c.args.joining in
    let state = c.args.state.now in
    let parts = c.args.parts.now in
    let codes = c.args.dense.now.codes.items in
    let nodes = c.args.dense.now.nodes.items in
    let seats = c.args.dense.now.seats.items in
    let waiting = c.args.agenda.now.waiting in
    let before = c.args.agenda.now.marks in
    let marks = c.loop-k.agenda.marks in
    let done = c.loop-k.workspace.done in
    let slots = c.run_all.new.workspace.bundles in
    let changes = c.run_all.new.workspace.changes.items in
    let notes = NoteTheirChanges-from_AreSeatsOf joining parts state (rooms c.args.workspace.now) codes nodes seats c.requires.dense.seats
    c.requires.seated in
    let run = EvaluatedBut-run joining parts state waiting before seats codes nodes notes marks done.items c.loop-k.workspace.bundles slots
    c.loop-k.workspace.changes.items changes c.run_all.ensures.runs c.loop-k.invariant.evaluated in
    let all = Evaluated-from_EvaluatedBut joining parts state waiting before seats marks slots changes done.items c.run_all.ensures.empty run in
    let same : c.run_all.new.workspace.done.items ≡ done.items = ap (λ (list : Vec ℕ Global). list.items) c.run_all.ensures.done in
    rw (c.in_default.ensures.none, same) all

pub returns-clause-dense : goal.returns-clause-dense
returns-clause-dense g c = record { seats = c.requires.dense.seats; known = c.run_all.ensures.known }
