-- The part is run, and noted.
use Rattle.std.proofs.Common.{◌≡◌, ◌<◌, ◌≤◌, List, All, length, vec_len, sym, ap, subst, ◌∙◌, Vec, Global, arith}
use Rattle.machine_parts.specs.declared.part.MachinePart.{MachinePart}
use Rattle.machine_parts.specs.Parts.{Stands}
use Rattle.machine_laws.specs.Machines.{MachineData}
use Rattle.machine_laws.specs.Columns.{AreSeated}
use Rattle.column_machines.specs.declared.evaluation.WordChange.{WordChange}
use Rattle.column_machines.specs.Evaluating.{Rooms, rooms, Reports}
use Rattle.column_machines.proofs.evaluation.evaluate.Goals as goal

pub note_part-requires : goal.note_part-requires
note_part-requires c =
    let m = c.args.machine.now in
    let parts : c.all_parts.result.now ≡ c.args.machine.now.parts = c.all_parts.ensures.value ∙ ap (λ (m : MachineData). m.parts) c.run_part.ensures.machine in
    let room = ap (λ (room : Rooms). room.outs) c.run_part.ensures.rooms in
    let changes = ap (λ (room : Rooms). room.changes) c.run_part.ensures.rooms in
    let seated : AreSeated (length c.args.hi.now) m.parts =
    subst (λ n. AreSeated n m.parts) (sym c.requires.nodes)
    (subst (λ (machine : MachineData). AreSeated (length machine.state) machine.parts) c.run_part.ensures.machine c.all_parts.ensures.seated) in
    record {
      inside = subst (λ (list : List MachinePart). c.args.k < length list) (sym parts) c.requires.inside;
      words = c.requires.words;
      seated = subst (AreSeated (length c.args.hi.now)) (sym parts) seated;
      outs = subst (λ n. All (λ part. part.members ≤ n) c.all_parts.result.now) (sym room)
          (subst (All (λ (part : MachinePart). part.members ≤ (rooms c.args.workspace.now).outs)) (sym parts) c.requires.outs);
      rails = c.run_part.ensures.rails;
      room = λ part stands.
          omega (arith, c.requires.room part (subst (λ (list : List MachinePart). Stands list c.args.k part) parts stands), changes, ap (λ (list : Vec WordChange Global). vec_len list) c.run_part.ensures.changes);
      gives = λ part stands. c.run_part.ensures.gives part (subst (λ (list : List MachinePart). Stands list c.args.k part) parts stands);
    }

pub returns-clause-changes : goal.returns-clause-changes
returns-clause-changes c =
    let parts : c.all_parts.result.now ≡ c.args.machine.now.parts = c.all_parts.ensures.value ∙ ap (λ (m : MachineData). m.parts) c.run_part.ensures.machine in
    subst (λ (old : List WordChange). Reports c.args.joining c.args.machine.now.parts c.args.used c.args.hi.now c.args.lo.now c.args.k old c.note_part.new.workspace.changes.items)
    (ap (λ (list : Vec WordChange Global). list.items) c.run_part.ensures.changes)
    (subst (λ (list : List MachinePart). Reports c.args.joining list c.args.used c.args.hi.now c.args.lo.now c.args.k c.run_part.new.workspace.changes.items c.note_part.new.workspace.changes.items)
    parts c.note_part.ensures.changes)

pub returns-clause-few : goal.returns-clause-few
returns-clause-few c = λ part stands.
    let parts : c.all_parts.result.now ≡ c.args.machine.now.parts = c.all_parts.ensures.value ∙ ap (λ (m : MachineData). m.parts) c.run_part.ensures.machine in
    let there : Stands c.all_parts.result.now c.args.k part = subst (λ (list : List MachinePart). Stands list c.args.k part) (sym parts) stands in
    omega (arith, c.note_part.ensures.few part there, ap (λ (list : Vec WordChange Global). vec_len list) c.run_part.ensures.changes)
