-- The part with this number is noted.
use Rattle.std.proofs.Common.{◌≡◌, ◌≤◌, length, sym, ap, subst, arith}
use Rattle.std.specs.Prelude.{slice_index_or}
use Rattle.machine_parts.specs.declared.part.MachinePart.{MachinePart}
use Rattle.machine_parts.specs.Parts.{Stands}
use Rattle.machine_parts.specs.Evaluating as single
use Rattle.machine_parts.proofs.PartLemmas.{same_part}
use Rattle.column_machines.specs.Evaluating.{rooms}
use Rattle.column_machines.proofs.evaluation.note_part.Goals as goal

pub note_outputs-requires-clause-seated : goal.note_outputs-requires-clause-seated
note_outputs-requires-clause-seated c =
    let (room, seated) = c.requires.seated in
    (room, subst (single.IsSeated (length c.args.hi.now) room) (sym c.index-parts-k.is) (seated c.args.k c.index-parts-k.result c.requires.inside))

pub note_outputs-requires-clause-outs : goal.note_outputs-requires-clause-outs
note_outputs-requires-clause-outs c =
    subst (λ (part : MachinePart). part.members ≤ (rooms c.args.workspace.now).outs) (sym c.index-parts-k.is) (c.requires.outs c.args.k c.index-parts-k.result c.requires.inside)

pub note_outputs-requires-clause-room : goal.note_outputs-requires-clause-room
note_outputs-requires-clause-room c = c.requires.room c.index-parts-k.result (record { inside = c.requires.inside; here = sym c.index-parts-k.is })

pub note_outputs-requires-clause-gives : goal.note_outputs-requires-clause-gives
note_outputs-requires-clause-gives c = c.requires.gives c.index-parts-k.result (record { inside = c.requires.inside; here = sym c.index-parts-k.is })

pub returns-clause-changes : goal.returns-clause-changes
returns-clause-changes c = c.note_outputs.ensures.changes c.args.parts.now c.args.k (record { inside = c.requires.inside; here = sym c.index-parts-k.is })

pub returns-clause-few : goal.returns-clause-few
returns-clause-few c = λ part stands.
    let here : slice_index_or c.args.parts.now c.args.k c.index-parts-k.result ≡ c.index-parts-k.result = sym c.index-parts-k.is in
    let its : Stands c.args.parts.now c.args.k c.index-parts-k.result = record { inside = c.requires.inside; here = here } in
    let same = same_part c.args.parts.now c.args.k c.index-parts-k.result part its stands in
    omega (arith, c.note_outputs.ensures.few, ap (λ (one : MachinePart). one.members) same)
