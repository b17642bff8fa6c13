-- The part with this number is seated.
use Rattle.std.proofs.Common.{◌≡◌, ◌≤◌, length, sym, subst}
use Rattle.std.specs.Prelude.{slice_index_or}
use Rattle.machine_parts.specs.declared.part.MachinePart.{MachinePart}
use Rattle.machine_parts.specs.Parts.{Stands}
use Rattle.machine_parts.specs.Evaluating.{IsSeated}
use Rattle.machine_parts.proofs.PartLemmas.{same_part}
use Rattle.part_steps.specs.Workspaces.{rooms}
use Rattle.unit_step.specs.Columns.{GivesWords}
use Rattle.unit_step.proofs.columns.run_at.Goals as goal

pub run_part-requires-clause-seated : goal.run_part-requires-clause-seated
run_part-requires-clause-seated c =
    subst (IsSeated (length c.args.hi.now) (rooms c.args.workspace.now)) (sym c.index-parts-k.is)
    (c.requires.seated c.args.k c.index-parts-k.result c.requires.inside)

pub run_part-requires-clause-highs : goal.run_part-requires-clause-highs
run_part-requires-clause-highs c =
    subst (λ (part : MachinePart). part.members ≤ length c.args.out_hi.now) (sym c.index-parts-k.is)
    (c.requires.highs c.args.k c.index-parts-k.result c.requires.inside)

pub returns-clause-gives : goal.returns-clause-gives
returns-clause-gives c = λ part stands.
    let own = c.index-parts-k.result in
    let here : slice_index_or c.args.parts.now c.args.k own ≡ own = sym c.index-parts-k.is in
    let its : Stands c.args.parts.now c.args.k own = record { inside = c.requires.inside; here = here } in
    subst (λ (one : MachinePart). GivesWords one c.args.hi.now c.args.lo.now c.run_part.new.out_hi c.run_part.new.out_lo)
    (same_part c.args.parts.now c.args.k own part its stands) c.run_part.ensures.gives
