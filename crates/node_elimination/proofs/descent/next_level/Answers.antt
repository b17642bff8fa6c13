-- First U, and then D, from what was held before.
use Rattle.std.proofs.Common.{true, false, ◌∙◌, arith}
use Rattle.node_elimination.specs.declared.descent.Levels.{Levels}
use Rattle.node_elimination.proofs.RailLemmas.{IsConstant-extends}
use Rattle.node_elimination.proofs.PassingLemmas.{left-same}
use Rattle.node_elimination.proofs.DescentLemmas.{Grows-next}
use Rattle.node_elimination.proofs.LevelParts.{HaveInputs-extends, ShowsState-extends, HaveDriven-extends, ShowsDriven-extends}
use Rattle.node_elimination.proofs.descent.next_level.Goals as goal

pub reach_members-requires-clause-left : goal.reach_members-requires-clause-left
reach_members-requires-clause-left g c = λ i inside.
    let drives = c.in_ok-drives.ensures in
    left-same c.drive_members.new.system c.args.system.now i drives.left ∙ c.requires.left i (omega (arith, drives.size))

pub reach_members-requires-clause-members : goal.reach_members-requires-clause-members
reach_members-requires-clause-members g c = rw c.in_ok-drives.ensures.size c.requires.members

pub reach_members-requires-clause-inputs : goal.reach_members-requires-clause-inputs
reach_members-requires-clause-inputs g c =
    let inputs = c.args.inputs.now in
    let e = c.in_ok-drives.ensures.extends in
    let have = c.requires.inputs in
    HaveInputs-extends c.args.graph.now _ _ inputs e (IsConstant-extends false _ _ inputs.falsehood e have.falsehood)
    (IsConstant-extends true _ _ inputs.truth e have.truth) have

pub returns-clause-levels : goal.returns-clause-levels
returns-clause-levels g c =
    let drives = c.in_ok-drives.ensures in
    let strong = c.in_ok-strong.ensures in
    record {
      each_strong = strong.count ∙ drives.size;
      formulas = strong.formulas;
      drives = HaveDriven-extends c.args.system.now.size _ _ c.in_ok-drives.drives strong.extends drives.drives;
    }

pub returns-clause-shows : goal.returns-clause-shows
returns-clause-shows g c = λ state vars shows shown.
    let drives = c.in_ok-drives.ensures in
    let strong = c.in_ok-strong.ensures in
    let graph = c.args.graph.now in
    let inputs = c.args.inputs.now in
    record {
      strong = rw drives.size at
          (strong.shows state vars (ShowsState-extends graph _ _ inputs state vars drives.extends c.requires.inputs shows));
      drives = ShowsDriven-extends graph c.args.system.now.size _ _ c.in_ok-drives.drives c.args.level state vars
          strong.extends
          drives.drives (drives.shows state vars shows shown);
    }

pub returns-clause-grows : goal.returns-clause-grows
returns-clause-grows g c =
    let drives = c.in_ok-drives.ensures in
    let strong = c.in_ok-strong.ensures in
    let next : Levels = record { strong = c.in_ok-strong.strong; drives = c.in_ok-drives.drives } in
    Grows-next c.args.inputs.now c.args.above.now next _ _ _ _ _ _ drives.extends strong.extends drives.grows strong.grows
    (omega (arith, drives.rises, strong.rises))
