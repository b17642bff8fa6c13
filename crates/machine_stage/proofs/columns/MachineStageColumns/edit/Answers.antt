-- What serves the graph before the edit covers the one that the change undoes to.
use Rattle.std.proofs.Common.{arith, rules}
use Rattle.machine_stage.proofs.PlacingLemmas.{covers-serves}
use Rattle.machine_stage.proofs.ServingLemmas.{serves_edited, serves_undone, wired_undone}
use Rattle.machine_stage.proofs.columns.MachineStageColumns.edit.Goals as goal

pub regroup-requires-clause-covers : goal.regroup-requires-clause-covers
regroup-requires-clause-covers c =
    let (before, undone, sound, room, serves) = c.requires.before in
    covers-serves _ _ _ c.args.self.now.machine (serves_undone before c.args.graph.now c.args.change.now undone _ _ c.args.self.now.machine serves)

pub regroup-requires-clause-wired : goal.regroup-requires-clause-wired
regroup-requires-clause-wired c =
    let (before, undone, sound, room, serves) = c.requires.before in
    wired_undone before c.args.graph.now c.args.change.now undone

pub regroup-requires-clause-room : goal.regroup-requires-clause-room
regroup-requires-clause-room c =
    let (before, undone, sound, room, serves) = c.requires.before in
    omega (arith, room, (sound 0 (omega arith)).counted)

pub returns-clause-serves : goal.returns-clause-serves
returns-clause-serves c =
    let (before, undone, sound, room, serves) = c.requires.before in
    serves_edited before c.args.graph.now c.args.change.now undone (search rules) _ c.args.self.now.state c.regroup.new.self.state
    c.args.self.now.machine c.regroup.new.self.machine c.regroup.ensures.state c.regroup.ensures.machine serves
