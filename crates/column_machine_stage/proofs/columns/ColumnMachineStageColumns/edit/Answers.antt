-- What served the graph before the edit can follow it, and serves the one after it.
use Rattle.std.proofs.Common.{arith}
use Rattle.column_machine_stage.proofs.ColumnLemmas.{length-column_states-min}
use Rattle.column_machine_stage.proofs.EditLemmas.{follows_served, serves_edited, wired_undone}
use Rattle.column_machine_stage.proofs.columns.ColumnMachineStageColumns.edit.Goals as goal

pub follow-requires : goal.follow-requires
follow-requires c =
    let (before, undone, sound, room, serves) = c.requires.before in
    record {
      covers = follows_served before c.args.graph.now c.args.change.now undone c.args.self.now.large _ c.args.self.now.machine serves;
      wired = wired_undone before c.args.graph.now c.args.change.now undone;
      room = omega (
        arith,
        room,
        (sound 0 (omega (arith, c.count-some.ensures.some, c.count-some.ensures.value))).counted,
        length-column_states-min 0 c.args.self.now.hi c.args.self.now.lo,
      );
      last = c.requires.last;
    }

pub returns-clause-serves : goal.returns-clause-serves
returns-clause-serves c =
    let (before, undone, sound, room, serves) = c.requires.before in
    serves_edited before c.args.graph.now c.args.change.now undone c.graphs_are_wired.ensures _ c.args.self.now c.follow.new.self c.follow.ensures.machine
    c.follow.ensures.large serves

pub returns-clause-did : goal.returns-clause-did
returns-clause-did c = record { columns = c.follow.ensures.columns; each = c.follow.ensures.states; machine = c.follow.ensures.machine }
