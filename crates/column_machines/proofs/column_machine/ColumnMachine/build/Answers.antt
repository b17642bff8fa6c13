-- The machine fits the graph, and the words are the rails of sound states in each column.
use Rattle.std.proofs.Common.{sym, ◌∙◌}
use Rattle.column_machines.proofs.FittingLemmas.{AreColumns-sound}
use Rattle.column_machines.proofs.TurnLemmas.{FitsInTurn-fresh}
use Rattle.column_machines.proofs.column_machine.ColumnMachine.build.Goals as goal

pub of-requires-clause-is : goal.of-requires-clause-is
of-requires-clause-is g c = record {
  few = c.requires.few;
  columns_are = AreColumns-sound c.args.graph.now c.args.columns c.args.hi.now c.args.lo.now
      (c.requires.lows ∙ sym c.requires.highs) c.requires.sound;
  counted = c.in_ok-machine.ensures.fits.covers.counted ∙ sym c.requires.highs;
}

pub returns-then-has_wide_groups-clause-fits : goal.returns-then-has_wide_groups-clause-fits
returns-then-has_wide_groups-clause-fits g c =
    rw c.in_ok-turns.ensures
    (FitsInTurn-fresh c.args.graph.now c.in_ok-machine.machine c.args.columns c.args.hi.now c.args.lo.now c.in_ok-machine.ensures.fits
    (c.requires.lows ∙ sym c.requires.highs) c.requires.sound)
