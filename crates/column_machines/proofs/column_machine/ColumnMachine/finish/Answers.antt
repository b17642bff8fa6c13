-- Columns that step together are finished; there are no others here.
use Rattle.std.proofs.Common.{ℕ, ◌<◌, subst}
use Rattle.switch_paths.specs.Rails.{IsSound}
use Rattle.analysis_cache.specs.Keeping.{texts_of}
use Rattle.column_machines.specs.declared.column_machine.ColumnMachine.{ColumnMachine}
use Rattle.column_machines.specs.Editing.{AreKeptIn}
use Rattle.column_machines.specs.Moving.{column_in, columns_of, last_in, CoversInColumns, IsKeptByColumns, IsTogether}
use Rattle.column_machines.proofs.column_machine.ColumnMachine.finish.Goals as goal

pub finish-requires : goal.finish-requires
finish-requires g c =
    let graph = c.args.graph.now in
    let kept = texts_of c.args.kept.now in
    let is = c.in-Together.is in
    record {
      covers = subst (λ (one : ColumnMachine). CoversInColumns graph one) is c.requires.covers;
      railed = c.requires.railed;
      sound = subst (λ (one : ColumnMachine). (column : ℕ) → column < columns_of one → IsSound (column_in one column)) is c.requires.sound;
      known = subst (λ (one : ColumnMachine). IsKeptByColumns graph kept one) is c.requires.known;
      last = subst (λ (one : ColumnMachine). AreKeptIn (last_in one) kept) is c.requires.last;
    }

pub returns-in-Together-clause-columns : goal.returns-in-Together-clause-columns
returns-in-Together-clause-columns g c = rw c.in-Together.is c.finish.ensures.words.columns

pub returns-in-Together-clause-highs : goal.returns-in-Together-clause-highs
returns-in-Together-clause-highs g c = rw c.in-Together.is c.finish.ensures.words.highs

pub returns-in-Together-clause-lows : goal.returns-in-Together-clause-lows
returns-in-Together-clause-lows g c = rw c.in-Together.is c.finish.ensures.words.lows

pub returns-in-Together-clause-builds : goal.returns-in-Together-clause-builds
returns-in-Together-clause-builds g c = rw c.in-Together.is c.finish.ensures.builds

pub returns-in-Together-clause-cut_off : goal.returns-in-Together-clause-cut_off
returns-in-Together-clause-cut_off g c = rw c.in-Together.is c.finish.ensures.cut_off

pub returns-in-InTurn-clause-together : goal.returns-in-InTurn-clause-together
returns-in-InTurn-clause-together g c = absurd (subst IsTogether c.in-InTurn.is c.requires.together)

pub returns-in-InTurn-clause-cut_off : goal.returns-in-InTurn-clause-cut_off
returns-in-InTurn-clause-cut_off g c = absurd (subst IsTogether c.in-InTurn.is c.requires.together)

pub returns-in-InTurn-clause-grown : goal.returns-in-InTurn-clause-grown
returns-in-InTurn-clause-grown g c = absurd (subst IsTogether c.in-InTurn.is c.requires.together)
