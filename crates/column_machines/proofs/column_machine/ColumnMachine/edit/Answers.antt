-- Columns that step together follow the edit; of those that take turns the words are left.
use Rattle.std.proofs.Common.{◌+◌, ◌≤◌, length, sym, subst, arith}
use Rattle.switch_paths.specs.Graphs.{nodes}
use Rattle.channel_groups.specs.Changes.{undo}
use Rattle.analysis_cache.specs.Keeping.{texts_of}
use Rattle.analysis_cache.proofs.OrderLemmas.{used_texts-none}
use Rattle.column_machines.specs.declared.column_machine.ColumnMachine.{ColumnMachine}
use Rattle.column_machines.specs.Editing.{AreKeptIn}
use Rattle.column_machines.specs.Moving.{highs_of, last_in, spare_in, CanFollow}
use Rattle.column_machines.proofs.column_machine.ColumnMachine.edit.Goals as goal

pub edited-requires-clause-covers : goal.edited-requires-clause-covers
edited-requires-clause-covers c = subst (λ (one : ColumnMachine). CanFollow (undo c.args.graph.now c.args.change.now) one) c.in-Together.is c.requires.covers

pub edited-requires-clause-room : goal.edited-requires-clause-room
edited-requires-clause-room c =
    subst (λ (one : ColumnMachine). nodes c.args.graph.now ≤ length (highs_of one) + spare_in one) c.in-Together.is c.requires.room

pub edited-requires-clause-last : goal.edited-requires-clause-last
edited-requires-clause-last c = subst (λ (one : ColumnMachine). AreKeptIn (last_in one) (texts_of c.args.kept.now)) c.in-Together.is c.requires.last

pub returns-in-Together-clause-edits : goal.returns-in-Together-clause-edits
returns-in-Together-clause-edits c = rw c.in-Together.is c.edited.ensures.edits

pub returns-in-Together-clause-rails : goal.returns-in-Together-clause-rails
returns-in-Together-clause-rails c = rw c.in-Together.is c.edited.ensures.rails

pub returns-in-Together-clause-gone : goal.returns-in-Together-clause-gone
returns-in-Together-clause-gone c = rw c.in-Together.is c.edited.ensures.gone

pub words_left-requires : goal.words_left-requires
words_left-requires c =
    let room : nodes c.args.graph.now ≤ length c.in-InTurn.machine.hi + 0 =
    subst (λ (one : ColumnMachine). nodes c.args.graph.now ≤ length (highs_of one) + spare_in one) c.in-InTurn.is c.requires.room in
    omega (arith, room)

pub returns-in-InTurn-clause-rails : goal.returns-in-InTurn-clause-rails
returns-in-InTurn-clause-rails c = rw c.in-InTurn.is c.words_left.ensures

pub returns-in-InTurn-clause-gone : goal.returns-in-InTurn-clause-gone
returns-in-InTurn-clause-gone c = rw c.in-InTurn.is (sym (used_texts-none (texts_of c.args.kept.now)))
