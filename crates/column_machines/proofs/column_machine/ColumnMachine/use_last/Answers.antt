use Rattle.std.proofs.Common.{sym, subst}
use Rattle.analysis_cache.specs.Keeping.{texts_of}
use Rattle.analysis_cache.proofs.OrderLemmas.{used_texts-none}
use Rattle.column_machines.specs.declared.column_machine.ColumnMachine.{ColumnMachine}
use Rattle.column_machines.specs.Editing.{AreKeptIn}
use Rattle.column_machines.specs.Moving.{last_in}
use Rattle.column_machines.proofs.column_machine.ColumnMachine.use_last.Goals as goal

pub use_last-requires : goal.use_last-requires
use_last-requires c = subst (λ (one : ColumnMachine). AreKeptIn (last_in one) (texts_of c.args.kept.now)) c.in-Together.is c.requires

pub returns-in-Together-clause-texts : goal.returns-in-Together-clause-texts
returns-in-Together-clause-texts c = rw c.in-Together.is c.use_last.ensures.texts

pub returns-in-InTurn-clause-texts : goal.returns-in-InTurn-clause-texts
returns-in-InTurn-clause-texts c = rw c.in-InTurn.is (sym (used_texts-none (texts_of c.args.kept.now)))
