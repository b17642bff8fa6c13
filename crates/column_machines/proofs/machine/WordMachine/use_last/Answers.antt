use Rattle.std.proofs.Common.{sym, subst}
use Rattle.analysis_cache.specs.Keeping.{texts_of}
use Rattle.column_machines.specs.Columns.{WordData}
use Rattle.column_machines.specs.Editing.{AreKeptIn}
use Rattle.column_machines.proofs.machine.WordMachine.use_last.Goals as goal

pub use_last-requires : goal.use_last-requires
use_last-requires c = subst (λ (d : WordData). AreKeptIn d.machine.last (texts_of c.args.kept.now)) (sym c.self.view_is) c.requires

pub returns-clause-texts : goal.returns-clause-texts
returns-clause-texts c = rw (← c.self.view_is) c.use_last.ensures.texts
