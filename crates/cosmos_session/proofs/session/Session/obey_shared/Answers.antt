-- A command that takes no step is obeyed quietly in each column.
use Rattle.std.proofs.Common.{refl, subst}
use Rattle.column_stage.proofs.SoundLemmas.{first_of_some}
use Rattle.script_lang.specs.declared.command.Command.{Command}
use Rattle.script_lang.specs.declared.command.Command.TheVariants as family
use Rattle.script_lang.specs.Forms as form
use Rattle.column_script.specs.declared.command.ColumnCommand.TheVariants.{Shared}
use Rattle.column_script.specs.Commands.{IsShared}
use Rattle.session_meaning.specs.Columns.{column_of}
use Rattle.session_meaning.proofs.InAllLemmas.{quietly_faults, quietly_obeys}
use Rattle.session_meaning.proofs.OutcomeLemmas.{on_ok, still_always}
use Rattle.cosmos_session.proofs.session.Session.obey_shared.Goals as goal

pub set_up_columns-requires : goal.set_up_columns-requires
set_up_columns-requires g c = subst (λ (command : Command). form.IsFormed command × IsShared command) c.in-Setup.is c.requires.formed

pub run_columns-requires-clause-formed : goal.run_columns-requires-clause-formed
run_columns-requires-clause-formed g c = subst (λ (command : Command). form.IsFormed command × IsShared command) c.in-Run.is c.requires.formed

-- nobody looks on
pub run_columns-requires-clause-knows : goal.run_columns-requires-clause-knows
run_columns-requires-clause-knows g c = λ shown. tt

pub returns-in-Edit-clause-obeys : goal.returns-in-Edit-clause-obeys
returns-in-Edit-clause-obeys g c =
    let old = c.args.self.now in
    rw c.in-Edit.is (quietly_obeys g.M.Columns.cuts g.L.Lines.hear g.L.Lines.part g.M.Columns.columns g.M.Columns.states g.M.Columns.did old
    c.edit_columns.new.self (Shared (family.Edit c.in-Edit.edit)) _ _ _ (first_of_some (g.M.Columns.columns old.stage) c.requires.session.some) refl
    c.edit_columns.result c.edit_columns.ensures.quiet c.edit_columns.ensures.stage c.edit_columns.ensures.still)

pub returns-in-Edit-clause-faults : goal.returns-in-Edit-clause-faults
returns-in-Edit-clause-faults g c =
    let old = c.args.self.now in
    quietly_faults (g.M.Columns.columns old.stage) (column_of g.M.Columns.states old) (column_of g.M.Columns.states c.edit_columns.new.self)
    (Shared (family.Edit c.in-Edit.edit)) _ (first_of_some (g.M.Columns.columns old.stage) c.requires.session.some) c.edit_columns.result
    c.edit_columns.ensures.quiet

pub returns-in-Setup-clause-obeys : goal.returns-in-Setup-clause-obeys
returns-in-Setup-clause-obeys g c =
    let old = c.args.self.now in
    let new = c.set_up_columns.new.self in
    rw c.in-Setup.is (quietly_obeys g.M.Columns.cuts g.L.Lines.hear g.L.Lines.part g.M.Columns.columns g.M.Columns.states g.M.Columns.did old new
    (Shared (family.Setup c.in-Setup.setup)) _ _ _ (first_of_some (g.M.Columns.columns old.stage) c.requires.session.some) refl
    c.set_up_columns.result
    c.set_up_columns.ensures.quiet (on_ok _ c.set_up_columns.result c.set_up_columns.ensures.stage)
    (still_always g.M.Columns.did old.stage new.stage c.set_up_columns.result c.set_up_columns.ensures.stage))

pub returns-in-Setup-clause-faults : goal.returns-in-Setup-clause-faults
returns-in-Setup-clause-faults g c =
    let old = c.args.self.now in
    quietly_faults (g.M.Columns.columns old.stage) (column_of g.M.Columns.states old) (column_of g.M.Columns.states c.set_up_columns.new.self)
    (Shared (family.Setup c.in-Setup.setup)) _ (first_of_some (g.M.Columns.columns old.stage) c.requires.session.some) c.set_up_columns.result
    c.set_up_columns.ensures.quiet

pub returns-in-Run-clause-obeys : goal.returns-in-Run-clause-obeys
returns-in-Run-clause-obeys g c = rw c.in-Run.is c.run_columns.ensures.obeys
