-- Letters are given quietly in each column.
use Rattle.std.proofs.Common.{refl, subst}
use Rattle.column_stage.proofs.SoundLemmas.{first_of_some}
use Rattle.column_script.specs.declared.command.ColumnCommand.{ColumnCommand}
use Rattle.column_script.specs.declared.command.ColumnCommand.TheVariants.{Values}
use Rattle.column_script.specs.Forms.{IsFormed}
use Rattle.session_meaning.specs.Columns.{column_of}
use Rattle.session_meaning.proofs.InAllLemmas.{quietly_faults, quietly_obeys}
use Rattle.session_meaning.proofs.OutcomeLemmas.{still_after}
use Rattle.cosmos_session.proofs.session.Session.obey_columns.Goals as goal

pub give_letters-requires : goal.give_letters-requires
give_letters-requires g c =
    record {
      formed = subst (λ (command : ColumnCommand). IsFormed (g.M.Columns.columns c.args.self.now.stage) command)
          c.in-Values.is c.requires.formed;
    }

pub obey_shared-requires-clause-formed : goal.obey_shared-requires-clause-formed
obey_shared-requires-clause-formed g c =
    subst (λ (command : ColumnCommand). IsFormed (g.M.Columns.columns c.args.self.now.stage) command) c.in-Shared.is c.requires.formed

pub returns-in-Values-clause-obeys : goal.returns-in-Values-clause-obeys
returns-in-Values-clause-obeys g c =
    let old = c.args.self.now in
    let new = c.give_letters.new.self in
    rw c.in-Values.is (quietly_obeys g.M.Columns.cuts g.L.Lines.hear g.L.Lines.part g.M.Columns.columns g.M.Columns.states g.M.Columns.did old new
    (Values c.in-Values.kind c.in-Values.list) _ _ _ (first_of_some (g.M.Columns.columns old.stage) c.requires.session.some) refl
    c.give_letters.result
    c.give_letters.ensures.quiet c.give_letters.ensures.stage (still_after g.M.Columns.did old.stage new.stage c.give_letters.result c.give_letters.ensures.still))

pub returns-in-Values-clause-faults : goal.returns-in-Values-clause-faults
returns-in-Values-clause-faults g c =
    let old = c.args.self.now in
    quietly_faults (g.M.Columns.columns old.stage) (column_of g.M.Columns.states old) (column_of g.M.Columns.states c.give_letters.new.self)
    (Values c.in-Values.kind c.in-Values.list) _ (first_of_some (g.M.Columns.columns old.stage) c.requires.session.some) c.give_letters.result
    c.give_letters.ensures.quiet

pub returns-in-Shared-clause-obeys : goal.returns-in-Shared-clause-obeys
returns-in-Shared-clause-obeys g c = rw c.in-Shared.is c.obey_shared.ensures.obeys
