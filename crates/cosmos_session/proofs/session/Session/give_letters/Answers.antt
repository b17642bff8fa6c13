-- What the first column is refused each is; names that aren't refused are in use, and no rails'.
use Rattle.std.proofs.Common.{◌≤◌, ℕ, List}
use Rattle.std.proofs.lemmas.List.Elements.{All-weaker}
use Rattle.std.proofs.lemmas.Result.{err_from_is_err_and}
use Rattle.ternary.specs.declared.tern.Tern.{Tern}
use Rattle.switch_paths.specs.declared.TheConstants.{RAILS}
use Rattle.netlist.specs.Edits.{node_named}
use Rattle.column_script.specs.declared.command.ColumnCommand.TheVariants.{Values}
use Rattle.session_meaning.specs.Columns.{NamesFree}
use Rattle.session_meaning.proofs.InAllLemmas.{letters_in_all, refused_in_all}
use Rattle.session_meaning.proofs.LetterLemmas.{letters_fit, names_free, names_known}
use Rattle.cosmos_session.proofs.session.Session.give_letters.Goals as goal

pub returns-in_err-allow_letters-clause-quiet : goal.returns-in_err-allow_letters-clause-quiet
returns-in_err-allow_letters-clause-quiet g c =
    let stopped = err_from_is_err_and c.from_residual.result c.from_residual.ensures.1 in
    let old = c.args.self.now in
    rw (stopped.1, stopped.2)
    (refused_in_all g.M.Columns.states (g.M.Columns.columns old.stage) old (Values c.args.kind c.args.list.now) c.in_err-allow_letters.field-0.0
    c.in_err-allow_letters.ensures.refused)

pub put_letters-requires-clause-fit : goal.put_letters-requires-clause-fit
put_letters-requires-clause-fit g c =
    let old = c.args.self.now in
    rw c.items.ensures (letters_fit old.core (g.M.Columns.columns old.stage) c.args.kind c.args.list.now c.requires.formed)

pub put_letters-requires-clause-known : goal.put_letters-requires-clause-known
put_letters-requires-clause-known g c =
    let old = c.args.self.now in
    rw c.items.ensures (names_known old.core (g.M.Columns.columns old.stage) c.args.kind c.args.list.now c.in_ok-allow_letters.ensures.allowed)

pub put_letters-requires-clause-past : goal.put_letters-requires-clause-past
put_letters-requires-clause-past g c =
    let old = c.args.self.now in
    rw c.items.ensures
    (All-weaker (λ (item : List ℕ × List Tern). NamesFree old.core.circuit item.0) (λ (item : List ℕ × List Tern). RAILS ≤ node_named old.core.circuit item.0)
    (λ item free. free.1) c.args.list.now
    (names_free old.core (g.M.Columns.columns old.stage) c.args.kind c.args.list.now c.in_ok-allow_letters.ensures.allowed))

pub returns-clause-quiet : goal.returns-clause-quiet
returns-clause-quiet g c =
    letters_in_all g.M.Columns.columns g.M.Columns.states g.M.Columns.did g.met.M.ColumnStage.moves c.args.self.now c.put_letters.new.self c.args.kind c.args.list.now
    c.in_ok-allow_letters.ensures.allowed c.put_letters.ensures.core (rw c.items.ensures at c.put_letters.ensures.stage)

pub returns-clause-stage : goal.returns-clause-stage
returns-clause-stage g c = rw c.items.ensures at c.put_letters.ensures.stage
