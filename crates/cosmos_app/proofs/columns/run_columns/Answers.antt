-- The columns start in the circuit, and the printer numbers them.
use Rattle.std.proofs.Common.{◌≡◌, ℕ, ◌<◌, ap, subst, ◌∙◌, arith}
use Rattle.told_lines.specs.Printing.{PrinterData}
use Rattle.column_machine_stage.specs.Stages.{StageData, last_held, states_in}
use Rattle.session_meaning.specs.Columns.{column_of}
use Rattle.run_ends.specs.Stops.{faults_written, IsRefusedOnce}
use Rattle.cosmos_app.proofs.PurposeLemmas.{told_columns}
use Rattle.cosmos_app.proofs.columns.run_columns.Goals as goal

pub over-session-requires-clause-some : goal.over-session-requires-clause-some
over-session-requires-clause-some g c = omega (arith, c.in_ok-stage.ensures.columns)

pub over-session-requires-clause-start : goal.over-session-requires-clause-start
over-session-requires-clause-start g c = λ column inside.
    let within : column < c.args.columns.count = subst (λ (n : ℕ). column < n) c.in_ok-stage.ensures.columns inside in
    (rw (c.nodes.ensures, c.graph.ensures.value) at c.in_ok-stage.ensures.states) column within

pub over-session-requires-clause-last : goal.over-session-requires-clause-last
over-session-requires-clause-last g c = ap last_held c.in_ok-stage.ensures.machine

pub over-session-requires-clause-serves : goal.over-session-requires-clause-serves
over-session-requires-clause-serves g c = λ kept. c.in_ok-stage.ensures.serves c.args.circuit.graph kept

pub run_in_columns-requires : goal.run_in_columns-requires
run_in_columns-requires g c = ap (λ (printer : PrinterData). printer.page.numbered) c.set_numbered.ensures

pub returns-clause-told : goal.returns-clause-told
returns-clause-told g c =
    let stage = c.in_ok-stage.stage in
    let session = c.over-session.result in
    let same : session.stage.columns ≡ stage.columns = ap (λ (s : StageData). s.columns) c.over-session.ensures.stage in
    told_columns c.args.columns.count session.stage.columns c.args.circuit (column_of states_in session) c.args.text.now c.args.out.now c.set_numbered.new.self
    c.run_in_columns.new.out.page.written (g.A.Analyst.analysed c.args.analyst.now) (g.A.Analyst.analysed c.run_in_columns.new.analyst)
    c.run_in_columns.result
    (same ∙ c.in_ok-stage.ensures.columns) (λ column inside. c.over-session.ensures.start column (subst (λ (n : ℕ). column < n) same inside))
    c.set_numbered.ensures c.run_in_columns.ensures.told

pub returns-clause-write : goal.returns-clause-write
returns-clause-write g c =
    c.run_in_columns.ensures.write ∙ ap (λ (printer : PrinterData). faults_written printer.faults c.run_in_columns.result) c.set_numbered.ensures

pub returns-clause-refused : goal.returns-clause-refused
returns-clause-refused g c =
    subst (λ (printer : PrinterData). IsRefusedOnce printer.refusals c.run_in_columns.new.out.refusals c.run_in_columns.result) c.set_numbered.ensures
    c.run_in_columns.ensures.refused
