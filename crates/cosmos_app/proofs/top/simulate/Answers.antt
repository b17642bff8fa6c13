-- The session starts in the circuit, and the printer numbers no columns.
use Rattle.std.proofs.Common.{ap, subst, ◌∙◌}
use Rattle.told_lines.specs.Printing.{PrinterData}
use Rattle.run_ends.specs.Stops.{faults_written, IsRefusedOnce}
use Rattle.script_meaning.proofs.LowerLemmas.{ready-start}
use Rattle.cosmos_app.proofs.PurposeLemmas.{told_lines}
use Rattle.cosmos_app.proofs.top.simulate.Goals as goal

pub run_lines-requires : goal.run_lines-requires
run_lines-requires g c = rw c.in_ok-session.ensures.core (ready-start c.args.circuit c.requires)

pub returns-clause-told : goal.returns-clause-told
returns-clause-told g c =
    told_lines c.args.circuit c.in_ok-session.session.core c.run_lines.new.session.core c.args.text.now c.args.out.now c.set_numbered.new.self
    c.run_lines.new.out.page (g.A.Analyst.analysed c.args.analyst.now) (g.A.Analyst.analysed c.run_lines.new.analyst) c.run_lines.result
    c.in_ok-session.ensures.core c.set_numbered.ensures c.run_lines.ensures.told

pub returns-clause-write : goal.returns-clause-write
returns-clause-write g c =
    c.run_lines.ensures.write ∙ ap (λ (printer : PrinterData). faults_written printer.faults c.run_lines.result) c.set_numbered.ensures

pub returns-clause-refused : goal.returns-clause-refused
returns-clause-refused g c =
    subst (λ (printer : PrinterData). IsRefusedOnce printer.refusals c.run_lines.new.out.refusals c.run_lines.result) c.set_numbered.ensures
    c.run_lines.ensures.refused
