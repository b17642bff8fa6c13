-- The good run starts with nothing kept; what is told of the faults beside it, or of the line at which it ended, is the answer.
use Rattle.std.proofs.Common.{◌≡◌, List, None, Option, ℕ, refl, sym, ap, subst, ◌∙◌}
use Rattle.std.proofs.lemmas.Result.{err_from_is_err_and}
use Rattle.netlist.specs.Circuits.{CircuitData}
use Rattle.told_lines.specs.Printing.{PrinterData}
use Rattle.session_meaning.specs.Sessions.{SessionData, start_of}
use Rattle.script_meaning.specs.Halts.{IsCutShort}
use Rattle.run_ends.specs.Ends.{IsToldBy}
use Rattle.run_ends.specs.Stops.{faults_written, IsRefusedOnce}
use Rattle.fault_meaning.specs.Judging.{IsJudgement}
use Rattle.fault_meaning.specs.Runnings.{RunsTo}
use Rattle.fault_meaning.proofs.JudgingLemmas.{told_verdicts, told_cut_short, cut_short}
use Rattle.fault_runs.proofs.judging.judge_from.Goals as goal

pub run_good-requires : goal.run_good-requires
run_good-requires g c =
    subst (λ (session : SessionData). session ≡ record (start_of session.circuit) { kept = session.kept }) (sym c.requires.start) refl

pub refuse_halt-requires : goal.refuse_halt-requires
refuse_halt-requires g c =
    subst (λ (circuit : CircuitData). IsCutShort circuit c.in_ok-good.halt) (sym c.circuit.ensures.value)
    (cut_short c.args.session.core.circuit c.args.script.now c.args.session.core.kept c.run_good.new.session.core (g.A.Analyst.analysed c.args.analyst.now)
    (g.A.Analyst.analysed c.run_good.new.analyst) c.in_ok-good.good c.in_ok-good.halt c.in_default.not-End c.in_ok-good.ensures)

pub returns-in_err-good-clause-write : goal.returns-in_err-good-clause-write
returns-in_err-good-clause-write g c =
    let stop = err_from_is_err_and c.from_residual.result c.from_residual.ensures.1 in
    rw (stop.1, stop.2) refl

pub returns-in-End-clause-told : goal.returns-in-End-clause-told
returns-in-End-clause-told g c =
    let asked = g.A.Analyst.analysed c.args.analyst.now in
    let mid = g.A.Analyst.analysed c.run_good.new.analyst in
    let ran = subst (λ (circuit : CircuitData). RunsTo circuit c.args.script.now c.args.session.core.kept None c.run_good.new.session.core asked mid
    c.in_ok-good.good c.in_ok-good.halt) (ap (λ (session : SessionData). session.circuit) c.requires.start) c.in_ok-good.ensures in
    told_verdicts c.args.circuit.now c.args.script.now c.args.faults.now c.run_good.new.session.core c.args.out.now.page.written
    c.judge_beside.new.out.page.written asked mid c.in_ok-good.good (g.A.Analyst.analysed c.judge_beside.new.analyst) c.judge_beside.result
    c.args.session.core.kept c.in_ok-good.halt (ap (λ (session : SessionData). session.kept) c.requires.start) ran c.in-End.is c.judge_beside.ensures.told

pub returns-in_default-clause-told : goal.returns-in_default-clause-told
returns-in_default-clause-told g c =
    let asked = g.A.Analyst.analysed c.args.analyst.now in
    let mid = g.A.Analyst.analysed c.run_good.new.analyst in
    let page = c.set_numbered.new.self.page in
    let after = c.refuse_halt.new.out.page in
    let ran = subst (λ (circuit : CircuitData). RunsTo circuit c.args.script.now c.args.session.core.kept None c.run_good.new.session.core asked mid
    c.in_ok-good.good c.in_ok-good.halt) (ap (λ (session : SessionData). session.circuit) c.requires.start) c.in_ok-good.ensures in
    subst (λ (written : Option (List ℕ)). IsToldBy (IsJudgement c.args.circuit.now c.args.script.now c.args.faults.now) written after.written asked mid
    c.refuse_halt.result) (ap (λ (printer : PrinterData). printer.page.written) c.set_numbered.ensures)
    (told_cut_short c.args.circuit.now c.args.script.now c.args.faults.now c.run_good.new.session.core page after
    (ap (λ (printer : PrinterData). printer.page.numbered) c.set_numbered.ensures) asked mid c.in_ok-good.good
    c.circuit.result.now c.refuse_halt.result c.args.session.core.kept c.in_ok-good.halt
    (ap (λ (session : SessionData). session.kept) c.requires.start) ran c.circuit.ensures.value c.refuse_halt.ensures.told)

pub returns-in_default-clause-write : goal.returns-in_default-clause-write
returns-in_default-clause-write g c =
    c.refuse_halt.ensures.write ∙ ap (λ (printer : PrinterData). faults_written printer.faults c.refuse_halt.result) c.set_numbered.ensures

pub returns-in_default-clause-refused : goal.returns-in_default-clause-refused
returns-in_default-clause-refused g c =
    subst (λ (printer : PrinterData). IsRefusedOnce printer.refusals c.refuse_halt.new.out.refusals c.refuse_halt.result)
    c.set_numbered.ensures c.refuse_halt.ensures.refused
