-- What was told of the run is told of its end.
use Rattle.std.proofs.Common.{ℕ, List, Option, sym, ap, subst, ◌∙◌}
use Rattle.line_words.specs.Files as file
use Rattle.run_ends.specs.Stops.{IsRefusedOnce}
use Rattle.symbol_meaning.specs.Scripts.{NamedStop, before_stop}
use Rattle.symbol_reading.specs.declared.reading.ScriptRead.{ScriptRead}
use Rattle.symbol_run.specs.Turns.{faults_stopped, RefusedStopped}
use Rattle.symbol_told.specs.Printing.{Page}
use Rattle.symbol_app.specs.Symbolic.{IsSymbolic, IsToldInAll, RunsOutAt}
use Rattle.symbol_app.proofs.SymbolLemmas.{run_faults, run_refused, run_told, run_unread}
use Rattle.symbol_app.proofs.symbols.run_session.Goals as goal

pub run_script-end-requires-clause-serves : goal.run_script-end-requires-clause-serves
run_script-end-requires-clause-serves g c =
    subst (λ (stop : Option NamedStop). g.M.LineSession.serves c.args.session (file.cut_line c.args.text.now) (before_stop stop (file.lines_in c.args.text.now)))
    (sym (ap (λ (read : ScriptRead). read.stop) c.requires.read)) c.requires.serves

pub run_script-end-requires-clause-stop : goal.run_script-end-requires-clause-stop
run_script-end-requires-clause-stop g c = ap (λ (read : ScriptRead). read.stop) c.requires.read

pub run_script-end-requires-clause-variables : goal.run_script-end-requires-clause-variables
run_script-end-requires-clause-variables g c =
    ap (λ (page : Page). page.variables) c.new-page.ensures.page ∙ ap (λ (read : ScriptRead). read.variables) c.requires.read

pub run_script-end-requires-clause-unmissed : goal.run_script-end-requires-clause-unmissed
run_script-end-requires-clause-unmissed g c = ap (λ (page : Page). page.missed) c.new-page.ensures.page

pub returns-in-Ok-clause-told : goal.returns-in-Ok-clause-told
returns-in-Ok-clause-told g c = λ circuit starts.
    let asked = g.A.Analyst.analysed c.args.analyst.now in
    let known = g.A.Analyst.analysed c.run_script-end.new.analyst in
    let right = IsSymbolic c.args.text.now circuit in
    let out = RunsOutAt c.args.text.now circuit in
    subst (λ (new : Option (List ℕ)). IsToldInAll right out (g.S.Sink.written c.args.out) new asked known c.end_of_run.result) (sym c.into_sink.ensures.written)
    (subst (λ (old : Option (List ℕ)). IsToldInAll right out old c.run_script-end.new.out.page.written asked known c.end_of_run.result)
    (ap (λ (page : Page). page.written) c.new-page.ensures.page)
    (run_told c.args.read.bound c.run_script-end.result c.end_of_run.result c.end_of_run.ensures c.args.text.now circuit
    c.new-page.result.page.written c.run_script-end.new.out.page.written asked known (ap (λ (read : ScriptRead). read.bound) c.requires.read)
    (c.run_script-end.ensures.told _ starts)))

pub returns-in-Ok-clause-no_read : goal.returns-in-Ok-clause-no_read
returns-in-Ok-clause-no_read g c = run_unread c.args.read.bound c.run_script-end.result c.end_of_run.result c.end_of_run.ensures

pub returns-in-Ok-clause-write : goal.returns-in-Ok-clause-write
returns-in-Ok-clause-write g c =
    c.into_sink.ensures.faults ∙ c.run_script-end.ensures.write ∙ ap (λ (n : ℕ). faults_stopped n c.run_script-end.result) c.new-page.ensures.faults
    ∙ run_faults c.args.read.bound c.run_script-end.result c.end_of_run.result c.end_of_run.ensures (g.S.Sink.faults c.args.out)

pub returns-in-Ok-clause-refused : goal.returns-in-Ok-clause-refused
returns-in-Ok-clause-refused g c =
    subst (λ (now : ℕ). IsRefusedOnce (g.S.Sink.refusals c.args.out) now c.end_of_run.result) (sym c.into_sink.ensures.refusals)
    (run_refused c.args.read.bound c.run_script-end.result c.end_of_run.result c.end_of_run.ensures (g.S.Sink.refusals c.args.out)
    c.run_script-end.new.out.refusals
    (subst (λ (before : ℕ). RefusedStopped before c.run_script-end.new.out.refusals c.run_script-end.result) c.new-page.ensures.refusals
    c.run_script-end.ensures.refused))
