-- A report is the effect of its command in the one column.
use Rattle.std.proofs.Common.{Err, List, refl, sym, ap, subst, ◌∙◌}
use Rattle.std.proofs.lemmas.Result.{err_from_is_err_and}
use Rattle.group_text.specs.Texts.{GroupTextData}
use Rattle.circuit_texts.specs.Building.{HasTexts}
use Rattle.script_lang.specs.declared.command.Command.TheVariants as family
use Rattle.script_lang.specs.declared.command.Run.TheVariants as asked
use Rattle.column_script.specs.declared.command.ColumnCommand.TheVariants.{Shared}
use Rattle.session_meaning.specs.Sessions.{SessionData}
use Rattle.session_meaning.proofs.InAllLemmas.{obeys_unheard, run_in_all, stopped_in_all, unready_in_all}
use Rattle.session_meaning.proofs.OneColumnLemmas.{report_moves}
use Rattle.session_meaning.proofs.OutcomeLemmas.{on_ok}
use Rattle.session_meaning.proofs.PassingLemmas.{state-readied}
use Rattle.cosmos_session.proofs.session.Session.report.Goals as goal

pub tell_report-requires-clause-texts : goal.tell_report-requires-clause-texts
tell_report-requires-clause-texts g c =
    let build = c.in_ok-make_ready.ensures.readies.build in
    subst (λ (s : SessionData). (list : List GroupTextData) × HasTexts s.large s.circuit.graph list) (sym build.used) (build.present, build.has)

pub returns-clause-obeys : goal.returns-clause-obeys
returns-clause-obeys g c =
    let old = c.args.self.now in
    let mid = c.make_ready.new.self in
    let new = c.tell_report.new.self in
    let before = g.L.Lines.heard c.args.out.now in
    let after = g.L.Lines.heard c.tell_report.new.out in
    let moves = report_moves g.L.Lines.hear g.L.Lines.part g.M.Columns.columns g.M.Columns.states g.M.Columns.did mid new (g.met.M.PlainStage.one mid.stage)
    c.is_well_formed.ensures.same c.tell_report.ensures.stage before after c.tell_report.result
    (rw c.reserve.ensures.heard at c.tell_report.ensures.report) in
    run_in_all g.M.Columns.cuts g.L.Lines.hear g.L.Lines.part g.M.Columns.columns g.M.Columns.states g.M.Columns.did old asked.Report refl mid _ _
    c.in_ok-make_ready.ensures.readies c.make_ready.ensures.columns c.make_ready.ensures.states new before after _ _ c.tell_report.result moves
    c.tell_report.ensures.cause (rw c.reserve.ensures.refusals at c.tell_report.ensures.refusals)

pub returns-clause-state : goal.returns-clause-state
returns-clause-state g c =
    on_ok _ c.tell_report.result
    (ap (λ (s : SessionData). s.state) c.tell_report.ensures.report.done.moved
    ∙ state-readied g.M.Columns.did c.args.self.now c.make_ready.new.self _ _ c.in_ok-make_ready.ensures.readies)

pub returns-in_err-reserve-clause-obeys : goal.returns-in_err-reserve-clause-obeys
returns-in_err-reserve-clause-obeys g c =
    let stopped = err_from_is_err_and c.from_residual.result c.from_residual.ensures.1 in
    rw (stopped.1, stopped.2, c.reserve.ensures.heard, c.reserve.ensures.refusals)
    (stopped_in_all g.M.Columns.cuts g.L.Lines.hear g.L.Lines.part g.M.Columns.columns g.M.Columns.states g.M.Columns.did c.args.self.now
    (Shared (family.Run asked.Report)) _ _ _)

pub returns-in_err-make_ready-clause-obeys : goal.returns-in_err-make_ready-clause-obeys
returns-in_err-make_ready-clause-obeys g c =
    let stopped = err_from_is_err_and c.from_residual-in_err-make_ready.result c.from_residual-in_err-make_ready.ensures.1 in
    let old = c.args.self.now in
    let mid = c.make_ready.new.self in
    let fault = c.in_err-make_ready.field-0.0 in
    let obeys = unready_in_all g.M.Columns.cuts g.L.Lines.hear g.L.Lines.part g.M.Columns.columns g.M.Columns.states g.M.Columns.did old asked.Report refl mid
    (g.L.Lines.heard c.args.out.now) (g.A.Analyst.analysed c.args.analyst.now) (g.A.Analyst.analysed c.make_ready.new.analyst)
    (g.L.Lines.refusals c.args.out.now) fault c.in_err-make_ready.ensures.readies in
    rw (stopped.1, stopped.2)
    (obeys_unheard g.M.Columns.cuts g.L.Lines.hear g.L.Lines.part g.M.Columns.columns g.M.Columns.states g.M.Columns.did old mid (Shared (family.Run asked.Report))
    (g.L.Lines.heard c.args.out.now) (g.L.Lines.heard c.reserve.new.self) (g.A.Analyst.analysed c.args.analyst.now)
    (g.A.Analyst.analysed c.make_ready.new.analyst) (g.L.Lines.refusals c.args.out.now) (g.L.Lines.refusals c.reserve.new.self) (Err fault)
    c.reserve.ensures.heard c.reserve.ensures.refusals obeys)
