-- The one column is shown; of a report nothing is seen, and the state stays.
use Rattle.std.proofs.Common.{sym, subst}
use Rattle.session_meaning.proofs.OneColumnLemmas.{shared_run}
use Rattle.session_meaning.proofs.OutcomeLemmas.{on_ok, on_ok-map}
use Rattle.session_meaning.proofs.PassingLemmas.{nothing_seen, unseen_yet}
use Rattle.cosmos_session.proofs.session.Session.run_any.Goals as goal

pub returns-in-Report-clause-obeys : goal.returns-in-Report-clause-obeys
returns-in-Report-clause-obeys g c = rw c.in-Report.is c.report.ensures.obeys

pub returns-in-Report-clause-seen : goal.returns-in-Report-clause-seen
returns-in-Report-clause-seen g c = on_ok _ c.report.result (rw c.in-Report.is (nothing_seen g.O.Observer.begin g.O.Observer.see g.O.Observer.rest (g.O.Observer.seen c.args.onlooker.now)))

pub returns-in-Report-clause-knows : goal.returns-in-Report-clause-knows
returns-in-Report-clause-knows g c =
    on_ok-map _ _ c.report.result (λ same. subst (g.O.Observer.knows c.args.onlooker.now) (sym same) c.requires.knows) c.report.ensures.state

pub returns-in-Report-clause-unseen : goal.returns-in-Report-clause-unseen
returns-in-Report-clause-unseen g c = unseen_yet c.args.onlooker.now _ _ _ _ c.report.result

pub run_columns-requires-clause-formed : goal.run_columns-requires-clause-formed
run_columns-requires-clause-formed g c = (c.requires.formed, shared_run c.args.run.now c.in_default.not-Report)

pub run_columns-requires-clause-knows : goal.run_columns-requires-clause-knows
run_columns-requires-clause-knows g c = λ shown. c.requires.knows

pub returns-in_default-clause-obeys : goal.returns-in_default-clause-obeys
returns-in_default-clause-obeys g c = c.run_columns.ensures.obeys

pub returns-in_default-clause-seen : goal.returns-in_default-clause-seen
returns-in_default-clause-seen g c = on_ok-map _ _ c.run_columns.result (λ sees. sees g.met.M.PlainStage.in_sight) c.run_columns.ensures.seen

pub returns-in_default-clause-knows : goal.returns-in_default-clause-knows
returns-in_default-clause-knows g c = on_ok-map _ _ c.run_columns.result (λ knows. knows g.met.M.PlainStage.in_sight) c.run_columns.ensures.knows
