-- Each column settled, and a line more is counted; or some steps were taken.
use Rattle.std.proofs.Common.{ap, sym, subst, ◌∙◌}
use Rattle.std.proofs.lemmas.Result.{err_from_is_err_and}
use Rattle.column_stage.specs.Truths.{KeepsGiven}
use Rattle.session_meaning.proofs.TruthLemmas.{on_err, ran_out, settled_counted}
use Rattle.cosmos_session.proofs.session.Session.settle_in_all.Goals as goal

pub returns-clause-settles : goal.returns-clause-settles
returns-clause-settles g c =
    settled_counted g.M.Columns.columns g.M.Columns.states c.args.self.now c.move_phase.new.self c.count_line.new.self c.move_phase.ensures.core
    c.count_line.ensures.core c.count_line.ensures.stage c.in_ok-told.told c.in_ok-told.ensures.settles

pub returns-clause-columns : goal.returns-clause-columns
returns-clause-columns g c = ap g.M.Columns.columns c.count_line.ensures.stage ∙ c.move_phase.ensures.columns

pub returns-clause-fits : goal.returns-clause-fits
returns-clause-fits g c = c.count_line.ensures.fits c.move_phase.ensures.fits

pub returns-in_err-told-clause-err : goal.returns-in_err-told-clause-err
returns-in_err-told-clause-err g c =
    on_err c.from_residual.result
    (ran_out g.M.Columns.columns g.M.Columns.states c.args.self.now c.move_phase.new.self c.move_phase.ensures.core)

pub returns-clause-kept : goal.returns-clause-kept
returns-clause-kept g c =
    subst (λ (stage : _). KeepsGiven g.M.Columns.columns g.M.TruthStage.gives g.M.TruthStage.letter_of g.M.TruthStage.bound
    c.args.self.now.stage stage)
    (sym c.count_line.ensures.stage) c.move_phase.ensures.kept

pub returns-in_err-told-clause-spent : goal.returns-in_err-told-clause-spent
returns-in_err-told-clause-spent g c =
    let p = err_from_is_err_and c.from_residual.result c.from_residual.ensures.1 in
    rw (p.1, p.2) c.in_err-told.ensures.spent
