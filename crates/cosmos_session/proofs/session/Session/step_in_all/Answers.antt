-- Each column took the step, and a line more is counted; or none did.
use Rattle.std.proofs.Common.{ap, sym, subst, ◌∙◌}
use Rattle.std.proofs.lemmas.Result.{err_from_is_err_and}
use Rattle.column_stage.specs.Truths.{KeepsGiven}
use Rattle.session_meaning.proofs.TruthLemmas.{on_err, stays_in_all, stepped_counted}
use Rattle.cosmos_session.proofs.session.Session.step_in_all.Goals as goal

pub returns-clause-steps : goal.returns-clause-steps
returns-clause-steps g c =
    stepped_counted g.M.Columns.columns g.M.Columns.states c.args.self.now c.move_step.new.self c.count_line.new.self c.move_step.ensures.core
    c.count_line.ensures.core c.count_line.ensures.stage c.in_ok-move_step.ensures.steps

pub returns-clause-columns : goal.returns-clause-columns
returns-clause-columns g c = ap g.M.Columns.columns c.count_line.ensures.stage ∙ c.move_step.ensures.columns

pub returns-clause-fits : goal.returns-clause-fits
returns-clause-fits g c = c.count_line.ensures.fits c.move_step.ensures.fits

pub returns-in_err-move_step-clause-err : goal.returns-in_err-move_step-clause-err
returns-in_err-move_step-clause-err g c =
    on_err c.from_residual.result
    (stays_in_all g.M.Columns.columns g.M.Columns.states c.args.self.now c.move_step.new.self c.move_step.ensures.core
    c.in_err-move_step.ensures.stays)

pub returns-clause-kept : goal.returns-clause-kept
returns-clause-kept g c =
    subst (λ (stage : _). KeepsGiven g.M.Columns.columns g.M.TruthStage.gives g.M.TruthStage.letter_of g.M.TruthStage.bound
    c.args.self.now.stage stage)
    (sym c.count_line.ensures.stage) c.move_step.ensures.kept

pub returns-in_err-move_step-clause-spent : goal.returns-in_err-move_step-clause-spent
returns-in_err-move_step-clause-spent g c =
    let p = err_from_is_err_and c.from_residual.result c.from_residual.ensures.1 in
    rw (p.1, p.2) c.in_err-move_step.ensures.spent
