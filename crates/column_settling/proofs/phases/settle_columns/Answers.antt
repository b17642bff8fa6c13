-- All columns rest, or all join from the limit on.
use Rattle.std.proofs.Common.{◌≡◌, subst}
use Rattle.std.proofs.lemmas.Result.{err_from_is_err_and}
use Rattle.column_settling.specs.Together.{StepTogether, JoinTogether}
use Rattle.column_settling.proofs.JoiningLemmas.{together-rests, together-joins}
use Rattle.column_settling.proofs.ReachingLemmas.{reaches_both}
use Rattle.column_settling.proofs.phases.settle_columns.Goals as goal

pub returns-then-rest-clause-settles : goal.returns-then-rest-clause-settles
returns-then-rest-clause-settles g c =
    together-rests c.args.graph.now (g.M.ColumnStepper.columns c.args.m.now) c.args.limit c.in_ok-steps.steps (g.M.ColumnStepper.state c.args.m.now)
    (g.M.ColumnStepper.state c.step_columns.new.m) (c.in_ok-steps.ensures.together c.requires.fits) (c.in_ok-steps.ensures.rest c.requires.fits c.if-rest.true)

pub returns-clause-settles : goal.returns-clause-settles
returns-clause-settles g c =
    let graph = c.args.graph.now in
    let start = g.M.ColumnStepper.state c.args.m.now in
    let mid = g.M.ColumnStepper.state c.step_columns.new.m in
    let new = g.M.ColumnStepper.state c.join_columns.new.m in
    let columns = g.M.ColumnStepper.columns c.args.m.now in
    let last : c.in_ok-steps.steps ≡ c.args.limit = c.in_ok-steps.ensures.limited c.if-rest.false in
    let stepped : StepTogether graph columns c.args.limit start mid c.args.limit =
    subst (λ n. StepTogether graph columns c.args.limit start mid n) last (c.in_ok-steps.ensures.together c.requires.fits) in
    let joined : JoinTogether graph columns mid new c.in_ok-more.more =
    subst (λ n. JoinTogether graph n mid new c.in_ok-more.more) c.step_columns.ensures.columns c.in_ok-more.ensures.together in
    rw last (together-joins graph columns c.args.limit c.in_ok-more.more start mid new stepped joined)

pub returns-clause-keeps : goal.returns-clause-keeps
returns-clause-keeps g c =
    reaches_both g.M.ColumnStepper.keeps c.args.m.now c.step_columns.new.m c.join_columns.new.m c.step_columns.ensures.keeps c.join_columns.ensures.keeps

pub returns-in_err-more-clause-keeps : goal.returns-in_err-more-clause-keeps
returns-in_err-more-clause-keeps g c =
    reaches_both g.M.ColumnStepper.keeps c.args.m.now c.step_columns.new.m c.join_columns.new.m c.step_columns.ensures.keeps c.join_columns.ensures.keeps

-- what a fault tells that is passed on is so still
pub returns-in_err-steps-clause-spent : goal.returns-in_err-steps-clause-spent
returns-in_err-steps-clause-spent g c =
    let p = err_from_is_err_and c.from_residual.result c.from_residual.ensures.1 in
    rw (p.1, p.2) c.in_err-steps.ensures.spent

pub returns-in_err-more-clause-spent : goal.returns-in_err-more-clause-spent
returns-in_err-more-clause-spent g c =
    let p = err_from_is_err_and c.from_residual-in_err-more.result c.from_residual-in_err-more.ensures.1 in
    rw (p.1, p.2) c.in_err-more.ensures.spent
