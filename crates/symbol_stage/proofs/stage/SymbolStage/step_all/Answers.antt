-- The machine takes the step under each valuation, or none.
use Rattle.std.proofs.lemmas.Result.{err_from_is_err_and}
use Rattle.symbol_stage.proofs.ServingLemmas.{serves_next}
use Rattle.symbol_stage.proofs.StayingLemmas.{fits_seen, given_next, on_err}
use Rattle.symbol_stage.proofs.stage.SymbolStage.step_all.Goals as goal

pub returns-clause-columns : goal.returns-clause-columns
returns-clause-columns c = rw (← c.self.view_is) c.in_ok-_moved.ensures.columns

pub returns-in_err-_moved-clause-columns : goal.returns-in_err-_moved-clause-columns
returns-in_err-_moved-clause-columns c = rw (← c.self.view_is) c.in_err-_moved.ensures.columns

pub returns-clause-steps : goal.returns-clause-steps
returns-clause-steps c = rw (← c.self.view_is) (c.in_ok-_moved.ensures.step (fits_seen c.self.view_is c.args.graph.now c.requires))

pub returns-in_err-_moved-clause-err : goal.returns-in_err-_moved-clause-err
returns-in_err-_moved-clause-err c = rw (← c.self.view_is) (on_err c.from_residual.result c.in_err-_moved.ensures.err)

pub returns-clause-serves : goal.returns-clause-serves
returns-clause-serves c = serves_next c.self.view_is c.step.new.self c.args.graph.now c.in_ok-_moved.ensures.fits

pub returns-in_err-_moved-clause-serves : goal.returns-in_err-_moved-clause-serves
returns-in_err-_moved-clause-serves c = serves_next c.self.view_is c.step.new.self c.args.graph.now c.in_err-_moved.ensures.fits

pub returns-clause-fits : goal.returns-clause-fits
returns-clause-fits c = c.in_ok-_moved.ensures.fits (fits_seen c.self.view_is c.args.graph.now c.requires)

pub returns-in_err-_moved-clause-fits : goal.returns-in_err-_moved-clause-fits
returns-in_err-_moved-clause-fits c = c.in_err-_moved.ensures.fits (fits_seen c.self.view_is c.args.graph.now c.requires)

pub returns-clause-kept : goal.returns-clause-kept
returns-clause-kept c =
    given_next c.self.view_is c.step.new.self c.in_ok-_moved.ensures.keeps.kept c.in_ok-_moved.ensures.keeps.bounded

pub returns-in_err-_moved-clause-kept : goal.returns-in_err-_moved-clause-kept
returns-in_err-_moved-clause-kept c =
    given_next c.self.view_is c.step.new.self c.in_err-_moved.ensures.keeps.kept c.in_err-_moved.ensures.keeps.bounded

pub returns-in_err-_moved-clause-spent : goal.returns-in_err-_moved-clause-spent
returns-in_err-_moved-clause-spent c =
    let p = err_from_is_err_and c.from_residual.result c.from_residual.ensures.1 in
    rw (p.1, p.2) c.in_err-_moved.ensures.spent
