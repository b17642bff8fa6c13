-- What a fault tells that is passed on is so still.
use Rattle.std.proofs.lemmas.Result.{err_from_is_err_and}
use Rattle.truth_columns.proofs.run.settle.Goals as goal

pub returns-in_err-no_zero-clause-spent : goal.returns-in_err-no_zero-clause-spent
returns-in_err-no_zero-clause-spent g c =
    let p = err_from_is_err_and c.from_residual.result c.from_residual.ensures.1 in
    rw (p.1, p.2) c.in_err-no_zero.ensures.spent

pub returns-in_err-high-clause-spent : goal.returns-in_err-high-clause-spent
returns-in_err-high-clause-spent g c =
    let p = err_from_is_err_and c.from_residual-in_err-high.result c.from_residual-in_err-high.ensures.1 in
    rw (p.1, p.2) c.in_err-high.ensures.spent

pub returns-in_err-no_one-clause-spent : goal.returns-in_err-no_one-clause-spent
returns-in_err-no_one-clause-spent g c =
    let p = err_from_is_err_and c.from_residual-in_err-no_one.result c.from_residual-in_err-no_one.ensures.1 in
    rw (p.1, p.2) c.in_err-no_one.ensures.spent

pub returns-in_err-low-clause-spent : goal.returns-in_err-low-clause-spent
returns-in_err-low-clause-spent g c =
    let p = err_from_is_err_and c.from_residual-in_err-low.result c.from_residual-in_err-low.ensures.1 in
    rw (p.1, p.2) c.in_err-low.ensures.spent
