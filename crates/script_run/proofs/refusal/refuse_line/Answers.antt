-- The line was not told for lack of memory, or a part of it was heard.
use Rattle.std.proofs.Common.{[], inl, inr, refl}
use Rattle.std.proofs.lemmas.Result.{err_from_is_err_and}
use Rattle.script_run.proofs.refusal.refuse_line.Goals as goal

pub returns-in_err-reserve-clause-told : goal.returns-in_err-reserve-clause-told
returns-in_err-reserve-clause-told g c =
    let stopped = err_from_is_err_and c.from_residual.result c.from_residual.ensures.1 in
    rw stopped.1 (inl (_, record { done = []; split = refl; heard = c.reserve.ensures.heard }))

pub returns-in-Err-clause-told : goal.returns-in-Err-clause-told
returns-in-Err-clause-told g c =
    inr (record { front = []; next = _; rest = []; split = refl; heard = rw c.reserve.ensures.heard at c.in-Err.ensures.part })
