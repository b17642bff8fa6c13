-- A talk that was stopped while the file was read is one that was stopped before it began.
use Rattle.std.proofs.lemmas.Result.{err_from_is_err_and}
use Rattle.cosmos_app.proofs.TalkLemmas.{untalked}
use Rattle.cosmos_app.proofs.talking.hold.Goals as goal

pub returns-in_err-circuit-clause-told : goal.returns-in_err-circuit-clause-told
returns-in_err-circuit-clause-told g c =
    let stopped = err_from_is_err_and c.from_residual.result c.from_residual.ensures.1 in
    rw stopped.1 (untalked (g.F.Files.holds c.args.files.now) c.args.net.now _ c.args.out.now.spoken.talk _)
