-- The lines were written, and then the count.
use Rattle.std.proofs.lemmas.Result.{err_from_is_err_and}
use Rattle.symbol_comparing.proofs.CompareLemmas.{all_compared, part_compared}
use Rattle.symbol_comparing.proofs.comparing.compare_all.Goals as goal

pub returns-in_err-compare_waves-clause-told : goal.returns-in_err-compare_waves-clause-told
returns-in_err-compare_waves-clause-told g c = λ v are.
    let stopped = err_from_is_err_and c.from_residual.result c.from_residual.ensures.1 in
    rw stopped.1 (part_compared v c.args.variables.now _ _ _ _ _ (c.in_err-compare_waves.ensures.told v are))

pub returns-clause-told : goal.returns-clause-told
returns-clause-told g c = λ v are.
    all_compared v c.args.variables.now _ _ _ c.wave_count-waves.result _ _ _ c.args.workspace.now.count
    c.compare_waves.new.workspace.count c.end.result
    c.wave_count-waves.ensures c.requires.none
    (c.in_ok-compare_waves.ensures.told v are) c.end.ensures.ok c.end.ensures.part c.end.ensures.ends
