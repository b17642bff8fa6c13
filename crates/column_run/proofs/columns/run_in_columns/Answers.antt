-- What was told of the lines becomes what is told of the whole script.
use Rattle.std.proofs.Common.{sym, subst}
use Rattle.std.proofs.lemmas.Result.{err_from_is_err_and}
use Rattle.netlist.specs.Circuits.{CircuitData}
use Rattle.session_meaning.specs.Columns.{column_of}
use Rattle.script_meaning.specs.Halts.{IsCutShort}
use Rattle.column_run.proofs.AnswerLemmas.{cut_short, told_cut, told_end, told_stop}
use Rattle.column_run.proofs.columns.run_in_columns.Goals as goal

pub returns-in_err-halt-clause-told : goal.returns-in_err-halt-clause-told
returns-in_err-halt-clause-told g c =
    let p = err_from_is_err_and c.from_residual.result c.from_residual.ensures.1 in
    rw p.1 (told_stop _ _ _ _ c.args.out.now.page c.obey_in_columns.new.out.page c.requires (g.A.Analyst.analysed c.args.analyst.now)
    (g.A.Analyst.analysed c.obey_in_columns.new.analyst) c.in_err-halt.ensures.told)

pub returns-in-End-clause-told : goal.returns-in-End-clause-told
returns-in-End-clause-told g c =
    told_end _ _ _ _ c.args.out.now.page c.obey_in_columns.new.out.page c.requires _ _ (rw c.in-End.is at c.in_ok-halt.ensures.told)

pub refuse_halt-requires : goal.refuse_halt-requires
refuse_halt-requires g c =
    let session = column_of g.M.Columns.states c.obey_in_columns.new.session 0 in
    subst (λ (circuit : CircuitData). IsCutShort circuit c.in_ok-halt.halt) (sym c.circuit.ensures.value)
    (cut_short _ _ _ _ c.args.out.now.page c.obey_in_columns.new.out.page c.requires _ _ session c.in_ok-halt.halt c.in_default.not-End c.in_ok-halt.ensures.told)

pub returns-in_default-clause-told : goal.returns-in_default-clause-told
returns-in_default-clause-told g c =
    let session = column_of g.M.Columns.states c.obey_in_columns.new.session 0 in
    told_cut _ _ _ _ c.args.out.now.page c.obey_in_columns.new.out.page c.requires _ _ session c.refuse_halt.new.out.page c.in_ok-halt.halt c.refuse_halt.result
    c.in_ok-halt.ensures.told (rw (← c.circuit.ensures.value) c.refuse_halt.ensures.told)
