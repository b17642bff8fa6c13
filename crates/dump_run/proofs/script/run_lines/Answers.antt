-- What was told of the lines becomes what is told of the whole script.
use Rattle.std.proofs.Common.{sym, subst}
use Rattle.std.proofs.lemmas.Result.{err_from_is_err_and}
use Rattle.line_words.specs.Files.{cut_line, lines_in}
use Rattle.netlist.specs.Circuits.{CircuitData}
use Rattle.script_meaning.specs.Halts.{IsCutShort}
use Rattle.dump_run.proofs.EndLemmas.{cut_short, run_end, run_cut, run_rests}
use Rattle.dump_run.proofs.script.run_lines.Goals as goal

pub returns-in_err-halt-clause-told : goal.returns-in_err-halt-clause-told
returns-in_err-halt-clause-told g c =
    let p = err_from_is_err_and c.from_residual.result c.from_residual.ensures.1 in
    rw p.1 c.in_err-halt.ensures.told

pub returns-in-End-clause-told : goal.returns-in-End-clause-told
returns-in-End-clause-told g c =
    run_end _ _ _ _ _ _ _ _ c.end_of.result c.in_ok-halt.halt c.in_ok-halt.ensures.told c.in-End.is c.requires.unrefused c.end_of.ensures

pub refuse_halt-requires : goal.refuse_halt-requires
refuse_halt-requires g c =
    subst (λ (circuit : CircuitData). IsCutShort circuit c.in_ok-halt.halt) (sym c.circuit.ensures.value)
    (cut_short _ _ _ c.obey_dumped.new.session.core _ _ _ _ c.in_ok-halt.halt c.in_default.not-End c.in_ok-halt.ensures.told)

pub returns-in_default-clause-told : goal.returns-in_default-clause-told
returns-in_default-clause-told g c =
    run_cut _ _ _ _ _ _ _ _ c.refuse_halt.new.out.sheet c.refuse_halt.result c.in_ok-halt.halt _ c.in_ok-halt.ensures.told c.circuit.ensures.value
    c.refuse_halt.ensures.told

pub returns-in_default-clause-rests : goal.returns-in_default-clause-rests
returns-in_default-clause-rests g c =
    run_rests (cut_line c.args.text.now) c.args.session.now.core (lines_in c.args.text.now) c.obey_dumped.new.session.core c.args.out.now.sheet
    c.obey_dumped.new.out.sheet (g.A.Analyst.analysed c.args.analyst.now) (g.A.Analyst.analysed c.obey_dumped.new.analyst)
    c.refuse_halt.new.out.sheet c.refuse_halt.result c.in_ok-halt.halt c.circuit.result.now c.refuse_halt.ensures.told c.in_ok-halt.ensures.rests
