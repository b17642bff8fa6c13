-- What stands for the assignments is refused as each column's are; if it isn't, each gives letters.
use Rattle.std.proofs.Common.{◌∙◌, List, All, ap, sym, subst}
use Rattle.std.specs.Prelude.{Err}
use Rattle.std.proofs.lemmas.Result.{err_from_is_err_and}
use Rattle.session_meaning.specs.Refusals.{none_at}
use Rattle.symbol_script.specs.declared.line.Assignment.{Assignment}
use Rattle.symbol_giving.specs.Giving.{data_of}
use Rattle.symbol_giving.specs.StandIns.{IsGiven}
use Rattle.symbol_giving.proofs.LetterLemmas.{only_none}
use Rattle.symbol_giving.proofs.StandLemmas.{all_given}
use Rattle.symbol_meaning.specs.Merging.{AreToldOf}
use Rattle.symbol_expecting.specs.Expecting.{AreMeantBy, Tells}
use Rattle.symbol_expecting.proofs.FaultLemmas.{allowed_by, expects_refused, expects_told, full_spent, refusal_by, refusal_counts, refusal_never, refusal_refused}
use Rattle.symbol_expecting.proofs.expecting.expect.Goals as goal

pub returns-in_err-allow-clause-told : goal.returns-in_err-allow-clause-told
returns-in_err-allow-clause-told g c = λ v meant.
    let stopped = err_from_is_err_and c.from_residual.result c.from_residual.ensures.1 in
    let refused = refusal_by c.args.session.now c.circuit.result.now c.vectors.result.now c.args.list.now _ c.circuit.ensures.value c.vectors.ensures
    c.in_err-allow.ensures.refused in
    rw (stopped.1, stopped.2)
    (expects_refused v c.args.session.now c.args.list.now g.L.SymbolLines.hear g.L.SymbolLines.part (g.L.SymbolLines.heard c.args.out.now) _ refused)

pub returns-in_err-allow-clause-only : goal.returns-in_err-allow-clause-only
returns-in_err-allow-clause-only g c = only_none c.args.session.now

pub returns-in_err-allow-clause-full : goal.returns-in_err-allow-clause-full
returns-in_err-allow-clause-full g c = λ is.
    let stopped = err_from_is_err_and c.from_residual.result c.from_residual.ensures.1 in
    let refused = refusal_by c.args.session.now c.circuit.result.now c.vectors.result.now c.args.list.now _ c.circuit.ensures.value c.vectors.ensures
    c.in_err-allow.ensures.refused in
    absurd (refusal_never _ _ refused (sym (ap Err stopped.2) ∙ sym stopped.1 ∙ is))

pub returns-in_err-allow-clause-faults : goal.returns-in_err-allow-clause-faults
returns-in_err-allow-clause-faults g c =
    let stopped = err_from_is_err_and c.from_residual.result c.from_residual.ensures.1 in
    rw (stopped.1, stopped.2) (refusal_counts _ (g.L.SymbolLines.faults c.args.out.now) _ c.in_err-allow.ensures.refused)

pub returns-in_err-allow-clause-refusals : goal.returns-in_err-allow-clause-refusals
returns-in_err-allow-clause-refusals g c =
    let stopped = err_from_is_err_and c.from_residual.result c.from_residual.ensures.1 in
    rw (stopped.1, stopped.2) (refusal_refused _ (g.L.SymbolLines.refusals c.args.out.now) _ c.in_err-allow.ensures.refused)

pub expect_all-requires : goal.expect_all-requires
expect_all-requires g c =
    let session = c.args.session.now in
    let none = allowed_by session c.circuit.result.now c.vectors.result.now c.args.list.now c.circuit.ensures.value c.vectors.ensures
    c.in_ok-allow.ensures.allowed in
    record {
      table = c.requires.table;
      count = c.requires.count;
      given = subst (λ (list : List Assignment). All (IsGiven session.core.circuit session.core.vectors) list) (sym c.items.ensures)
          (all_given none_at session.core.circuit session.core.vectors c.args.list.now none);
    }

pub returns-clause-told : goal.returns-clause-told
returns-clause-told g c = λ v meant.
    let session = c.args.session.now in
    let none = allowed_by session c.circuit.result.now c.vectors.result.now c.args.list.now c.circuit.ensures.value c.vectors.ensures
    c.in_ok-allow.ensures.allowed in
    let told = subst (λ (list : List Assignment). (AreMeantBy session c.args.table.now list v) → Tells (AreToldOf v (data_of session) list) g.L.SymbolLines.hear
    g.L.SymbolLines.part (g.L.SymbolLines.heard c.args.out.now) (g.L.SymbolLines.heard c.expect_all.new.out) c.expect_all.result) c.items.ensures
    (c.expect_all.ensures.told v) in
    expects_told v session c.args.list.now g.L.SymbolLines.hear g.L.SymbolLines.part (g.L.SymbolLines.heard c.args.out.now)
    (g.L.SymbolLines.heard c.expect_all.new.out) c.expect_all.new.session.stage c.expect_all.result none c.expect_all.ensures.spent (told meant)

pub returns-clause-full : goal.returns-clause-full
returns-clause-full g c = full_spent c.expect_all.new.session.stage c.expect_all.result c.expect_all.ensures.spent
