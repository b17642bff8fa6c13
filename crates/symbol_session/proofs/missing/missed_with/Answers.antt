-- The assignment's letters are made, and then the function.
use Rattle.std.proofs.Common.{ℕ, List, sym, subst}
use Rattle.std.proofs.lemmas.Result.{err_from_is_err_and}
use Rattle.symbol_giving.specs.Letters.{AreGivenBy}
use Rattle.symbol_giving.specs.declared.letters.SymbolLetter.{SymbolLetter}
use Rattle.symbol_expecting.specs.Missing.{AreWantedOf}
use Rattle.symbol_expecting.proofs.MissingLemmas.{nodes_counted, wanted_both}
use Rattle.symbol_session.proofs.NotingLemmas.{made_only, made_where, there_later}
use Rattle.symbol_session.proofs.missing.missed_with.Goals as goal

pub work_on_stage-requires : goal.work_on_stage-requires
work_on_stage-requires c =
    let old = c.args.session.now in
    let mid = c.letters_of.new.session in (
      subst (λ (pairs : List (ℕ × SymbolLetter)). AreWantedOf mid.stage pairs) (sym c.deref.ensures.value)
          (wanted_both mid.stage _ c.in_ok-pairs.pairs.items (nodes_counted old mid c.in_ok-pairs.ensures.only c.circuit-circuit.ensures.session)
          c.in_ok-pairs.ensures.within c.in_ok-pairs.ensures.own),
      there_later old mid c.in_ok-pairs.ensures.only c.args.before c.requires.before,
    )

pub returns-in_err-pairs-clause-inside : goal.returns-in_err-pairs-clause-inside
returns-in_err-pairs-clause-inside c = rw (err_from_is_err_and c.from_residual.result c.from_residual.ensures.1).1 tt

pub returns-in_err-pairs-clause-holds : goal.returns-in_err-pairs-clause-holds
returns-in_err-pairs-clause-holds c = rw (err_from_is_err_and c.from_residual.result c.from_residual.ensures.1).1 tt

pub returns-clause-only : goal.returns-clause-only
returns-clause-only c =
    made_only c.args.session.now c.letters_of.new.session c.work_on_stage.new.self c.in_ok-pairs.ensures.only c.work_on_stage.ensures.core
    c.work_on_stage.ensures.done.makes

pub returns-clause-inside : goal.returns-clause-inside
returns-clause-inside c = c.work_on_stage.ensures.done.inside

pub returns-clause-holds : goal.returns-clause-holds
returns-clause-holds c =
    let old = c.args.session.now in
    let mid = c.letters_of.new.session in
    made_where old mid c.args.names.now c.args.own.now c.in_ok-pairs.ensures.only c.deref.result.now c.args.before c.requires.before
    (subst (λ (pairs : List (ℕ × SymbolLetter)). AreGivenBy old c.args.names.now c.args.own.now mid.stage pairs) (sym c.deref.ensures.value) c.in_ok-pairs.ensures.letters)
    c.work_on_stage.new.self c.work_on_stage.new.worker.made c.work_on_stage.ensures.done.holds
