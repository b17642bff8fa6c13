-- The nodes are those of the assignment, with what it wants of them.
use Rattle.std.proofs.Common.{◌∙◌, ℕ, List, sym, ap, subst}
use Rattle.std.proofs.lemmas.Result.{err_from_is_err_and}
use Rattle.switch_paths.specs.Graphs.{nodes}
use Rattle.session_meaning.specs.Sessions.{SessionData}
use Rattle.symbol_giving.specs.Giving.{data_of}
use Rattle.symbol_giving.specs.Letters.{AreGivenBy}
use Rattle.symbol_giving.specs.declared.letters.SymbolLetter.{SymbolLetter}
use Rattle.truth_parts.proofs.KeptLemmas.{passed_on}
use Rattle.symbol_giving.proofs.LetterLemmas.{only_both}
use Rattle.symbol_expecting.specs.Missing.{AreWantedOf}
use Rattle.symbol_expecting.proofs.FaultLemmas.{graph_silent, graph_spent, silent_counts, silent_refused}
use Rattle.symbol_expecting.proofs.MissingLemmas.{nodes_counted, wanted_both}
use Rattle.symbol_expecting.proofs.ToldLemmas.{given_first, silent_tells}
use Rattle.symbol_expecting.proofs.expecting.expect_one.Goals as goal

pub letters_of-requires : goal.letters_of-requires
letters_of-requires g c = record { table = c.requires.table; given = c.requires.given }

pub expect_nodes-requires : goal.expect_nodes-requires
expect_nodes-requires g c = record {
  count = c.requires.count ∙ ap (λ (core : SessionData). core.count) (sym c.letters_of.ensures.only.core);
  wanted = subst (λ (pairs : List (ℕ × SymbolLetter)). AreWantedOf c.letters_of.new.session.stage pairs) (sym c.deref.ensures.value)
      (wanted_both c.letters_of.new.session.stage (nodes c.args.session.now.core.circuit.graph) c.in_ok-pairs.pairs.items
      (nodes_counted c.args.session.now c.letters_of.new.session c.letters_of.ensures.only c.stage.ensures.session) c.in_ok-pairs.ensures.within
      c.in_ok-pairs.ensures.own);
}

pub returns-in_err-pairs-clause-told : goal.returns-in_err-pairs-clause-told
returns-in_err-pairs-clause-told g c = λ first v was is meant.
    let stopped = err_from_is_err_and c.from_residual.result c.from_residual.ensures.1 in
    rw stopped.1
    (silent_tells v (data_of first) c.args.own.now g.L.SymbolLines.hear g.L.SymbolLines.part (g.L.SymbolLines.heard c.args.out.now) stopped.0)

pub returns-in_err-pairs-clause-spent : goal.returns-in_err-pairs-clause-spent
returns-in_err-pairs-clause-spent g c =
    passed_on _ c.from_residual.result _ c.from_residual.ensures.1
    (graph_spent c.letters_of.new.session.stage c.in_err-pairs.field-0.0 c.in_err-pairs.ensures.spent)

pub returns-in_err-pairs-clause-faults : goal.returns-in_err-pairs-clause-faults
returns-in_err-pairs-clause-faults g c =
    let stopped = err_from_is_err_and c.from_residual.result c.from_residual.ensures.1 in
    rw (stopped.1, stopped.2) (silent_counts (g.L.SymbolLines.faults c.args.out.now) _ (graph_silent c.in_err-pairs.field-0.0))

pub returns-in_err-pairs-clause-refusals : goal.returns-in_err-pairs-clause-refusals
returns-in_err-pairs-clause-refusals g c =
    let stopped = err_from_is_err_and c.from_residual.result c.from_residual.ensures.1 in
    rw (stopped.1, stopped.2) (silent_refused (g.L.SymbolLines.refusals c.args.out.now) _ (graph_silent c.in_err-pairs.field-0.0))

pub returns-clause-told : goal.returns-clause-told
returns-clause-told g c = λ first v was is meant.
    let old = c.args.session.now in
    let mid = c.letters_of.new.session in
    let given = subst (λ (pairs : List (ℕ × SymbolLetter)). AreGivenBy old c.args.table.now c.args.own.now mid.stage pairs) (sym c.deref.ensures.value)
    c.in_ok-pairs.ensures.letters in
    c.expect_nodes.ensures.told first c.args.table.now v (only_both first old mid was c.letters_of.ensures.only)
    (given_first first old was c.args.table.now is c.args.own.now mid.stage c.deref.result.now given) meant

pub returns-clause-only : goal.returns-clause-only
returns-clause-only g c =
    only_both c.args.session.now c.letters_of.new.session c.expect_nodes.new.session c.letters_of.ensures.only c.expect_nodes.ensures.only
