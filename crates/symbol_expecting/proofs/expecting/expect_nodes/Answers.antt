-- What is told is the line of the first column in which the nodes aren't as they are wanted, or nothing.
use Rattle.std.proofs.Common.{Bool, List, sym, ap, subst, ◌∙◌}
use Rattle.std.proofs.lemmas.Result.{err_from_is_err_and}
use Rattle.session_meaning.specs.Sessions.{SessionData}
use Rattle.symbol_giving.specs.Giving.{data_of}
use Rattle.symbol_giving.proofs.LetterLemmas.{only_both}
use Rattle.symbol_expecting.specs.Missing.{IsMissedFirst}
use Rattle.symbol_expecting.proofs.FaultLemmas.{graph_silent, graph_spent, silent_counts, silent_refused}
use Rattle.symbol_expecting.proofs.MissingLemmas.{wanted_more}
use Rattle.symbol_expecting.proofs.ToldLemmas.{given_later, line_tells, none_tells, silent_tells, told_none, told_some}
use Rattle.symbol_expecting.proofs.expecting.expect_nodes.Goals as goal

pub first_in_session-requires : goal.first_in_session-requires
first_in_session-requires g c = c.requires.wanted

pub tell_unmet-requires : goal.tell_unmet-requires
tell_unmet-requires g c =
    wanted_more c.args.session.now.stage c.first_in_session.new.session.stage c.first_in_session.ensures.makes.makes c.args.pairs.now c.requires.wanted

pub returns-in_err-found : goal.returns-in_err-found
returns-in_err-found g c =
    let stopped = err_from_is_err_and c.from_residual.result c.from_residual.ensures.1 in
    let silent = graph_silent c.in_err-found.field-0.0 in
    rw stopped.1
    (record {
      told = λ first table v was given meant. silent_tells v (data_of first) c.args.own.now g.L.SymbolLines.hear g.L.SymbolLines.part (g.L.SymbolLines.heard c.args.out.now) stopped.0;
      only = c.first_in_session.ensures.makes;
      spent = rw stopped.2
          (graph_spent c.first_in_session.new.session.stage c.in_err-found.field-0.0 c.in_err-found.ensures.spent);
      faults = rw stopped.2 (silent_counts (g.L.SymbolLines.faults c.args.out.now) _ silent);
      refusals = rw stopped.2 (silent_refused (g.L.SymbolLines.refusals c.args.out.now) _ silent);
    })

pub returns-in-Some-clause-told : goal.returns-in-Some-clause-told
returns-in-Some-clause-told g c = λ first table v was given meant.
    let new = c.first_in_session.new.session in
    let own = c.args.own.now in
    let pairs = c.args.pairs.now in
    let missed : IsMissedFirst new.stage pairs c.deref.result.now =
    subst (λ (vars : List Bool). IsMissedFirst new.stage pairs vars) (sym c.deref.ensures.value) (rw c.in-Some.is at c.in_ok-found.ensures.first) in
    let more = c.first_in_session.ensures.makes in
    let mid = c.args.session.now in
    line_tells v (data_of first) own g.L.SymbolLines.hear g.L.SymbolLines.part _ (g.L.SymbolLines.heard c.args.out.now) (g.L.SymbolLines.heard c.tell_unmet.new.out)
    c.tell_unmet.result
    (told_some first new (only_both first mid new was more) table own pairs (given_later first mid new was more table own pairs c.requires.wanted given) v meant
    c.deref.result.now c.args.n (c.requires.count ∙ ap (λ (core : SessionData). core.count) was.core) missed)
    c.tell_unmet.ensures.told

pub returns-in-None-clause-told : goal.returns-in-None-clause-told
returns-in-None-clause-told g c = λ first table v was given meant.
    let mid = c.args.session.now in
    let new = c.first_in_session.new.session in
    let more = c.first_in_session.ensures.makes in
    let own = c.args.own.now in
    let pairs = c.args.pairs.now in
    none_tells v (data_of first) own g.L.SymbolLines.hear g.L.SymbolLines.part (g.L.SymbolLines.heard c.args.out.now)
    (told_none first new (only_both first mid new was more) table own pairs (given_later first mid new was more table own pairs c.requires.wanted given) v meant
    (rw c.in-None.is at c.in_ok-found.ensures.first))
