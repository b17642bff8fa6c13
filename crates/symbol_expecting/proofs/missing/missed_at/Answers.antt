-- Any letter is met; and that of a truth value is the letter of its first function's.
use Rattle.std.proofs.Common.{Some, not, ap, sym, ◌∙◌}
use Rattle.std.proofs.lemmas.Result.{IfOk-weaker}
use Rattle.ternary.specs.declared.tern.Tern.{Tern}
use Rattle.switch_paths.specs.Switching.{state_at}
use Rattle.session_meaning.specs.Effects.{is_met}
use Rattle.symbol_stage.specs.Stages.{states_in}
use Rattle.symbol_giving.specs.Letters.{IsTruthLetter}
use Rattle.symbol_expecting.proofs.MissingLemmas.{makes_none}
use Rattle.symbol_expecting.proofs.missing.missed_at.Goals as goal

pub returns-in-Any-clause-makes : goal.returns-in-Any-clause-makes
returns-in-Any-clause-makes c = makes_none c.args.stage.now

pub returns-in-Any-clause-value : goal.returns-in-Any-clause-value
returns-in-Any-clause-value c = λ column inside. rw c.in-Any.is (c.constant.ensures.value column inside)

pub returns-in-Same-clause-value : goal.returns-in-Same-clause-value
returns-in-Same-clause-value c = rw c.in-Same.is c.not_state.ensures.value

pub not_truth-requires : goal.not_truth-requires
not_truth-requires c =
    let wanted : IsTruthLetter c.args.stage.now c.in-Truth.given = rw c.in-Truth.is at c.requires.wanted in
    record { node = c.requires.node; function = wanted.own.high }

pub returns-in-Truth-clause-value : goal.returns-in-Truth-clause-value
returns-in-Truth-clause-value c =
    let wanted : IsTruthLetter c.args.stage.now c.in-Truth.given = rw c.in-Truth.is at c.requires.wanted in
    rw c.in-Truth.is
    (IfOk-weaker c.not_truth.result _ _
    (λ made is column inside.
    is column inside
    ∙ ap (λ (state : Tern). not (is_met (Some state) (state_at (states_in c.args.stage.now column) c.args.node))) (sym (wanted.truth column inside)))
    c.not_truth.ensures.value)
