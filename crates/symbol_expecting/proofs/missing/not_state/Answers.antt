-- A known state is that of a constant's truth value.
use Rattle.std.proofs.Common.{Bool, Some, not, ap, ◌∙◌}
use Rattle.std.proofs.lemmas.Result.{IfOk-weaker}
use Rattle.switch_paths.specs.Switching.{state_at}
use Rattle.truth_makers.specs.Expecting.{state_of_truth}
use Rattle.session_meaning.specs.Effects.{is_met}
use Rattle.symbol_stage.specs.Stages.{states_in}
use Rattle.symbol_expecting.proofs.missing.not_state.Goals as goal

pub returns-in-Zero-clause-value : goal.returns-in-Zero-clause-value
returns-in-Zero-clause-value c =
    rw c.in-Zero.is
    (IfOk-weaker c.not_truth.result _ _
    (λ made is column inside.
    is column inside
    ∙ ap (λ (b : Bool). not (is_met (Some (state_of_truth b)) (state_at (states_in c.args.stage.now column) c.args.node)))
    (c.constant-never.ensures.value column inside)) c.not_truth.ensures.value)

pub returns-in-One-clause-value : goal.returns-in-One-clause-value
returns-in-One-clause-value c =
    rw c.in-One.is
    (IfOk-weaker c.not_truth-in-One.result _ _
    (λ made is column inside.
    is column inside
    ∙ ap (λ (b : Bool). not (is_met (Some (state_of_truth b)) (state_at (states_in c.args.stage.now column) c.args.node)))
    (c.constant-always.ensures.value column inside)) c.not_truth-in-One.ensures.value)
