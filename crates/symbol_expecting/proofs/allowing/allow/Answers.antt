-- It is that of the assignments which stand for these.
use Rattle.std.proofs.Common.{◌≡◌, ◌∙◌, ℕ, List, None, subst}
use Rattle.std.specs.Prelude.{IfErr, OnOk}
use Rattle.script_lang.specs.declared.value.Value.{Value}
use Rattle.session_meaning.specs.Refusals.{none_at, values_refusal}
use Rattle.symbol_expecting.specs.Faults.{IsRefusalFor}
use Rattle.symbol_expecting.proofs.allowing.allow.Goals as goal

pub returns-in-Ok-clause-allowed : goal.returns-in-Ok-clause-allowed
returns-in-Ok-clause-allowed c =
    subst (λ (list : List (List ℕ × Value)). OnOk c.allow_values.result (values_refusal none_at c.args.circuit.now c.args.vectors.now list ≡ None))
    (c.items.ensures ∙ c.in-Ok.ensures) c.allow_values.ensures.allowed

pub returns-in-Ok-clause-refused : goal.returns-in-Ok-clause-refused
returns-in-Ok-clause-refused c =
    subst (λ (list : List (List ℕ × Value)). IfErr c.allow_values.result (IsRefusalFor (values_refusal none_at c.args.circuit.now c.args.vectors.now list)))
    (c.items.ensures ∙ c.in-Ok.ensures) c.allow_values.ensures.refused
