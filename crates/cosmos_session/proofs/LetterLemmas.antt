-- Letters are refused as the command of the first column is; a command that gives nodes values is refused, or done.
use Rattle.std.proofs.Common.{◌≡◌, ◌≤◌, ℕ, List, [], All, None, map, refl, ap, ◌∙◌}
use Rattle.ternary.specs.declared.tern.Tern.{Tern}
use Rattle.switch_paths.specs.declared.TheConstants.{RAILS}
use Rattle.script_lang.specs.declared.value.Value.{Value}
use Rattle.column_script.specs.declared.command.ColumnCommand.TheVariants.{Values}
use Rattle.column_script.specs.declared.command.ValueCommand.{ValueCommand}
use Rattle.column_script.specs.declared.command.ValueCommand.TheVariants as value
use Rattle.column_script.specs.Commands.{alone_of, in_column, value_in}
use Rattle.session_meaning.specs.Effects.{assigned, states_by}
use Rattle.session_meaning.specs.Outcomes.{Does}
use Rattle.session_meaning.specs.Sessions.{SessionData}
use Rattle.session_meaning.specs.Refusals.{refusal_of, values_refusal}
use Rattle.session_meaning.specs.Truths.{give_of}
use Rattle.session_meaning.proofs.ValueLemmas.{charge-past, set-past}
use Rattle.cosmos_session.specs.Targets.{target_at, target_of}
use Rattle.cosmos_session.specs.declared.values.Target.{Target}

-- by the nodes that the command gives states
pub asked_of : (session : SessionData) (kind : ValueCommand) (list : List (List ℕ × List Tern)) →
    values_refusal (target_at (target_of kind) session.circuit) session.circuit session.vectors (map alone_of (map (value_in 0) list))
    ≡ refusal_of session (in_column 0 (Values kind list))
asked_of session value.Set list = refl
asked_of session value.Charge list = refl

-- and so a plain command is, by its values
asked_as : (session : SessionData) (kind : ValueCommand) (list : List (List ℕ × Value)) →
    values_refusal (target_at (target_of kind) session.circuit) session.circuit session.vectors list ≡ refusal_of session (give_of kind list)
asked_as session value.Set list = refl
asked_as session value.Charge list = refl

pub values_asked : (session : SessionData) (kind : ValueCommand) (target : Target) (list : List (List ℕ × Value)) → target ≡ target_of kind →
    values_refusal (target_at target session.circuit) session.circuit session.vectors list ≡ refusal_of session (give_of kind list)
values_asked session kind target list is =
    ap (λ (one : Target). values_refusal (target_at one session.circuit) session.circuit session.vectors list) is ∙ asked_as session kind list

-- ---- a plain command is done

-- the nodes that it gives states are no rails
pub values_past : (kind : ValueCommand) (session : SessionData) (list : List (List ℕ × Value)) → refusal_of session (give_of kind list) ≡ None →
    All (λ pair. RAILS ≤ pair.0) (states_by session.circuit session.vectors list)
values_past value.Set session list none = set-past session.circuit session.vectors list none
values_past value.Charge session list none = charge-past session.circuit session.vectors list none

-- it is done if they have these states
pub values_done : (kind : ValueCommand) (session new : SessionData) (list : List (List ℕ × Value)) → refusal_of session (give_of kind list) ≡ None →
    new ≡ record session { state = assigned session.state (states_by session.circuit session.vectors list) } → Does session (give_of kind list) new []
values_done value.Set session new list none is = record { allowed = none; effect = (is, refl) }
values_done value.Charge session new list none is = record { allowed = none; effect = (is, refl) }
