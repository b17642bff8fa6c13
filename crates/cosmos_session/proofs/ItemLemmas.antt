-- What is known of an assignment whose name was read, and of a session whose fields were.
use Rattle.std.proofs.Common.{◌≡◌, ℕ, List, Option, subst}
use Rattle.script_lang.specs.declared.value.Value.{Value}
use Rattle.node_values.specs.Givings.{letters_given}
use Rattle.session_meaning.specs.Sessions.{HeldSession}
use Rattle.session_meaning.specs.declared.fault.Refusal.{Refusal}
use Rattle.session_meaning.specs.declared.fault.ApplyFault.{ApplyFault}
use Rattle.session_meaning.specs.Preparing.{IsFaultFor}
use Rattle.session_meaning.specs.Refusals.{given_refusal}

-- what holds of the value with the name that was read holds of the assignment
pub of_item : (P : List ℕ × Value → Type 0) (item : List ℕ × Value) (name : List ℕ) → name ≡ item.0 → P (name, item.1) → P item
of_item P item name same holds = subst (λ (one : List ℕ). P (one, item.1)) same holds

-- so does what ends it
pub item_stops : (found : List ℕ × Value → Option Refusal) (item : List ℕ × Value) (name : List ℕ) (fault : ApplyFault) → name ≡ item.0 →
    IsFaultFor (found (name, item.1)) fault → IsFaultFor (found item) fault
item_stops found item name fault same stops = of_item (λ (one : List ℕ × Value). IsFaultFor (found one) fault) item name same stops

-- what ends an assignment by a session's fields ends it by the session
pub session_stops : {M : Type 0} (at : ℕ → Option Refusal) (old new : HeldSession M) (item : List ℕ × Value) (fault : ApplyFault) → old ≡ new →
    IsFaultFor (given_refusal at (letters_given old.core.circuit old.core.vectors item)) fault →
    IsFaultFor (given_refusal at (letters_given new.core.circuit new.core.vectors item)) fault
session_stops at old new item fault same stops =
    subst (λ (s : HeldSession _). IsFaultFor (given_refusal at (letters_given s.core.circuit s.core.vectors item)) fault) same stops
