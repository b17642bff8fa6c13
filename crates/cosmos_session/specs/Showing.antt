-- The nodes to which a command gave states.
use Rattle.std.specs.Prelude.{◌≡◌, ℕ, ◌<◌, List, All}
use Rattle.ternary.specs.declared.tern.Tern.{Tern}
use Rattle.switch_paths.specs.Graphs.{nodes}
use Rattle.script_lang.specs.declared.command.Give.{Give}
use Rattle.script_lang.specs.declared.command.Give.TheVariants.{Set, Charge, Back}
use Rattle.session_meaning.specs.Sessions.{SessionData}
use Rattle.session_meaning.specs.Effects.{states_by}

-- the command gave just these nodes of a session these states, from left to right
abbrev pub IsGivenBy : Give → SessionData → List (ℕ × Tern) → Type 0
IsGivenBy (Set list) new pairs = (pairs ≡ states_by new.circuit new.vectors list) × All (λ pair. pair.0 < nodes new.circuit.graph) pairs
IsGivenBy (Charge list) new pairs = (pairs ≡ states_by new.circuit new.vectors list) × All (λ pair. pair.0 < nodes new.circuit.graph) pairs
IsGivenBy (Back name) new pairs = ⊥
