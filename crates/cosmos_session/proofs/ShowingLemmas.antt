-- The nodes to which a command gave states list those at which the state behind it differs from the one before it.
use Rattle.std.proofs.Common.{◌≡◌, ℕ, ◌<◌, List, All, length, map, sym, subst}
use Rattle.ternary.specs.declared.tern.Tern.{Tern}
use Rattle.switch_paths.specs.Graphs.{nodes}
use Rattle.settling.specs.Moved.{ListsChanges}
use Rattle.script_lang.specs.declared.command.Command.TheVariants as family
use Rattle.script_lang.specs.declared.command.Give.{Give}
use Rattle.script_lang.specs.declared.command.Give.TheVariants.{Set, Charge, Back}
use Rattle.session_meaning.specs.Sessions.{SessionData}
use Rattle.session_meaning.specs.Passing.{MovesBehind}
use Rattle.session_meaning.proofs.PassingLemmas.{given_behind}
use Rattle.cosmos_session.specs.Showing.{IsGivenBy}

within_state : (new : SessionData) (pairs : List (ℕ × Tern)) → length new.state ≡ nodes new.circuit.graph →
    All (λ pair. pair.0 < nodes new.circuit.graph) pairs → All (λ pair. pair.0 < length new.state) pairs
within_state new pairs count within = subst (λ (n : ℕ). All (λ (pair : ℕ × Tern). pair.0 < n) pairs) (sym count) within

pub given_by-lists : (old new : SessionData) (give : Give) (pairs : List (ℕ × Tern)) → MovesBehind old (family.Give give) new →
    length new.state ≡ nodes new.circuit.graph → IsGivenBy give new pairs → ListsChanges (map (λ pair. pair.0) pairs) old.state new.state
given_by-lists old new (Set list) pairs moves count given =
    given_behind old new list pairs moves.0 moves.1 given.0 (within_state new pairs count given.1)
given_by-lists old new (Charge list) pairs moves count given =
    given_behind old new list pairs moves.0 moves.1 given.0 (within_state new pairs count given.1)
given_by-lists old new (Back name) pairs moves count given = absurd given
