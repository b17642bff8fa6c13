-- What holds of each node of names and of assignments that aren't refused.
use Rattle.std.proofs.Common.{◌≡◌, ℕ, ◌<◌, ◌≤◌, nat_lt, Bool, true, false, List, [], ◌∷◌, map, All, length, Option, Some, None, IfSome, IfOk, Result, Ok, Err, refl, ap, subst, inl, inr, arith}
use Rattle.std.specs.Prelude.{◌⊎◌, unwrap_or, if◌then◌else◌}
use Rattle.std.proofs.lemmas.Bool.Decides.{nat_tests}
use Rattle.std.proofs.lemmas.List.Elements.{All-nil, All-append, All-map, All-weaker}
use Rattle.ternary.specs.declared.tern.Tern.{Tern}
use Rattle.strength_order.specs.declared.TheConstants.{INPUT_LEVEL}
use Rattle.switch_paths.specs.Graphs.{nodes, level_of}
use Rattle.switch_paths.specs.declared.TheConstants.{RAILS}
use Rattle.netlist.specs.Circuits.{CircuitData, IsCircuit}
use Rattle.vector_values.specs.Values.{Letter}
use Rattle.script_lang.specs.declared.value.Value.{Value}
use Rattle.node_words.specs.Words.{named}
use Rattle.node_words.specs.Vectors.{AreWithin}
use Rattle.node_words.proofs.WithinLemmas.{named-within}
use Rattle.node_values.specs.declared.fault.GivenFault.{GivenFault}
use Rattle.node_values.specs.declared.fault.GivenFault.TheVariants as given
use Rattle.node_values.specs.Givings.{letters_given, states_given}
use Rattle.node_values.proofs.GivingLemmas.{given-inside, states-inside}
use Rattle.session_meaning.specs.declared.fault.Refusal.{Refusal}
use Rattle.session_meaning.specs.declared.fault.Refusal.TheVariants.{Rail, NotInput, NotStore}
use Rattle.node_words.specs.declared.fault.VectorFault.{VectorFault}
use Rattle.node_words.specs.declared.fault.VectorFault.TheVariants as vector
use Rattle.session_meaning.specs.declared.TheConstants.{MOST_WATCHED}
use Rattle.session_meaning.specs.Sessions.{SessionData, IsSession}
use Rattle.session_meaning.specs.Preparing.{IsFaultFor, fault_of_vector}
use Rattle.session_meaning.specs.Refusals.{vector_refusal, all_named, charge_at, first_refusal, given_refusal, givings_refusal, is_input, named_refusal, nodes_named, place_refusal, rail_at, set_at, values_refusal}
use Rattle.session_meaning.specs.Effects.{letters_in, states_by}
use Rattle.session_meaning.proofs.RefusalLemmas.{first_refusal-none, none_of_all, or_else-none}
use Rattle.session_meaning.proofs.SaveLemmas.{IsSession-setup}
use Rattle.session_meaning.proofs.StateLemmas.{past_rails}

-- ---- single nodes

-- a node that isn't refused as a rail is none
pub past-rail : (node : ℕ) → rail_at node ≡ None → RAILS ≤ node
past-rail node none = past_rails node None none

-- nor is one that may be set or charged
pub past-set : (c : CircuitData) (node : ℕ) → set_at c node ≡ None → RAILS ≤ node
past-set c node none = past_rails node (if is_input c node then None else Some NotInput) none

pub past-charge : (c : CircuitData) (node : ℕ) → charge_at c node ≡ None → RAILS ≤ node
past-charge c node none = past_rails node (if is_input c node then Some NotStore else None) none

-- one that may be set is an input node
pub input-set : (c : CircuitData) (node : ℕ) → set_at c node ≡ None → level_of c.graph node ≡ INPUT_LEVEL
input-set c node none = by (nat_lt node RAILS) (is_input c node) refl none
  where
    by : (rail input : Bool) → is_input c node ≡ input → (if rail then Some Rail else (if input then None else Some NotInput)) ≡ None →
        level_of c.graph node ≡ INPUT_LEVEL
    by true input is none = absurd (cc)
    by false true is none = grind (arith, nat_tests)
    by false false is none = absurd (cc)

-- ---- all nodes that are given states

-- what holds of each node that isn't refused
module _ (P : ℕ → Type 0) (at : ℕ → Option Refusal) (each : (node : ℕ) → at node ≡ None → P node) where
  -- of those of an assignment
  given-all : (found : Result (List (ℕ × Letter)) GivenFault) → given_refusal at found ≡ None → All (λ pair. P pair.0) (states_given (letters_in found))
  given-all (Ok pairs) none =
      All-weaker (λ (pair : ℕ × Tern). at pair.0 ≡ None) (λ (pair : ℕ × Tern). P pair.0) (λ pair. each pair.0) (states_given pairs)
      (none_of_all (λ (pair : ℕ × Tern). at pair.0) (states_given pairs) none)
  given-all (Err given.UnknownNode) none = absurd (cc)
  given-all (Err given.VectorValue) none = absurd (cc)
  given-all (Err given.NoMemory) none = All-nil (λ (pair : ℕ × Tern). P pair.0)

  -- of those of all
  givings-all : (c : CircuitData) (vectors : List (List ℕ × List ℕ)) (list : List (List ℕ × Value)) → givings_refusal at c vectors list ≡ None →
      All (λ pair. P pair.0) (states_by c vectors list)
  givings-all c vectors [] none = All-nil (λ (pair : ℕ × Tern). P pair.0)
  givings-all c vectors (item ∷ list) none =
      let both = first_refusal-none (λ (one : List ℕ × Value). given_refusal at (letters_given c vectors one)) item list none in
      All-append (λ (pair : ℕ × Tern). P pair.0) (states_given (letters_in (letters_given c vectors item))) (states_by c vectors list)
      (given-all (letters_given c vectors item) both.0) (givings-all c vectors list both.1)

  pub values-all : (c : CircuitData) (vectors : List (List ℕ × List ℕ)) (list : List (List ℕ × Value)) → values_refusal at c vectors list ≡ None →
      All (λ pair. P pair.0) (states_by c vectors list)
  values-all c vectors list none =
      givings-all c vectors list (or_else-none (first_refusal (place_refusal c vectors) list) (givings_refusal at c vectors list) none).1

  -- of the nodes of a name
  name-all : (found : Option (List ℕ)) → named_refusal at found ≡ None → All P (unwrap_or found [])
  name-all None none = absurd (cc)
  name-all (Some list) none = All-weaker (λ node. at node ≡ None) P each list (none_of_all at list none)

  -- and of all names
  pub names-all : (c : CircuitData) (vectors : List (List ℕ × List ℕ)) (names : List (List ℕ)) →
      first_refusal (λ name. named_refusal at (named c vectors name)) names ≡ None → All P (all_named c vectors names)
  names-all c vectors [] none = All-nil P
  names-all c vectors (name ∷ names) none =
      let both = first_refusal-none (λ (one : List ℕ). named_refusal at (named c vectors one)) name names none in
      All-append P (nodes_named c vectors name) (all_named c vectors names) (name-all (named c vectors name) both.0)
      (names-all c vectors names both.1)

-- the nodes that a `set` or a `charge` gives states are no rails
pub set-past : (c : CircuitData) (vectors : List (List ℕ × List ℕ)) (list : List (List ℕ × Value)) → values_refusal (set_at c) c vectors list ≡ None →
    All (λ pair. RAILS ≤ pair.0) (states_by c vectors list)
set-past c vectors list none = values-all (λ node. RAILS ≤ node) (set_at c) (past-set c) c vectors list none

pub charge-past : (c : CircuitData) (vectors : List (List ℕ × List ℕ)) (list : List (List ℕ × Value)) →
    values_refusal (charge_at c) c vectors list ≡ None → All (λ pair. RAILS ≤ pair.0) (states_by c vectors list)
charge-past c vectors list none = values-all (λ node. RAILS ≤ node) (charge_at c) (past-charge c) c vectors list none

-- and those of a `set` are input nodes
pub set-inputs : (c : CircuitData) (vectors : List (List ℕ × List ℕ)) (list : List (List ℕ × Value)) → values_refusal (set_at c) c vectors list ≡ None →
    All (λ node. level_of c.graph node ≡ INPUT_LEVEL) (map (λ pair. pair.0) (states_by c vectors list))
set-inputs c vectors list none =
    All-map (λ (node : ℕ). level_of c.graph node ≡ INPUT_LEVEL) (λ (pair : ℕ × Tern). pair.0) (states_by c vectors list)
    (values-all (λ node. level_of c.graph node ≡ INPUT_LEVEL) (set_at c) (input-set c) c vectors list none)

-- the nodes of an `input` are no rails
pub inputs-past : (c : CircuitData) (vectors : List (List ℕ × List ℕ)) (names : List (List ℕ)) →
    first_refusal (λ name. named_refusal rail_at (named c vectors name)) names ≡ None → All (λ node. RAILS ≤ node) (all_named c vectors names)
inputs-past c vectors names none = names-all (λ node. RAILS ≤ node) rail_at past-rail c vectors names none

-- ---- nodes of the circuit

module _ (c : CircuitData) (is : IsCircuit c) (vectors : List (List ℕ × List ℕ)) (within : AreWithin (nodes c.graph) vectors) where
  -- the nodes of a name are nodes
  pub name-within : (name : List ℕ) → All (λ node. node < nodes c.graph) (nodes_named c vectors name)
  name-within name = by (named c vectors name) (named-within c is vectors within name)
    where
      by : (found : Option (List ℕ)) → IfSome found (All (λ node. node < nodes c.graph)) → All (λ node. node < nodes c.graph) (unwrap_or found [])
      by None all = All-nil (λ node. node < nodes c.graph)
      by (Some list) all = all

  -- so are those of names
  pub names-within : (names : List (List ℕ)) → All (λ node. node < nodes c.graph) (all_named c vectors names)
  names-within [] = All-nil (λ node. node < nodes c.graph)
  names-within (name ∷ names) =
      All-append (λ node. node < nodes c.graph) (nodes_named c vectors name) (all_named c vectors names) (name-within name) (names-within names)

  -- so are those that an assignment gives letters
  pub pairs-within : (item : List ℕ × Value) → All (λ pair. pair.0 < nodes c.graph) (letters_in (letters_given c vectors item))
  pairs-within item = by (letters_given c vectors item) (given-inside c is vectors within item)
    where
      by : (found : Result (List (ℕ × Letter)) GivenFault) → IfOk found (λ pairs. All (λ pair. pair.0 < nodes c.graph) pairs) →
          All (λ pair. pair.0 < nodes c.graph) (letters_in found)
      by (Ok pairs) all = all
      by (Err fault) all = All-nil (λ (pair : ℕ × Letter). pair.0 < nodes c.graph)

  pub given-within : (item : List ℕ × Value) (pairs : List (ℕ × Letter)) → letters_given c vectors item ≡ Ok pairs →
      All (λ pair. pair.0 < nodes c.graph) pairs
  given-within item pairs is =
      subst (λ (found : Result (List (ℕ × Letter)) GivenFault). All (λ (pair : ℕ × Letter). pair.0 < nodes c.graph) (letters_in found)) is
      (pairs-within item)

  -- and those that assignments give states
  pub states-within : (list : List (List ℕ × Value)) → All (λ pair. pair.0 < nodes c.graph) (states_by c vectors list)
  states-within [] = All-nil (λ (pair : ℕ × Tern). pair.0 < nodes c.graph)
  states-within (item ∷ list) =
      All-append (λ (pair : ℕ × Tern). pair.0 < nodes c.graph) (states_given (letters_in (letters_given c vectors item))) (states_by c vectors list)
      (states-inside (nodes c.graph) (letters_in (letters_given c vectors item)) (pairs-within item)) (states-within list)

-- ---- vectors

-- what ends `vector` is the refusal of its fault, or lack of memory
pub vector_stops : (found : Option VectorFault) (fault : VectorFault) → (fault ≡ vector.NoMemory) ⊎ (found ≡ Some fault) →
    IsFaultFor (vector_refusal found) (fault_of_vector fault)
vector_stops found vector.NameTaken (inl want) = absurd (cc)
vector_stops found vector.NameTaken (inr is) = ap vector_refusal is
vector_stops found vector.UnknownNode (inl want) = absurd (cc)
vector_stops found vector.UnknownNode (inr is) = ap vector_refusal is
vector_stops found vector.TooMany (inl want) = absurd (cc)
vector_stops found vector.TooMany (inr is) = ap vector_refusal is
vector_stops found vector.NoMemory is = tt

-- a session stays one if other vectors of its nodes are its vectors
pub IsSession-vectors : (session : SessionData) (vectors : List (List ℕ × List ℕ)) → AreWithin (nodes session.circuit.graph) vectors →
    IsSession session → IsSession (record session { vectors = vectors })
IsSession-vectors session vectors within is =
    IsSession-setup session session.watched vectors session.saves is.watched is.few within is.ready.saved is

-- and if more nodes of its own are watched, as many as may be
pub IsSession-watched : (session : SessionData) (watched : List ℕ) → All (λ node. node < nodes session.circuit.graph) watched →
    length watched ≤ MOST_WATCHED → IsSession session → IsSession (record session { watched = watched })
IsSession-watched session watched within few is =
    IsSession-setup session watched session.vectors session.saves within few is.vectors is.ready.saved is
