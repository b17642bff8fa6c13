-- The nodes of a name are nodes of the circuit, and so each has a state.
use Rattle.std.proofs.Common.{◌≡◌, ◌<◌, ℕ, List, [], ◌∷◌, All, Option, Some, None, sym, subst}
use Rattle.std.specs.Prelude.{unwrap_or}
use Rattle.switch_paths.specs.Graphs.{nodes}
use Rattle.netlist.specs.Names.{node_of}
use Rattle.netlist.specs.Circuits.{CircuitData}
use Rattle.node_words.specs.Words.{list_of, node_or_list}
use Rattle.session_meaning.specs.Refusals.{nodes_named}
use Rattle.session_meaning.proofs.StayingLemmas.{session_of}
use Rattle.session_meaning.proofs.ValueLemmas.{name-within}
use Rattle.cosmos_session.proofs.session.Session.tell_name.Goals as goal

-- the node of a name is all of its nodes
node_alone : (c : CircuitData) (vectors : List (List ℕ × List ℕ)) (name : List ℕ) (node count : ℕ) → node_of c.names name ≡ Some node →
    All (λ one. one < count) (nodes_named c vectors name) → All (λ one. one < count) (node ∷ [])
node_alone c vectors name node count is all =
    subst (λ (found : Option ℕ). All (λ (one : ℕ). one < count) (unwrap_or (node_or_list found (list_of vectors name)) [])) is all

-- and those of a vector are
list_alone : (c : CircuitData) (vectors : List (List ℕ × List ℕ)) (name list : List ℕ) (count : ℕ) → node_of c.names name ≡ None →
    list_of vectors name ≡ Some list → All (λ one. one < count) (nodes_named c vectors name) → All (λ one. one < count) list
list_alone c vectors name list count none is all =
    subst (λ (found : Option (List ℕ)). All (λ (one : ℕ). one < count) (unwrap_or found [])) is
    (subst (λ (found : Option ℕ). All (λ (one : ℕ). one < count) (unwrap_or (node_or_list found (list_of vectors name)) [])) none all)

pub show-requires-clause-within : goal.show-requires-clause-within
show-requires-clause-within g c =
    let core = (session_of c.self.invariant.0).core in
    let held = c.self.invariant.0.core in
    rw c.column-state.ensures.value
    (subst (λ (count : ℕ). All (λ (one : ℕ). one < count) (c.in-Node.node ∷ [])) (sym held.ready.states)
    (node_alone core.circuit core.vectors c.args.name.now c.in-Node.node (nodes core.circuit.graph) c.in-Node.ensures
    (name-within core.circuit held.ready.netlist core.vectors held.vectors c.args.name.now)))

pub show-requires-in-Vector-clause-within : goal.show-requires-in-Vector-clause-within
show-requires-in-Vector-clause-within g c =
    let core = (session_of c.self.invariant.0).core in
    let held = c.self.invariant.0.core in
    rw c.column-state.ensures.value
    (subst (λ (count : ℕ). All (λ (one : ℕ). one < count) c.in-Vector.nodes.now) (sym held.ready.states)
    (list_alone core.circuit core.vectors c.args.name.now c.in-Vector.nodes.now (nodes core.circuit.graph) c.in-Vector.ensures.0 c.in-Vector.ensures.1
    (name-within core.circuit held.ready.netlist core.vectors held.vectors c.args.name.now)))
