-- The nodes that an assignment gives letters are nodes of the circuit, and a state of a column goes to its name's node.
use Rattle.std.proofs.Common.{◌≡◌, ℕ, ◌<◌, ◌⊎◌, List, [], ◌∷◌, ◌++◌, length, All, Option, Some, None, IfSome, option_map, IfOk, refl, sym, ap, map, inl, inr, ◌∙◌, append-nil}
use Rattle.std.specs.Prelude.{replicate, zip}
use Rattle.std.proofs.lemmas.List.Elements.{All-nil, All-cons, All-head, All-tail}
use Rattle.ternary.specs.declared.tern.Tern.{Tern}
use Rattle.switch_paths.specs.Graphs.{nodes}
use Rattle.netlist.specs.Circuits.{CircuitData, IsCircuit}
use Rattle.netlist.specs.Names.{node_of}
use Rattle.netlist.proofs.KeptLemmas.{node_of-within}
use Rattle.vector_values.specs.Values.{Letter, ValueData, letters_for}
use Rattle.script_lang.specs.declared.value.Value.{Value}
use Rattle.script_lang.specs.declared.value.Value.TheVariants as given
use Rattle.node_words.specs.Words.{list_of, named}
use Rattle.node_words.specs.Vectors.{AreWithin}
use Rattle.node_words.proofs.WithinLemmas.{list_of-within, named-within}
use Rattle.node_values.specs.Givings.{letters_given, states_given, unless_node, vector_named, with_letters, with_state, with_value_at}

-- no letters give no pairs
unpaired : {X : Type 0} (nodes : List ℕ) (letters : List X) → letters ≡ [] → zip nodes letters ≡ []
unpaired {X} [] letters none = refl
unpaired {X} (node ∷ nodes) [] none = refl
unpaired {X} (node ∷ nodes) (letter ∷ letters) none = absurd (cc)

-- if no pairs are left, those that are there are all
pub none_left : {X : Type 0} (pairs all : List (ℕ × X)) (nodes : List ℕ) (letters : List X) → pairs ++ zip nodes letters ≡ all →
    (nodes ≡ []) ⊎ (letters ≡ []) → pairs ≡ all
none_left {X} pairs all nodes letters are (inl none) =
    sym (append-nil pairs) ∙ ap (λ (left : List ℕ). pairs ++ zip left letters) (sym none) ∙ are
none_left {X} pairs all nodes letters are (inr none) =
    sym (append-nil pairs) ∙ ap (λ (left : List (ℕ × X)). pairs ++ left) (sym (unpaired nodes letters none)) ∙ are

-- the nodes of pairs are among so many
abbrev pub AreInside : {X : Type 0} → ℕ → List (ℕ × X) → Type 0
AreInside count pairs = All (λ pair. pair.0 < count) pairs

-- nodes with letters are as the nodes are
zip-inside : {X : Type 0} (count : ℕ) (list : List ℕ) (letters : List X) → All (λ node. node < count) list → AreInside count (zip list letters)
zip-inside {X} count [] letters all = All-nil (λ (pair : ℕ × X). pair.0 < count)
zip-inside {X} count (node ∷ list) [] all = All-nil (λ (pair : ℕ × X). pair.0 < count)
zip-inside {X} count (node ∷ list) (letter ∷ letters) all =
    All-cons (λ (pair : ℕ × X). pair.0 < count) (node, letter) (zip list letters) (All-head (λ one. one < count) node list all)
    (zip-inside count list letters (All-tail (λ one. one < count) node list all))

-- so are those that are given states
pub states-inside : (count : ℕ) (pairs : List (ℕ × Letter)) → AreInside count pairs → AreInside count (states_given pairs)
states-inside count [] all = All-nil (λ (pair : ℕ × Tern). pair.0 < count)
states-inside count ((node, None) ∷ pairs) all =
    states-inside count pairs (All-tail (λ (pair : ℕ × Letter). pair.0 < count) (node, None) pairs all)
states-inside count ((node, Some state) ∷ pairs) all =
    All-cons (λ (pair : ℕ × Tern). pair.0 < count) (node, state) (states_given pairs)
    (All-head (λ (pair : ℕ × Letter). pair.0 < count) (node, Some state) pairs all)
    (states-inside count pairs (All-tail (λ (pair : ℕ × Letter). pair.0 < count) (node, Some state) pairs all))

module _ (c : CircuitData) (is : IsCircuit c) (vectors : List (List ℕ × List ℕ)) (within : AreWithin (nodes c.graph) vectors) where
  state-inside : (state : Tern) (found : Option (List ℕ)) → IfSome found (All (λ node. node < nodes c.graph)) →
      IfOk (with_state state found) (AreInside (nodes c.graph))
  state-inside state None all = tt
  state-inside state (Some list) all = zip-inside (nodes c.graph) list (replicate (length list) (Some state)) all

  value-inside : (value : ValueData) (found : Option (List ℕ)) → IfSome found (All (λ node. node < nodes c.graph)) →
      IfOk (with_value_at value found) (AreInside (nodes c.graph))
  value-inside value None all = tt
  value-inside value (Some list) all = by (letters_for (length list) value)
    where
      by : (letters : Option (List Letter)) → IfOk (with_letters list letters) (AreInside (nodes c.graph))
      by None = tt
      by (Some letters) = zip-inside (nodes c.graph) list letters all

  vector-inside : (name : List ℕ) → IfSome (vector_named c vectors name) (All (λ node. node < nodes c.graph))
  vector-inside name = by (node_of c.names name) (list_of vectors name) (list_of-within (nodes c.graph) vectors name within)
    where
      by : (node : Option ℕ) (list : Option (List ℕ)) → IfSome list (All (λ one. one < nodes c.graph)) →
          IfSome (unless_node node list) (All (λ one. one < nodes c.graph))
      by None list all = all
      by (Some node) list all = tt

  alone-inside : (name : List ℕ) → IfSome (option_map (λ node. node ∷ []) (node_of c.names name)) (All (λ node. node < nodes c.graph))
  alone-inside name = by (node_of c.names name) (node_of-within c name is)
    where
      by : (node : Option ℕ) → IfSome node (λ one. one < nodes c.graph) → IfSome (option_map (λ one. one ∷ []) node) (All (λ one. one < nodes c.graph))
      by None below = tt
      by (Some node) below = All-cons (λ one. one < nodes c.graph) node [] below (All-nil (λ one. one < nodes c.graph))

  -- what an assignment gives goes to nodes of the circuit
  pub given-inside : (item : List ℕ × Value) → IfOk (letters_given c vectors item) (λ pairs. All (λ pair. pair.0 < nodes c.graph) pairs)
  given-inside (name, given.Letter state) = state-inside state (named c vectors name) (named-within c is vectors within name)
  given-inside (name, given.Wide value) = value-inside value (vector_named c vectors name) (vector-inside name)
  given-inside (name, given.Alone state) =
      state-inside state (option_map (λ node. node ∷ []) (node_of c.names name)) (alone-inside name)

-- nodes with one letter for each are the nodes, each with that letter
pub zip_same : (nodes : List ℕ) (letter : Letter) → zip nodes (replicate (length nodes) letter) ≡ map (λ (node : ℕ). (node, letter)) nodes
zip_same [] letter = refl
zip_same (node ∷ nodes) letter = ap (λ (more : List (ℕ × Letter)). (node, letter) ∷ more) (zip_same nodes letter)
