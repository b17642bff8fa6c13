-- The nodes that a name stands for: one, those of a vector, or none.
use Rattle.std.proofs.Common.{◌≡◌, ℕ, ◌<◌, ◌≤◌, List, [], ◌∷◌, All, Option, Some, None, ap, ◌∙◌, arith}
use Rattle.std.specs.Prelude.{unwrap_or}
use Rattle.std.proofs.lemmas.List.Elements.{All-weaker}
use Rattle.switch_paths.specs.Graphs.{nodes}
use Rattle.netlist.specs.Circuits.{CircuitData, IsCircuit}
use Rattle.netlist.specs.Names.{node_of}
use Rattle.node_words.specs.Vectors.{AreWithin}
use Rattle.node_words.specs.Words.{list_of, node_or_list}
use Rattle.session_meaning.specs.Refusals.{nodes_named}
use Rattle.session_meaning.proofs.ValueLemmas.{name-within}

module _ (c : CircuitData) (vectors : List (List ℕ × List ℕ)) (name : List ℕ) where
  pub named_node : (node : ℕ) → node_of c.names name ≡ Some node → nodes_named c vectors name ≡ node ∷ []
  named_node node is = ap (λ (found : Option ℕ). unwrap_or (node_or_list found (list_of vectors name)) []) is

  pub named_list : (list : List ℕ) → node_of c.names name ≡ None → list_of vectors name ≡ Some list → nodes_named c vectors name ≡ list
  named_list list none is =
      ap (λ (found : Option ℕ). unwrap_or (node_or_list found (list_of vectors name)) []) none ∙ ap (λ (found : Option (List ℕ)). unwrap_or found []) is

  pub named_nothing : node_of c.names name ≡ None → list_of vectors name ≡ None → nodes_named c vectors name ≡ []
  named_nothing none also =
      ap (λ (found : Option ℕ). unwrap_or (node_or_list found (list_of vectors name)) []) none ∙ ap (λ (found : Option (List ℕ)). unwrap_or found []) also

  -- they are nodes of the circuit, and so among as many as it has or more
  pub named_inside : (count : ℕ) → IsCircuit c → AreWithin (nodes c.graph) vectors → nodes c.graph ≤ count → All (λ node. node < count) (nodes_named c vectors name)
  named_inside count netlist within enough =
      All-weaker (λ (node : ℕ). node < nodes c.graph) (λ (node : ℕ). node < count) (λ node inside. omega (arith, inside, enough)) (nodes_named c vectors name)
      (name-within c netlist vectors within name)
