-- Visible names: an edit adds no names but those it is given, and where all names in use are visible each node is called so.
use Rattle.std.proofs.Common.{◌≡◌, ℕ, Bool, true, false, ◌==◌, All, List, [], ◌∷◌, ◌++◌, codes, Option, Some, None, IfSome, is_some, unwrap_or, refl}
use Rattle.std.specs.Prelude.{if◌then◌else◌}
use Rattle.std.proofs.lemmas.List.Elements.{All-head, All-tail, All-push}
use Rattle.switch_paths.specs.Graphs.{nodes}
use Rattle.line_words.proofs.VisibleLemmas.{words_of-visible}
use Rattle.switch_paths.specs.declared.TheConstants.{GND, VDD}
use Rattle.netlist.specs.Names.{first_name, name_at, node_of}
use Rattle.netlist.specs.Circuits.{CircuitData, IsCircuit, HasVisibleNames}
use Rattle.netlist.specs.Edits.{with_alias, with_alias_by, with_name_of, with_new_node, with_node, with_nodes}
use Rattle.sim_read.specs.declared.items.Setting.{Setting}
use Rattle.sim_read.specs.declared.items.Setting.TheVariants.{Unset, Input, Size}
use Rattle.sim_read.specs.Meaning.{with_setting}
use Rattle.line_words.specs.Visible.{IsVisibleName}

-- ---- edits

-- each name in use is a visible name
abbrev pub HasVisibleEntries : CircuitData → Type 0
HasVisibleEntries c = All (λ entry. IsVisibleName entry.0) c.names

-- a circuit with one more name
entries-push : (c : CircuitData) (name : List ℕ) (node : ℕ) → HasVisibleEntries c → IsVisibleName name
    → All (λ entry. IsVisibleName entry.0) (c.names ++ (name, node) ∷ [])
entries-push c name node is visible = All-push (λ (e : List ℕ × ℕ). IsVisibleName e.0) c.names (name, node) is visible

-- a circuit with a name in use
pub with_node-visible : (c : CircuitData) (name : List ℕ) → HasVisibleEntries c → IsVisibleName name → HasVisibleEntries (with_node c name)
with_node-visible c name is visible = by (is_some (node_of c.names name)) where
  by : (used : Bool) → HasVisibleEntries (if used then c else with_new_node c name)
  by true = is
  by false = entries-push c name (nodes c.graph) is visible

-- and with several
pub with_nodes-visible : (names : List (List ℕ)) (c : CircuitData) → HasVisibleEntries c → All IsVisibleName names → HasVisibleEntries (with_nodes c names)
with_nodes-visible [] c is visible = is
with_nodes-visible (name ∷ names) c is visible =
    with_nodes-visible names (with_node c name) (with_node-visible c name is (All-head IsVisibleName name names visible))
    (All-tail IsVisibleName name names visible)

-- a circuit with a name in use, as one more name of a node if it is new
with_name_of-visible : (c : CircuitData) (name : List ℕ) (node : ℕ) → HasVisibleEntries c → IsVisibleName name → HasVisibleEntries (with_name_of c name node)
with_name_of-visible c name node is visible = by (is_some (node_of c.names name)) where
  by : (used : Bool) → HasVisibleEntries (if used then c else record c { names = c.names ++ (name, node) ∷ [] })
  by true = is
  by false = entries-push c name node is visible

-- a circuit after an alias
pub with_alias-visible : (c : CircuitData) (first second : List ℕ) → HasVisibleEntries c → IsVisibleName first → IsVisibleName second
    → HasVisibleEntries (with_alias c first second)
with_alias-visible c first second is visible_first visible_second = by (node_of c.names first) (node_of c.names second) where
  by : (one other : Option ℕ) → HasVisibleEntries (with_alias_by c first second one other)
  by None None =
      with_name_of-visible (with_new_node c first) second (nodes c.graph) (entries-push c first (nodes c.graph) is visible_first) visible_second
  by None (Some node) = with_name_of-visible c first node is visible_first
  by (Some node) other = with_name_of-visible c second node is visible_second

-- what is set at a node leaves the names
pub with_setting-visible : (c : CircuitData) (node : ℕ) (setting : Setting) → HasVisibleEntries c → HasVisibleEntries (with_setting c node setting)
with_setting-visible c node Unset is = is
with_setting-visible c node Input is = is
with_setting-visible c node (Size size) is = is

-- ---- nodes

-- what the first rail is called is a word
gnd-visible : IsVisibleName (codes "Gnd")
gnd-visible = All-head IsVisibleName (codes "Gnd") [] (words_of-visible (codes "Gnd") refl refl)

-- and so is what the second is called
vdd-visible : IsVisibleName (codes "Vdd")
vdd-visible = All-head IsVisibleName (codes "Vdd") [] (words_of-visible (codes "Vdd") refl refl)

-- the first name of a node is one of those in use
first_name-visible : (entries : List (List ℕ × ℕ)) (node : ℕ) → All (λ entry. IsVisibleName entry.0) entries
    → IfSome (first_name entries node) IsVisibleName
first_name-visible [] node visible = tt
first_name-visible (entry ∷ entries) node visible =
    by (entry.1 == node) (first_name entries node) (All-head (λ (e : List ℕ × ℕ). IsVisibleName e.0) entry entries visible)
    (first_name-visible entries node (All-tail (λ (e : List ℕ × ℕ). IsVisibleName e.0) entry entries visible)) where
      by : (same : Bool) (rest : Option (List ℕ)) → IsVisibleName entry.0 → IfSome rest IsVisibleName
          → IfSome (if same then Some entry.0 else rest) IsVisibleName
      by true rest here later = here
      by false rest here later = later

-- what a node is called is visible, where all names in use are
name_at-visible : (names : List (List ℕ × ℕ)) (node : ℕ) → All (λ entry. IsVisibleName entry.0) names → IfSome (name_at names node) IsVisibleName
name_at-visible names node visible = by (node == GND) (node == VDD) where
  by : (gnd vdd : Bool)
      → IfSome (if gnd then Some (codes "Gnd") else (if vdd then Some (codes "Vdd") else first_name names node)) IsVisibleName
  by true vdd = gnd-visible
  by false true = vdd-visible
  by false false = first_name-visible names node visible

-- each node of a circuit is called so
pub nodes-visible : (c : CircuitData) → IsCircuit c → HasVisibleEntries c → HasVisibleNames c
nodes-visible c is visible node low = by (name_at c.names node) (is.names node low) (name_at-visible c.names node visible) where
  by : (name : Option (List ℕ)) → is_some name ≡ true → IfSome name IsVisibleName → IsVisibleName (unwrap_or name [])
  by (Some name) has called = called
  by None has called = absurd (cc)
