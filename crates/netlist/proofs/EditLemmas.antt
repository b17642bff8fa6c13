-- Edits of a circuit's transistors keep it well formed and its nodes named by visible names, and what they make of its nodes and
-- places: new nodes are storage nodes of the least size behind all others, and only the transistor's own place changes.
use Rattle.std.proofs.Common.{◌≡◌, ℕ, ◌+◌, ◌-◌, ◌<◌, ◌≤◌, Bool, true, false, ◌==◌, All, List, [], ◌∷◌, ◌++◌, length, replicate, codes, nat_lt, option_map, is_some, unwrap_or, IfSome, Option, Some, None, refl, sym, ap, subst, ◌∙◌, ◌⊎◌, inl, inr, arith, append_assoc, length-append}
use Rattle.std.specs.Prelude.{slice_set, if◌then◌else◌}
use Rattle.std.proofs.lemmas.Bool.{cases_lt}
use Rattle.std.proofs.lemmas.Bool.Decides.{nat_tests}
use Rattle.std.proofs.lemmas.List.{append-nil, get_or_past, length-replicate, replicate-append-replicate}
use Rattle.std.proofs.lemmas.List.Elements.{All-head, All-nil, All-cons, All-set, All-tail}
use Rattle.line_words.specs.Visible.{IsVisibleName}
use Rattle.strength_order.specs.declared.TheConstants.{LEAST_SIZE_LEVEL}
use Rattle.strength_order.specs.Levels.{level_of_strength}
use Rattle.switch_paths.specs.declared.switching.Switch.{Switch}
use Rattle.switch_paths.specs.declared.switching.SwitchKind.{SwitchKind}
use Rattle.switch_paths.specs.declared.TheConstants.{GND, VDD, RAILS}
use Rattle.switch_paths.specs.Graphs.{Fits, FitsPlace, nodes, place_at}
use Rattle.netlist.specs.declared.fault.EditFault.TheVariants.{NoSuchSwitch, BadStrength}
use Rattle.netlist.specs.Names.{first_name, name_at, node_of}
use Rattle.netlist.specs.Circuits.{CircuitData, IsCircuit, HasVisibleNames, called}
use Rattle.netlist.specs.Edits.{is_strength, node_named, strength_fault, switch_between, switch_numbered, with_changed, with_kind, with_new_node, with_node, with_nodes, with_place, with_strength, with_transistor, with_wires, without_switch}
use Rattle.netlist.proofs.NameLemmas.{first_name-added, first_name-append}
use Rattle.netlist.proofs.KeptLemmas.{IsCircuit-with_nodes, IsCircuit-with_places, node_named-within, switch_level}

-- ---- new nodes

-- the later circuit has so many nodes more, storage nodes of the least size behind the others, whose levels stay; so do the places
-- and the profile
pub record HasNewNodes (old new : CircuitData) : Type 0 where
  pub count : ℕ
  pub levels : new.graph.levels ≡ old.graph.levels ++ replicate count LEAST_SIZE_LEVEL
  pub places : new.graph.places ≡ old.graph.places
  pub profile : new.profile ≡ old.profile

-- a circuit with a name in use
pub HasNewNodes-with_node : (c : CircuitData) (name : List ℕ) → HasNewNodes c (with_node c name)
HasNewNodes-with_node c name = by (is_some (node_of c.names name))
  where
    by : (used : Bool) → HasNewNodes c (if used then c else with_new_node c name)
    by true = record { count = 0; levels = sym (append-nil c.graph.levels); places = refl; profile = refl }
    by false = record { count = 1; levels = refl; places = refl; profile = refl }

-- new nodes, and then further ones
HasNewNodes-both : (one two three : CircuitData) → HasNewNodes one two → HasNewNodes two three → HasNewNodes one three
HasNewNodes-both one two three first second = record {
  count = first.count + second.count;
  levels =
      second.levels
      ∙ ap (λ ls. ls ++ replicate second.count LEAST_SIZE_LEVEL) first.levels
      ∙ append_assoc one.graph.levels (replicate first.count LEAST_SIZE_LEVEL) (replicate second.count LEAST_SIZE_LEVEL)
      ∙ ap (λ new. one.graph.levels ++ new) (replicate-append-replicate first.count second.count LEAST_SIZE_LEVEL);
  places = second.places ∙ first.places;
  profile = second.profile ∙ first.profile;
}

-- a circuit with several names in use
pub HasNewNodes-with_nodes : (names : List (List ℕ)) (c : CircuitData) → HasNewNodes c (with_nodes c names)
HasNewNodes-with_nodes [] c = record { count = 0; levels = sym (append-nil c.graph.levels); places = refl; profile = refl }
HasNewNodes-with_nodes (name ∷ names) c =
    HasNewNodes-both c (with_node c name) (with_nodes c (name ∷ names)) (HasNewNodes-with_node c name)
    (HasNewNodes-with_nodes names (with_node c name))

-- so many more nodes there are
pub nodes-HasNewNodes : (old new : CircuitData) (has : HasNewNodes old new) → nodes new.graph ≡ nodes old.graph + has.count
nodes-HasNewNodes old new has =
    ap length has.levels ∙ length-append old.graph.levels (replicate has.count LEAST_SIZE_LEVEL)
    ∙ ap (λ n. nodes old.graph + n) (length-replicate has.count LEAST_SIZE_LEVEL)

-- names in use take no node away
pub nodes-with_nodes : (names : List (List ℕ)) (c : CircuitData) → nodes c.graph ≤ nodes (with_nodes c names).graph
nodes-with_nodes names c = omega (arith, nodes-HasNewNodes c (with_nodes c names) (HasNewNodes-with_nodes names c))

-- one more transistor takes no node away
pub nodes-with_transistor : (c : CircuitData) (kind : SwitchKind) (strength : ℕ) (gate source drain : List ℕ) →
    nodes c.graph ≤ nodes (with_transistor c kind strength gate source drain).graph
nodes-with_transistor c kind strength gate source drain = nodes-with_nodes (gate ∷ source ∷ drain ∷ []) c

-- nor do other terminals
pub nodes-with_wires : (c : CircuitData) (number : ℕ) (gate source drain : List ℕ) →
    nodes c.graph ≤ nodes (with_wires c number gate source drain).graph
nodes-with_wires c number gate source drain = nodes-with_nodes (gate ∷ source ∷ drain ∷ []) c

-- one more transistor makes new nodes of the least size, and all levels stay
pub levels-with_transistor : (c : CircuitData) (kind : SwitchKind) (strength : ℕ) (gate source drain : List ℕ) → (count : ℕ) ×
    ((with_transistor c kind strength gate source drain).graph.levels ≡ c.graph.levels ++ replicate count LEAST_SIZE_LEVEL)
levels-with_transistor c kind strength gate source drain =
    let has : HasNewNodes c (with_nodes c (gate ∷ source ∷ drain ∷ [])) = HasNewNodes-with_nodes (gate ∷ source ∷ drain ∷ []) c in
    (has.count, has.levels)

-- and so do other terminals
pub levels-with_wires : (c : CircuitData) (number : ℕ) (gate source drain : List ℕ) → (count : ℕ) ×
    ((with_wires c number gate source drain).graph.levels ≡ c.graph.levels ++ replicate count LEAST_SIZE_LEVEL)
levels-with_wires c number gate source drain =
    let has : HasNewNodes c (with_nodes c (gate ∷ source ∷ drain ∷ [])) = HasNewNodes-with_nodes (gate ∷ source ∷ drain ∷ []) c in
    (has.count, has.levels)

-- ---- places

-- one more transistor stands behind all others, whose places stay
pub places-with_transistor : (c : CircuitData) (kind : SwitchKind) (strength : ℕ) (gate source drain : List ℕ) →
    (with_transistor c kind strength gate source drain).graph.places
    ≡ c.graph.places ++ Some (switch_between (with_nodes c (gate ∷ source ∷ drain ∷ [])) kind strength gate source drain) ∷ []
places-with_transistor c kind strength gate source drain =
    let names = gate ∷ source ∷ drain ∷ [] in
    ap (λ ps. ps ++ Some (switch_between (with_nodes c names) kind strength gate source drain) ∷ [])
    (let has : HasNewNodes c (with_nodes c names) = HasNewNodes-with_nodes names c in has.places)

-- other terminals change the transistor's own place alone
pub places-with_wires : (c : CircuitData) (number : ℕ) (gate source drain : List ℕ) →
    (with_wires c number gate source drain).graph.places
    ≡ (let named = with_nodes c (gate ∷ source ∷ drain ∷ []) in slice_set c.graph.places (number - 1)
    (option_map (λ (switch : Switch). record switch { gate = node_named named gate; a = node_named named source; b = node_named named drain })
    (switch_numbered c number)))
places-with_wires c number gate source drain =
    let names = gate ∷ source ∷ drain ∷ [] in
    let named = with_nodes c names in
    let has : HasNewNodes c (with_nodes c names) = HasNewNodes-with_nodes names c in
    let wires = λ (switch : Switch). record switch { gate = node_named named gate; a = node_named named source; b = node_named named drain } in
    ap (λ (ps : List (Option Switch)). slice_set ps (number - 1) (option_map wires (if nat_lt 0 number then place_at ps (number - 1) else None))) has.places

-- ---- well formed

-- if a transistor has this number, its switch fits the circuit
pub switch_numbered-fits : (c : CircuitData) (number : ℕ) → IsCircuit c → IfSome (switch_numbered c number) (Fits (nodes c.graph))
switch_numbered-fits c number is = by (nat_lt 0 number) (place_at c.graph.places (number - 1)) (fits (cases_lt (number - 1) (length c.graph.places)))
  where
    fits : (number - 1 < length c.graph.places) ⊎ (length c.graph.places ≤ number - 1) →
        FitsPlace (nodes c.graph) (place_at c.graph.places (number - 1))
    fits (inl inside) = is.wired.places (number - 1) None inside
    fits (inr past) = subst (FitsPlace (nodes c.graph)) (sym (get_or_past c.graph.places (number - 1) None past)) tt

    by : (first : Bool) (place : Option Switch) → FitsPlace (nodes c.graph) place →
        IfSome (if first then place else None) (Fits (nodes c.graph))
    by true None fits = tt
    by true (Some switch) fits = fits
    by false place fits = tt

-- a circuit with something that fits it at a transistor's place
IsCircuit-with_place : (c : CircuitData) (number : ℕ) (place : Option Switch) → IsCircuit c → FitsPlace (nodes c.graph) place →
    IsCircuit (with_place c number place)
IsCircuit-with_place c number place is fits =
    IsCircuit-with_places c (slice_set c.graph.places (number - 1) place) is
    (All-set (FitsPlace (nodes c.graph)) c.graph.places (number - 1) place fits is.wired.places)

-- a circuit with a transistor's switch changed to one that fits it
IsCircuit-with_changed : (c : CircuitData) (number : ℕ) (change : Switch → Switch) → IsCircuit c →
    ((switch : Switch) → Fits (nodes c.graph) switch → Fits (nodes c.graph) (change switch)) → IsCircuit (with_changed c number change)
IsCircuit-with_changed c number change is fits =
    IsCircuit-with_place c number (option_map change (switch_numbered c number)) is
    (by (switch_numbered c number) (switch_numbered-fits c number is))
  where
    by : (place : Option Switch) → IfSome place (Fits (nodes c.graph)) → FitsPlace (nodes c.graph) (option_map change place)
    by None fit = tt
    by (Some switch) fit = fits switch fit

-- a circuit without a transistor
pub IsCircuit-without_switch : (c : CircuitData) (number : ℕ) → IsCircuit c → IsCircuit (without_switch c number)
IsCircuit-without_switch c number is = IsCircuit-with_place c number None is tt

-- a circuit with a transistor of another kind
pub IsCircuit-with_kind : (c : CircuitData) (number : ℕ) (kind : SwitchKind) → IsCircuit c → IsCircuit (with_kind c number kind)
IsCircuit-with_kind c number kind is =
    IsCircuit-with_changed c number (λ switch. record switch { kind = kind }) is (λ switch fits. record {
      low = fits.low;
      high = fits.high;
      gate = fits.gate;
      a = fits.a;
      b = fits.b;
    })

-- a circuit with a transistor of another strength, if it isn't refused
pub IsCircuit-with_strength : (c : CircuitData) (number strength : ℕ) → strength_fault c number strength ≡ None → IsCircuit c →
    IsCircuit (with_strength c number strength)
IsCircuit-with_strength c number strength none is =
    let accepted = accepted_strength (is_some (switch_numbered c number)) (is_strength c.profile strength) none in
    let level = switch_level c.profile strength accepted in
    IsCircuit-with_changed c number (λ switch. record switch { level = level_of_strength strength }) is (λ switch fits. record {
      low = level.0;
      high = level.1;
      gate = fits.gate;
      a = fits.a;
      b = fits.b;
    })
  where
    accepted_strength : (there accepted : Bool) →
        (if there then (if accepted then None else Some BadStrength) else Some NoSuchSwitch) ≡ None → accepted ≡ true
    accepted_strength true true none = refl
    accepted_strength true false none = absurd (cc)
    accepted_strength false accepted none = absurd (cc)

-- a circuit with a transistor between other nodes
pub IsCircuit-with_wires : (c : CircuitData) (number : ℕ) (gate source drain : List ℕ) → IsCircuit c →
    IsCircuit (with_wires c number gate source drain)
IsCircuit-with_wires c number gate source drain is =
    let named = with_nodes c (gate ∷ source ∷ drain ∷ []) in
    let whole : IsCircuit named = IsCircuit-with_nodes (gate ∷ source ∷ drain ∷ []) c is in
    IsCircuit-with_changed named number (λ switch. record switch {
      gate = node_named named gate;
      a = node_named named source;
      b = node_named named drain;
    }) whole (λ switch fits. record {
      low = fits.low;
      high = fits.high;
      gate = node_named-within named gate whole;
      a = node_named-within named source whole;
      b = node_named-within named drain whole;
    })

-- ---- visible names

-- a node is called the same if more names come after
name_at-append : (entries more : List (List ℕ × ℕ)) (node : ℕ) → is_some (name_at entries node) ≡ true →
    name_at (entries ++ more) node ≡ name_at entries node
name_at-append entries more node named = by (node == GND) (node == VDD) (first_name entries node) (first_name-append entries more node) named
  where
    by : (gnd vdd : Bool) (first : Option (List ℕ)) → ((name : List ℕ) → first ≡ Some name → first_name (entries ++ more) node ≡ Some name) →
        is_some (if gnd then Some (codes "Gnd") else (if vdd then Some (codes "Vdd") else first)) ≡ true →
        (if gnd then Some (codes "Gnd") else (if vdd then Some (codes "Vdd") else first_name (entries ++ more) node))
        ≡ (if gnd then Some (codes "Gnd") else (if vdd then Some (codes "Vdd") else first))
    by true vdd first keeps named = refl
    by false true first keeps named = refl
    by false false (Some name) keeps named = keeps name refl
    by false false None keeps named = absurd (cc)

-- a new node is called by its name
name_at-added : (entries : List (List ℕ × ℕ)) (name : List ℕ) (node : ℕ) → RAILS ≤ node → All (λ entry. entry.1 < node) entries →
    name_at (entries ++ (name, node) ∷ []) node ≡ Some name
name_at-added entries name node no_rail within = by (node == GND) (node == VDD) refl refl
  where
    by : (gnd vdd : Bool) → (node == GND) ≡ gnd → (node == VDD) ≡ vdd →
        (if gnd then Some (codes "Gnd") else (if vdd then Some (codes "Vdd") else first_name (entries ++ (name, node) ∷ []) node)) ≡ Some name
    by true vdd is_gnd is_vdd = absurd (grind (arith, nat_tests))
    by false true is_gnd is_vdd = absurd (grind (arith, nat_tests))
    by false false is_gnd is_vdd = first_name-added entries node name within

-- a circuit with a visible name in use
pub HasVisibleNames-with_node : (c : CircuitData) (name : List ℕ) → IsCircuit c → HasVisibleNames c → IsVisibleName name →
    HasVisibleNames (with_node c name)
HasVisibleNames-with_node c name is names visible = by (is_some (node_of c.names name))
  where
    called_visible : (node : ℕ) → (node < nodes c.graph) ⊎ (nodes c.graph ≤ node) → node < nodes (with_new_node c name).graph →
        IsVisibleName (called (with_new_node c name) node)
    called_visible node (inl old) low =
        subst (λ called. IsVisibleName (unwrap_or called []))
        (sym (name_at-append c.names ((name, nodes c.graph) ∷ []) node (is.names node old))) (names node old)
    called_visible node (inr past) low =
        let last : nodes c.graph ≡ node = omega (arith, low, past, length-append c.graph.levels (LEAST_SIZE_LEVEL ∷ [])) in
        subst (λ n. IsVisibleName (called (with_new_node c name) n)) last
        (subst (λ called. IsVisibleName (unwrap_or called [])) (sym (name_at-added c.names name (nodes c.graph) is.railed is.within)) visible)

    by : (used : Bool) → HasVisibleNames (if used then c else with_new_node c name)
    by true = names
    by false = λ node low. called_visible node (cases_lt node (nodes c.graph)) low

-- a circuit with several in use
pub HasVisibleNames-with_nodes : (words : List (List ℕ)) (c : CircuitData) → IsCircuit c → HasVisibleNames c → All IsVisibleName words →
    HasVisibleNames (with_nodes c words)
HasVisibleNames-with_nodes [] c is names visible = names
HasVisibleNames-with_nodes (word ∷ words) c is names visible =
    HasVisibleNames-with_nodes words (with_node c word) (IsCircuit-with_nodes (word ∷ []) c is)
    (HasVisibleNames-with_node c word is names (All-head IsVisibleName word words visible)) (All-tail IsVisibleName word words visible)

-- three visible names
three_visible : (gate source drain : List ℕ) → IsVisibleName gate → IsVisibleName source → IsVisibleName drain →
    All IsVisibleName (gate ∷ source ∷ drain ∷ [])
three_visible gate source drain one two three =
    All-cons IsVisibleName gate (source ∷ drain ∷ []) one
    (All-cons IsVisibleName source (drain ∷ []) two (All-cons IsVisibleName drain [] three (All-nil IsVisibleName)))

-- a circuit with one more transistor, whose terminals have visible names
pub HasVisibleNames-with_transistor : (c : CircuitData) (kind : SwitchKind) (strength : ℕ) (gate source drain : List ℕ) → IsCircuit c →
    HasVisibleNames c → IsVisibleName gate → IsVisibleName source → IsVisibleName drain →
    HasVisibleNames (with_transistor c kind strength gate source drain)
HasVisibleNames-with_transistor c kind strength gate source drain is names one two three =
    HasVisibleNames-with_nodes (gate ∷ source ∷ drain ∷ []) c is names (three_visible gate source drain one two three)

-- a circuit with a transistor between nodes of visible names
pub HasVisibleNames-with_wires : (c : CircuitData) (number : ℕ) (gate source drain : List ℕ) → IsCircuit c → HasVisibleNames c →
    IsVisibleName gate → IsVisibleName source → IsVisibleName drain → HasVisibleNames (with_wires c number gate source drain)
HasVisibleNames-with_wires c number gate source drain is names one two three =
    HasVisibleNames-with_nodes (gate ∷ source ∷ drain ∷ []) c is names (three_visible gate source drain one two three)

-- what stands at a transistor's place is no matter of names
pub HasVisibleNames-without_switch : (c : CircuitData) (number : ℕ) → HasVisibleNames c → HasVisibleNames (without_switch c number)
HasVisibleNames-without_switch c number names = names

pub HasVisibleNames-with_kind : (c : CircuitData) (number : ℕ) (kind : SwitchKind) → HasVisibleNames c →
    HasVisibleNames (with_kind c number kind)
HasVisibleNames-with_kind c number kind names = names

pub HasVisibleNames-with_strength : (c : CircuitData) (number strength : ℕ) → HasVisibleNames c →
    HasVisibleNames (with_strength c number strength)
HasVisibleNames-with_strength c number strength names = names
