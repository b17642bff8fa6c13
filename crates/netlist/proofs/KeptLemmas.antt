-- Each edit keeps a circuit well formed: a new node has the least size and a name, a transistor's switch has a switch's level and
-- stands between nodes, a further name is that of a node, and a node that gets another level is no rail.
use Rattle.std.proofs.Common.{◌≡◌, ◌≢◌, ℕ, ◌+◌, ◌<◌, ◌≤◌, ◌&&◌, ◌||◌, Bool, true, false, All, List, [], ◌∷◌, ◌++◌, length, codes, nat_le, nat_lt, is_some, unwrap_or, IfSome, Option, Some, None, refl, sym, ap, subst, ◌∙◌, inl, inr, arith, length-append}
use Rattle.std.specs.Prelude.{slice_set, ◌==◌, if◌then◌else◌}
use Rattle.std.proofs.lemmas.Bool.{cases_lt}
use Rattle.std.proofs.lemmas.Bool.Decides.{nat_tests}
use Rattle.std.proofs.lemmas.List.{length-set, get_or-set_other, get_or_append_left}
use Rattle.std.proofs.lemmas.List.Elements.{All-nil, All-push, All-set, All-weaker}
use Rattle.strength_order.specs.declared.TheConstants.{INPUT_LEVEL, LEAST_SIZE_LEVEL, LEAST_SWITCH_LEVEL, GREATEST_SWITCH_LEVEL}
use Rattle.strength_order.specs.declared.Profile.{Profile}
use Rattle.strength_order.specs.declared.Profile.TheVariants.{One, Two}
use Rattle.strength_order.specs.Levels.{IsLevel, greatest_size, greatest_strength, level_of_size, level_of_strength}
use Rattle.switch_paths.specs.declared.switching.Switch.{Switch}
use Rattle.switch_paths.specs.declared.switching.SwitchKind.{SwitchKind}
use Rattle.switch_paths.specs.Graphs.{Fits, FitsPlace, nodes}
use Rattle.switch_paths.specs.declared.TheConstants.{GND, VDD, RAILS}
use Rattle.netlist.specs.declared.fault.EditFault.TheVariants.{Rail, BadSize}
use Rattle.netlist.specs.Faults.{MakingFault}
use Rattle.netlist.specs.Faults.MakingFault.{BadStrength}
use Rattle.netlist.specs.Names.{first_name, held, name_at, node_of, rail_of, rail_or_held, spells}
use Rattle.netlist.specs.Circuits.{CircuitData, IsCircuit, rails_alone}
use Rattle.netlist.specs.Edits.{add_fault, is_size, is_strength, node_named, rail_fault, store_fault, switch_between, with_alias, with_alias_by, with_input, with_level, with_name_of, with_new_node, with_node, with_nodes, with_store, with_switch, with_transistor}
use Rattle.netlist.proofs.NameLemmas.{first_name-added, first_name-append, held-within}
use Rattle.netlist.proofs.NamingLemmas.{found-added, once-added}

-- ---- levels

-- an input node's level is a level
pub IsLevel-input : IsLevel INPUT_LEVEL
IsLevel-input = record { low = omega arith; high = omega arith }

-- so is a new node's
IsLevel-least : IsLevel LEAST_SIZE_LEVEL
IsLevel-least = record { low = omega arith; high = omega arith }

-- every profile accepts sizes up to 8 at most
size_at_most : (profile : Profile) → greatest_size profile ≤ 8
size_at_most One = omega arith
size_at_most Two = omega arith

-- and strengths up to 7
strength_at_most : (profile : Profile) → greatest_strength profile ≤ 7
strength_at_most One = omega arith
strength_at_most Two = omega arith

-- the level of a size that a profile accepts is a level
pub IsLevel-size : (profile : Profile) (size : ℕ) → is_size profile size ≡ true → IsLevel (level_of_size size)
IsLevel-size profile size accepted = by (nat_le 1 size) (nat_le size (greatest_size profile)) refl refl accepted
  where
    by : (low high : Bool) → nat_le 1 size ≡ low → nat_le size (greatest_size profile) ≡ high → low && high ≡ true → IsLevel size
    by true true low high both =
        let most = size_at_most profile in
        let greatest : size ≤ greatest_size profile = grind (arith, nat_tests) in
        record { low = grind (arith, nat_tests); high = omega arith }
    by true false low high both = absurd (cc)
    by false high low is_high both = absurd (cc)

-- the level of a strength that a profile accepts is a switch's
pub switch_level : (profile : Profile) (strength : ℕ) → is_strength profile strength ≡ true →
    (LEAST_SWITCH_LEVEL ≤ level_of_strength strength) × (level_of_strength strength ≤ GREATEST_SWITCH_LEVEL)
switch_level profile strength accepted = by (nat_le 1 strength) (nat_le strength (greatest_strength profile)) refl refl accepted
  where
    by : (low high : Bool) → nat_le 1 strength ≡ low → nat_le strength (greatest_strength profile) ≡ high → low && high ≡ true →
        (LEAST_SWITCH_LEVEL ≤ level_of_strength strength) × (level_of_strength strength ≤ GREATEST_SWITCH_LEVEL)
    by true true low high both =
        let least : 1 ≤ strength = grind (arith, nat_tests) in
        let most = strength_at_most profile in
        let greatest : strength ≤ greatest_strength profile = grind (arith, nat_tests) in
        (omega arith, omega arith)
    by true false low high both = absurd (cc)
    by false high low is_high both = absurd (cc)

-- ---- names

-- a node that has a name has one if more names come after
named-append : (entries more : List (List ℕ × ℕ)) (node : ℕ) → is_some (name_at entries node) ≡ true → is_some (name_at (entries ++ more) node) ≡ true
named-append entries more node named = by (node == GND) (node == VDD) (first_name entries node) (first_name-append entries more node) named
  where
    by : (gnd vdd : Bool) (first : Option (List ℕ)) → ((name : List ℕ) → first ≡ Some name → first_name (entries ++ more) node ≡ Some name) →
        is_some (if gnd then Some (codes "Gnd") else (if vdd then Some (codes "Vdd") else first)) ≡ true →
        is_some (if gnd then Some (codes "Gnd") else (if vdd then Some (codes "Vdd") else first_name (entries ++ more) node)) ≡ true
    by true vdd first keeps named = refl
    by false true first keeps named = refl
    by false false (Some name) keeps named = ap is_some (keeps name refl)
    by false false None keeps named = absurd (cc)

-- a node past those that have names has one once it is added
named-added : (entries : List (List ℕ × ℕ)) (name : List ℕ) (node : ℕ) → All (λ entry. entry.1 < node) entries →
    is_some (name_at (entries ++ (name, node) ∷ []) node) ≡ true
named-added entries name node within = by (node == GND) (node == VDD)
  where
    by : (gnd vdd : Bool) →
        is_some (if gnd then Some (codes "Gnd") else (if vdd then Some (codes "Vdd") else first_name (entries ++ (name, node) ∷ []) node)) ≡ true
    by true vdd = refl
    by false true = refl
    by false false = ap is_some (first_name-added entries node name within)

-- the rails have names
named-rail : (entries : List (List ℕ × ℕ)) (node : ℕ) → node < RAILS → is_some (name_at entries node) ≡ true
named-rail entries node low = by (node == GND) (node == VDD) refl refl
  where
    by : (gnd vdd : Bool) → (node == GND) ≡ gnd → (node == VDD) ≡ vdd →
        is_some (if gnd then Some (codes "Gnd") else (if vdd then Some (codes "Vdd") else first_name entries node)) ≡ true
    by true vdd is_gnd is_vdd = refl
    by false true is_gnd is_vdd = refl
    by false false is_gnd is_vdd = absurd (grind (arith, nat_tests))

-- a spelling of a rail stands for a rail
rail_of-within : (name : List ℕ) → IfSome (rail_of name) (λ node. node < RAILS)
rail_of-within name =
    by (spells name (codes "gnd")) (spells name (codes "gnd!")) (spells name (codes "vdd")) (spells name (codes "vdd!"))
  where
    second : (one two : Bool) → IfSome (if one || two then Some VDD else None) (λ node. node < RAILS)
    second true two = omega arith
    second false true = omega arith
    second false false = tt

    by : (one two three four : Bool) →
        IfSome (if one || two then Some GND else (if three || four then Some VDD else None)) (λ node. node < RAILS)
    by true two three four = omega arith
    by false true three four = omega arith
    by false false three four = second three four

-- a name in use stands for a node
pub node_of-within : (c : CircuitData) (name : List ℕ) → IsCircuit c → IfSome (node_of c.names name) (λ node. node < nodes c.graph)
node_of-within c name is = by (rail_of name) (held c.names name) (rail_of-within name) (held-within c.names name (nodes c.graph) is.within)
  where
    by : (rail named : Option ℕ) → IfSome rail (λ node. node < RAILS) → IfSome named (λ node. node < nodes c.graph) →
        IfSome (rail_or_held rail named) (λ node. node < nodes c.graph)
    by (Some rail) named low within = omega (arith, low, is.railed)
    by None named low within = within

-- and the node of a name is one of the circuit's
pub node_named-within : (c : CircuitData) (name : List ℕ) → IsCircuit c → node_named c name < nodes c.graph
node_named-within c name is = by (node_of c.names name) (node_of-within c name is)
  where
    by : (found : Option ℕ) → IfSome found (λ node. node < nodes c.graph) → unwrap_or found 0 < nodes c.graph
    by (Some node) within = within
    by None within = omega (arith, is.railed)

-- ---- edits

-- what fits a graph fits a larger one
fits-larger : (count more : ℕ) (place : Option Switch) → count ≤ more → FitsPlace count place → FitsPlace more place
fits-larger count more None larger fits = fits
fits-larger count more (Some switch) larger fits = record {
  low = fits.low;
  high = fits.high;
  gate = omega (arith, fits.gate);
  a = omega (arith, fits.a);
  b = omega (arith, fits.b);
}

-- the rails alone are a circuit
pub IsCircuit-rails_alone : (profile : Profile) → IsCircuit (rails_alone profile)
IsCircuit-rails_alone profile = record {
  wired = record {
    levels = All-push IsLevel (INPUT_LEVEL ∷ []) INPUT_LEVEL (All-push IsLevel [] INPUT_LEVEL (All-nil IsLevel) IsLevel-input) IsLevel-input;
    places = All-nil (FitsPlace 2);
  };
  railed = omega arith;
  gnd = refl;
  vdd = refl;
  within = All-nil (λ (entry : List ℕ × ℕ). entry.1 < 2);
  found = All-nil (λ (entry : List ℕ × ℕ). node_of [] entry.0 ≡ Some entry.1);
  once = λ i j name one other at_i at_j. absurd (cc);
  names = λ node low. named-rail [] node low;
}

-- a circuit with a new node, for a name that isn't in use
IsCircuit-with_new_node : (c : CircuitData) (name : List ℕ) → IsCircuit c → node_of c.names name ≡ None → IsCircuit (with_new_node c name)
IsCircuit-with_new_node c name is unused =
    let count = nodes c.graph in
    let more = length (c.graph.levels ++ LEAST_SIZE_LEVEL ∷ []) in
    let one_more : more ≡ count + 1 = length-append c.graph.levels (LEAST_SIZE_LEVEL ∷ []) in
    let gnd_low : GND < count = omega (arith, is.railed) in
    let vdd_low : VDD < count = omega (arith, is.railed) in
    record {
      wired = record {
        levels = All-push IsLevel c.graph.levels LEAST_SIZE_LEVEL is.wired.levels IsLevel-least;
        places = All-weaker (FitsPlace count) (FitsPlace more) (λ place fits. fits-larger count more place (omega (arith, one_more)) fits)
            c.graph.places is.wired.places;
      };
      railed = omega (arith, one_more, is.railed);
      gnd = get_or_append_left c.graph.levels (LEAST_SIZE_LEVEL ∷ []) 0 GND gnd_low ∙ is.gnd;
      vdd = get_or_append_left c.graph.levels (LEAST_SIZE_LEVEL ∷ []) 0 VDD vdd_low ∙ is.vdd;
      within = All-push (λ (e : List ℕ × ℕ). e.1 < more) c.names (name, count)
          (All-weaker (λ (e : List ℕ × ℕ). e.1 < count) (λ (e : List ℕ × ℕ). e.1 < more) (λ e low. omega (arith, low, one_more)) c.names is.within)
          (omega (arith, one_more));
      found = found-added c.names name count unused is.found;
      once = once-added c.names name count unused is.found is.once;
      names = λ node low. elim (cases_lt node count) [
        | inl old ↦ named-append c.names ((name, count) ∷ []) node (is.names node old)
        | inr past ↦
            let last : count ≡ node = omega (arith, low, past, one_more) in
            subst (λ n. is_some (name_at (c.names ++ (name, count) ∷ []) n) ≡ true) last (named-added c.names name count is.within)
      ];
    }

-- a circuit with a name in use
pub IsCircuit-with_node : (c : CircuitData) (name : List ℕ) → IsCircuit c → IsCircuit (with_node c name)
IsCircuit-with_node c name is = by (node_of c.names name) refl
  where
    by : (found : Option ℕ) → node_of c.names name ≡ found → IsCircuit (if is_some found then c else with_new_node c name)
    by (Some node) used = is
    by None unused = IsCircuit-with_new_node c name is unused

-- and with several
pub IsCircuit-with_nodes : (names : List (List ℕ)) (c : CircuitData) → IsCircuit c → IsCircuit (with_nodes c names)
IsCircuit-with_nodes [] c is = is
IsCircuit-with_nodes (name ∷ names) c is = IsCircuit-with_nodes names (with_node c name) (IsCircuit-with_node c name is)

-- a circuit with other places, whose switches fit it
pub IsCircuit-with_places : (c : CircuitData) (places : List (Option Switch)) → IsCircuit c → All (FitsPlace (nodes c.graph)) places →
    IsCircuit (record c { graph = record c.graph { places = places } })
IsCircuit-with_places c places is fit = record {
  wired = record { levels = is.wired.levels; places = fit };
  railed = is.railed;
  gnd = is.gnd;
  vdd = is.vdd;
  within = is.within;
  found = is.found;
  once = is.once;
  names = is.names;
}

-- a circuit with one more switch, which fits it
IsCircuit-with_switch : (c : CircuitData) (switch : Switch) → IsCircuit c → Fits (nodes c.graph) switch → IsCircuit (with_switch c switch)
IsCircuit-with_switch c switch is fits =
    IsCircuit-with_places c (c.graph.places ++ Some switch ∷ []) is
    (All-push (FitsPlace (nodes c.graph)) c.graph.places (Some switch) is.wired.places fits)

-- the strength of a transistor that isn't refused is accepted
accepted_strength : (accepted : Bool) (limits : Option MakingFault) → (if accepted then limits else Some BadStrength) ≡ None → accepted ≡ true
accepted_strength true limits none = refl
accepted_strength false limits none = absurd (cc)

-- a circuit with one more transistor, if it isn't refused
pub IsCircuit-with_transistor : (c : CircuitData) (kind : SwitchKind) (strength : ℕ) (gate source drain : List ℕ) → IsCircuit c →
    add_fault c strength gate source drain ≡ None → IsCircuit (with_transistor c kind strength gate source drain)
IsCircuit-with_transistor c kind strength gate source drain is none =
    let accepted = accepted_strength (is_strength c.profile strength) _ none in
    let level = switch_level c.profile strength accepted in
    let named = with_nodes c (gate ∷ source ∷ drain ∷ []) in
    let whole : IsCircuit named = IsCircuit-with_nodes (gate ∷ source ∷ drain ∷ []) c is in
    IsCircuit-with_switch named (switch_between named kind strength gate source drain) whole (record {
      low = level.0;
      high = level.1;
      gate = node_named-within named gate whole;
      a = node_named-within named source whole;
      b = node_named-within named drain whole;
    })

-- a circuit with a name in use, as one more name of a node if it is new
IsCircuit-with_name_of : (c : CircuitData) (name : List ℕ) (node : ℕ) → IsCircuit c → node < nodes c.graph → IsCircuit (with_name_of c name node)
IsCircuit-with_name_of c name node is low = by (node_of c.names name) refl
  where
    by : (found : Option ℕ) → node_of c.names name ≡ found →
        IsCircuit (if is_some found then c else record c { names = c.names ++ (name, node) ∷ [] })
    by (Some other) used = is
    by None unused = record {
      wired = is.wired;
      railed = is.railed;
      gnd = is.gnd;
      vdd = is.vdd;
      within = All-push (λ (e : List ℕ × ℕ). e.1 < nodes c.graph) c.names (name, node) is.within low;
      found = found-added c.names name node unused is.found;
      once = once-added c.names name node unused is.found is.once;
      names = λ other inside. named-append c.names ((name, node) ∷ []) other (is.names other inside);
    }

-- a circuit after an alias
pub IsCircuit-with_alias : (c : CircuitData) (first second : List ℕ) → IsCircuit c → IsCircuit (with_alias c first second)
IsCircuit-with_alias c first second is =
    by (node_of c.names first) (node_of c.names second) refl (node_of-within c first is) (node_of-within c second is)
  where
    by : (one other : Option ℕ) → node_of c.names first ≡ one → IfSome one (λ node. node < nodes c.graph) →
        IfSome other (λ node. node < nodes c.graph) → IsCircuit (with_alias_by c first second one other)
    by None None unused low_one low_other =
        IsCircuit-with_name_of (with_new_node c first) second (nodes c.graph) (IsCircuit-with_new_node c first is unused)
        (omega (arith, length-append c.graph.levels (LEAST_SIZE_LEVEL ∷ [])))
    by None (Some node) unused low_one low_other = IsCircuit-with_name_of c first node is low_other
    by (Some node) other used low_one low_other = IsCircuit-with_name_of c second node is low_one

-- a circuit in which a node that is no rail gets another level
pub IsCircuit-with_level : (c : CircuitData) (node level : ℕ) → RAILS ≤ node → IsLevel level → IsCircuit c → IsCircuit (with_level c node level)
IsCircuit-with_level c node level no_rail is_level is =
    let count : length (slice_set c.graph.levels node level) ≡ nodes c.graph = length-set c.graph.levels node level in
    let not_gnd : GND ≢ node = omega arith in
    let not_vdd : VDD ≢ node = omega arith in
    record {
      wired = record {
        levels = All-set IsLevel c.graph.levels node level is_level is.wired.levels;
        places = subst (λ n. All (FitsPlace n) c.graph.places) (sym count) is.wired.places;
      };
      railed = omega (arith, count, is.railed);
      gnd = get_or-set_other c.graph.levels node GND level 0 not_gnd ∙ is.gnd;
      vdd = get_or-set_other c.graph.levels node VDD level 0 not_vdd ∙ is.vdd;
      within = subst (λ n. All (λ entry. entry.1 < n) c.names) (sym count) is.within;
      found = is.found;
      once = is.once;
      names = λ other inside. is.names other (omega (arith, count, inside));
    }

-- an input node, if it isn't refused
pub IsCircuit-with_input : (c : CircuitData) (node : ℕ) → rail_fault node ≡ None → IsCircuit c → IsCircuit (with_input c node)
IsCircuit-with_input c node none is = by (nat_lt node RAILS) refl none
  where
    by : (rail : Bool) → nat_lt node RAILS ≡ rail → (if rail then Some Rail else None) ≡ None → IsCircuit (with_input c node)
    by true is_rail none = absurd (cc)
    by false is_rail none =
        let no_rail : RAILS ≤ node = grind (arith, nat_tests) in
        IsCircuit-with_level c node INPUT_LEVEL no_rail IsLevel-input is

-- a storage node of a size, if it isn't refused
pub IsCircuit-with_store : (c : CircuitData) (profile : Profile) (node size : ℕ) → store_fault profile node size ≡ None → IsCircuit c →
    IsCircuit (with_store c node size)
IsCircuit-with_store c profile node size none is = by (nat_lt node RAILS) (is_size profile size) refl refl none
  where
    by : (rail fits : Bool) → nat_lt node RAILS ≡ rail → is_size profile size ≡ fits →
        (if rail then Some Rail else (if fits then None else Some BadSize)) ≡ None → IsCircuit (with_store c node size)
    by true fits is_rail is_fits none = absurd (cc)
    by false false is_rail is_fits none = absurd (cc)
    by false true is_rail is_fits none =
        let no_rail : RAILS ≤ node = grind (arith, nat_tests) in
        IsCircuit-with_level c node (level_of_size size) no_rail (IsLevel-size profile size is_fits) is
