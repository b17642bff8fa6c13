-- A circuit is a graph with names: it is well formed if both are, and its edits are those of the graph and of the names.
-- The circuit's names come into use one after the other, each with its node; the names do so by themselves, and the graph gets all
-- new nodes at once. `with_nodes-circuit_of` says that both come to the same.
use Rattle.std.proofs.Common.{◌≡◌, ℕ, ◌+◌, ◌-◌, ◌<◌, List, [], ◌∷◌, ◌++◌, length, replicate, option_map, Option, Some, is_some, true, false, Bool, nat_le, unwrap_or, if◌then◌else◌, ap, ◌∙◌, arith, subst, sym, All, append_assoc, length-append}
use Rattle.std.specs.Prelude.{slice_set}
use Rattle.std.proofs.lemmas.Bool.{and_from, cond-true, le-leb}
use Rattle.std.proofs.lemmas.List.{append-nil, replicate-append-replicate, length-replicate}
use Rattle.strength_order.specs.declared.TheConstants.{LEAST_SIZE_LEVEL}
use Rattle.strength_order.specs.declared.Profile.{Profile}
use Rattle.strength_order.specs.Levels.{IsStrength, greatest_strength, level_of_strength}
use Rattle.switch_paths.specs.declared.switching.Switch.{Switch}
use Rattle.switch_paths.specs.declared.switching.SwitchKind.{SwitchKind}
use Rattle.switch_paths.specs.Graphs.{GraphData, IsWired, nodes}
use Rattle.netlist.specs.declared.names.Terminals.{Terminals}
use Rattle.netlist.specs.declared.fault.EditFault.TheVariants as fault
use Rattle.netlist.specs.Names.{node_of}
use Rattle.netlist.specs.Naming.{NamesData, AreTerminals, Extends, IsNaming, IsNamedBy, node_count, with_first, with_name, with_names}
use Rattle.netlist.specs.Circuits.{CircuitData, IsCircuit}
use Rattle.netlist.specs.Edits.{add_fault, count_fault, is_strength, limit_fault, node_named, switch_between, switch_numbered, wire_fault, with_changed, with_new_node, with_node, with_nodes, with_place, with_switch, with_transistor, with_wires}
use Rattle.netlist.proofs.NamingLemmas.{is_some-name_at, node_count-Extends, Extends-with_name, Extends-with_names}

-- the circuit of a graph and the names of its nodes
abbrev pub circuit_of : GraphData → NamesData → Profile → CircuitData
circuit_of g naming profile = record { graph = g; names = naming.entries; profile = profile }

-- it is well formed if both are
pub IsCircuit-circuit_of : (g : GraphData) (naming : NamesData) (profile : Profile) → IsWired g → IsNaming naming → IsNamedBy g naming →
    IsCircuit (circuit_of g naming profile)
IsCircuit-circuit_of g naming profile wired is by = record {
  wired = wired;
  railed = omega (arith, by.counted);
  gnd = by.gnd;
  vdd = by.vdd;
  within = subst (λ count. All (λ entry. entry.1 < count) naming.entries) (sym by.counted) is.within;
  found = is.found;
  once = is.once;
  names = λ node low. is_some-name_at naming node is (omega (arith, by.counted));
}

-- the levels with those of the nodes that the later names have and the earlier ones don't
abbrev grown : List ℕ → NamesData → NamesData → List ℕ
grown levels earlier later = levels ++ replicate (node_count later - node_count earlier) LEAST_SIZE_LEVEL

-- levels that don't grow
grown-same : (levels : List ℕ) (naming : NamesData) → levels ≡ grown levels naming naming
grown-same levels naming =
    let none : 0 ≡ node_count naming - node_count naming = omega arith in
    sym (append-nil levels) ∙ ap (λ n. levels ++ replicate n LEAST_SIZE_LEVEL) none

-- levels that grow twice grow by all nodes at once
grown-grown : (levels : List ℕ) (one two three : NamesData) → Extends one two → Extends two three →
    grown (grown levels one two) two three ≡ grown levels one three
grown-grown levels one two three first second =
    let more = node_count-Extends one two first in
    let most = node_count-Extends two three second in
    let sum : (node_count two - node_count one) + (node_count three - node_count two) ≡ node_count three - node_count one = omega (arith, more, most) in
    append_assoc levels (replicate (node_count two - node_count one) LEAST_SIZE_LEVEL) (replicate (node_count three - node_count two) LEAST_SIZE_LEVEL)
    ∙ ap (λ new. levels ++ new)
    (replicate-append-replicate (node_count two - node_count one) (node_count three - node_count two) LEAST_SIZE_LEVEL
    ∙ ap (λ n. replicate n LEAST_SIZE_LEVEL) sum)

-- and are those of all nodes
length-grown : (levels : List ℕ) (earlier later : NamesData) → length levels ≡ node_count earlier → Extends earlier later →
    length (grown levels earlier later) ≡ node_count later
length-grown levels earlier later counted more =
    omega (
      arith,
      node_count-Extends earlier later more,
      length-append levels (replicate (node_count later - node_count earlier) LEAST_SIZE_LEVEL),
      length-replicate (node_count later - node_count earlier) LEAST_SIZE_LEVEL,
    )

module _ (places : List (Option Switch)) (profile : Profile) where
  -- the circuit of these levels and names
  abbrev circuit_with : List ℕ → NamesData → CircuitData
  circuit_with levels naming = circuit_of (record { levels = levels; places = places }) naming profile

  -- a name that is made in use in the circuit is so among the names, and the graph grows by its node
  with_node-circuit_with : (levels : List ℕ) (naming : NamesData) (name : List ℕ) → length levels ≡ node_count naming →
      with_node (circuit_with levels naming) name ≡ circuit_with (grown levels naming (with_name naming name)) (with_name naming name)
  with_node-circuit_with levels naming name counted = by (is_some (node_of naming.entries name))
    where
      by : (used : Bool) → (if used then circuit_with levels naming else with_new_node (circuit_with levels naming) name)
          ≡ circuit_with (grown levels naming (if used then naming else with_first naming name)) (if used then naming else with_first naming name)
      by true = ap (λ ls. circuit_with ls naming) (grown-same levels naming)
      by false =
          let one : 1 ≡ node_count (with_first naming name) - node_count naming = omega (arith, length-append naming.firsts (length naming.entries ∷ [])) in
          let new : levels ++ LEAST_SIZE_LEVEL ∷ [] ≡ grown levels naming (with_first naming name) =
          ap (λ n. levels ++ replicate n LEAST_SIZE_LEVEL) one in
          λ j. record {
            graph = record { levels = new j; places = places };
            names = naming.entries ++ (name, counted j) ∷ [];
            profile = profile;
          }

  -- so are several, and the graph grows by all their nodes
  with_nodes-circuit_with : (levels : List ℕ) (naming : NamesData) (names : List (List ℕ)) → length levels ≡ node_count naming →
      with_nodes (circuit_with levels naming) names ≡ circuit_with (grown levels naming (with_names naming names)) (with_names naming names)
  with_nodes-circuit_with levels naming [] counted = ap (λ ls. circuit_with ls naming) (grown-same levels naming)
  with_nodes-circuit_with levels naming (name ∷ names) counted =
      let next = with_name naming name in
      let more = Extends-with_name naming name in
      ap (λ c. with_nodes c names) (with_node-circuit_with levels naming name counted)
      ∙ with_nodes-circuit_with (grown levels naming next) next names (length-grown levels naming next counted more)
      ∙ ap (λ ls. circuit_with ls (with_names next names))
      (grown-grown levels naming next (with_names next names) more (Extends-with_names next names))

-- the names at a transistor's terminals came into use among the names of a circuit, and these are their nodes
pub record HasTerminals (c : CircuitData) (g : GraphData) (earlier later : NamesData) (profile : Profile) (gate source drain : List ℕ) (terminals : Terminals) :
    Type 0 where
  pub whole : circuit_of g earlier profile ≡ c
  pub counted : nodes g ≡ node_count earlier
  pub made : later ≡ with_names earlier (gate ∷ source ∷ drain ∷ [])
  pub nodes : AreTerminals later gate source drain terminals

-- the circuit with the names in use has the later names, and their nodes
with_nodes-HasTerminals : {c : CircuitData} {g : GraphData} {earlier later : NamesData} {profile : Profile} {gate source drain : List ℕ} {terminals : Terminals} →
    HasTerminals c g earlier later profile gate source drain terminals →
    with_nodes c (gate ∷ source ∷ drain ∷ []) ≡ circuit_with g.places profile (grown g.levels earlier later) later
with_nodes-HasTerminals {c} {g} {earlier} {later} {profile} {gate} {source} {drain} {terminals} has =
    ap (λ d. with_nodes d (gate ∷ source ∷ drain ∷ [])) (sym has.whole)
    ∙ with_nodes-circuit_with g.places profile g.levels earlier (gate ∷ source ∷ drain ∷ []) has.counted
    ∙ ap (λ names. circuit_with g.places profile (grown g.levels earlier names) names) (sym has.made)

-- and so many nodes
nodes-HasTerminals : {c : CircuitData} {g : GraphData} {earlier later : NamesData} {profile : Profile} {gate source drain : List ℕ} {terminals : Terminals}
    (count : ℕ) → HasTerminals c g earlier later profile gate source drain terminals → count ≡ node_count later →
    nodes (with_nodes c (gate ∷ source ∷ drain ∷ [])).graph ≡ count
nodes-HasTerminals {c} {g} {earlier} {later} {profile} {gate} {source} {drain} {terminals} count has counts =
    let more : Extends earlier later =
    subst (Extends earlier) (sym has.made) (Extends-with_names earlier (gate ∷ source ∷ drain ∷ [])) in
    ap (λ (d : CircuitData). nodes d.graph) (with_nodes-HasTerminals has) ∙ length-grown g.levels earlier later has.counted more ∙ sym counts

-- the transistor whose switch is wired between them was added
pub with_transistor-wired : {c : CircuitData} {g : GraphData} {earlier later : NamesData} {profile : Profile} {gate source drain : List ℕ} {terminals : Terminals}
    (wired : GraphData) (kind : SwitchKind) (strength level count : ℕ) →
    HasTerminals c g earlier later profile gate source drain terminals → level ≡ level_of_strength strength → count ≡ node_count later →
    wired ≡ record {
      levels = g.levels ++ replicate (count - nodes g) LEAST_SIZE_LEVEL;
      places = g.places ++ Some (record { kind = kind; level = level; gate = terminals.gate; a = terminals.source; b = terminals.drain }) ∷ [];
    } →
    circuit_of wired later profile ≡ with_transistor c kind strength gate source drain
with_transistor-wired {c} {g} {earlier} {later} {profile} {gate} {source} {drain} {terminals} wired kind strength level count has is_level counts is =
    let missing : count - nodes g ≡ node_count later - node_count earlier = omega (arith, counts, has.counted) in
    let node : (name : List ℕ) (k : ℕ) → node_of later.entries name ≡ Some k → k ≡ unwrap_or (node_of later.entries name) 0 =
    λ name k found. sym (ap (λ o. unwrap_or o 0) found) in
    ap (λ w. circuit_of w later profile) is
    ∙ (λ j. record {
      graph = record {
        levels = g.levels ++ replicate (missing j) LEAST_SIZE_LEVEL;
        places = g.places ++ Some (record {
          kind = kind;
          level = is_level j;
          gate = node gate terminals.gate has.nodes.gate.found j;
          a = node source terminals.source has.nodes.source.found j;
          b = node drain terminals.drain has.nodes.drain.found j;
        }) ∷ [];
      };
      names = later.entries;
      profile = profile;
    })
    ∙ ap (λ d. with_switch d (switch_between d kind strength gate source drain)) (sym (with_nodes-HasTerminals has))

-- and it is refused by the limits alone where the profile accepts its strength
pub add_fault-HasTerminals : {c : CircuitData} {g : GraphData} {earlier later : NamesData} {profile : Profile} {gate source drain : List ℕ} {terminals : Terminals}
    (strength count : ℕ) → HasTerminals c g earlier later profile gate source drain terminals → IsStrength profile strength →
    count ≡ node_count later → add_fault c strength gate source drain ≡ limit_fault count (length g.places)
add_fault-HasTerminals {c} {g} {earlier} {later} {profile} {gate} {source} {drain} {terminals} strength count has is counts =
    let accepted : is_strength c.profile strength ≡ true =
    ap (λ (d : CircuitData). is_strength d.profile strength) (sym has.whole)
    ∙ and_from (nat_le 1 strength) (nat_le strength (greatest_strength profile)) (le-leb _ _ is.0) (le-leb _ _ is.1) in
    cond-true (is_strength c.profile strength) _ _ accepted
    ∙ ap (λ n. limit_fault n (length c.graph.places)) (nodes-HasTerminals count has counts)
    ∙ ap (λ (d : CircuitData). limit_fault count (length d.graph.places)) (sym has.whole)

-- a transistor that is there was wired between them
pub with_wires-wired : {c : CircuitData} {g : GraphData} {earlier later : NamesData} {profile : Profile} {gate source drain : List ℕ} {terminals : Terminals}
    (wired : GraphData) (number count : ℕ) (switch : Switch) →
    HasTerminals c g earlier later profile gate source drain terminals → Some switch ≡ switch_numbered c number → count ≡ node_count later →
    wired ≡ record {
      levels = g.levels ++ replicate (count - nodes g) LEAST_SIZE_LEVEL;
      places = slice_set g.places (number - 1)
          (Some (record switch { gate = terminals.gate; a = terminals.source; b = terminals.drain }));
    } →
    circuit_of wired later profile ≡ with_wires c number gate source drain
with_wires-wired {c} {g} {earlier} {later} {profile} {gate} {source} {drain} {terminals} wired number count switch has there counts is =
    let missing : count - nodes g ≡ node_count later - node_count earlier = omega (arith, counts, has.counted) in
    let node : (name : List ℕ) (k : ℕ) → node_of later.entries name ≡ Some k → k ≡ unwrap_or (node_of later.entries name) 0 =
    λ name k found. sym (ap (λ o. unwrap_or o 0) found) in
    let wires = λ (d : CircuitData) (s : Switch). record s { gate = node_named d gate; a = node_named d source; b = node_named d drain } in
    let named : CircuitData = circuit_with g.places profile (grown g.levels earlier later) later in
    let at : Some switch ≡ switch_numbered named number = there ∙ ap (λ (d : CircuitData). switch_numbered d number) (sym has.whole) in
    ap (λ w. circuit_of w later profile) is
    ∙ (λ j. record {
      graph = record {
        levels = g.levels ++ replicate (missing j) LEAST_SIZE_LEVEL;
        places = slice_set g.places (number - 1) (Some (record switch {
          gate = node gate terminals.gate has.nodes.gate.found j;
          a = node source terminals.source has.nodes.source.found j;
          b = node drain terminals.drain has.nodes.drain.found j;
        }));
      };
      names = later.entries;
      profile = profile;
    })
    ∙ ap (λ s. with_place named number (option_map (wires named) s)) at
    ∙ ap (λ d. with_changed d number (wires d)) (sym (with_nodes-HasTerminals has))

-- and it is refused by the number of nodes alone
pub wire_fault-HasTerminals : {c : CircuitData} {g : GraphData} {earlier later : NamesData} {profile : Profile} {gate source drain : List ℕ} {terminals : Terminals}
    (number count : ℕ) (switch : Switch) → HasTerminals c g earlier later profile gate source drain terminals →
    Some switch ≡ switch_numbered c number → count ≡ node_count later → wire_fault c number gate source drain ≡ count_fault count
wire_fault-HasTerminals {c} {g} {earlier} {later} {profile} {gate} {source} {drain} {terminals} number count switch has there counts =
    ap (λ s. if is_some s then count_fault (nodes (with_nodes c (gate ∷ source ∷ drain ∷ [])).graph) else Some fault.NoSuchSwitch) (sym there)
    ∙ ap count_fault (nodes-HasTerminals count has counts)
