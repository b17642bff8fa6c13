-- The sizing keeps a circuit a circuit: the thresholds of a header are few, so each size that comes of them has a level, and the rails are
-- no storage nodes.
use Rattle.std.proofs.Common.{◌≡◌, ℕ, ◌<◌, ◌≤◌, ◌&&◌, Bool, true, false, not, All, List, [], length, map, get_or, nat_le, Option, Some, None, IfSome, refl, sym, ap, subst, ◌∙◌, inl, inr, ◌+◌, arith}
use Rattle.std.specs.Prelude.{if◌then◌else◌, slice_set}
use Rattle.std.specs.List.{range_with_len}
use Rattle.std.specs.Option.{option_and_then, option_map_or}
use Rattle.std.proofs.lemmas.Bool.{cases_lt}
use Rattle.std.proofs.lemmas.Bool.Decides.{nat_tests}
use Rattle.std.proofs.lemmas.List.{get_or-set_other, get_or-set_same, length-set}
use Rattle.std.proofs.lemmas.List.Elements.{All-get_or, All-from_get_or}
use Rattle.std.proofs.lemmas.List.FromFn.{fill_by_all, get_or-map-range_with_len, length-map-range_with_len}
use Rattle.std.proofs.lemmas.List.Sums.{count_by-le-length}
use Rattle.strength_order.specs.declared.TheConstants.{INPUT_LEVEL}
use Rattle.strength_order.specs.declared.Profile.{Profile}
use Rattle.strength_order.specs.declared.Profile.TheVariants.{One, Two}
use Rattle.strength_order.specs.Levels.{IsLevel}
use Rattle.switch_paths.specs.Graphs.{FitsPlace, is_storage_level, level_of, nodes}
use Rattle.switch_paths.specs.declared.TheConstants.{GND, VDD}
use Rattle.netlist.specs.Circuits.{CircuitData, IsCircuit}
use Rattle.netlist.specs.Edits.{with_store}
use Rattle.sim_read.specs.declared.header.TheConstants.{MOST_THRESHOLDS}
use Rattle.sim_read.specs.Capacitances.{size_by}
use Rattle.sim_read.specs.Drafts.{DraftData, capacitance, is_marked, is_sized, sized_in, sized_level, with_levels}
use Rattle.sim_read.specs.Header.{are_thresholds, caps_of, is_rising, numbers_of, thresholds_by, thresholds_of}
use Rattle.sim_read.specs.Items.{items_of}

-- the thresholds that items write are few
thresholds_by-few : (items : List (List ℕ)) → IfSome (thresholds_by items) (λ thresholds. length thresholds ≤ MOST_THRESHOLDS)
thresholds_by-few items = by (numbers_of items)
  where
    by_test : (numbers : List ℕ) (few rise : Bool) → nat_le (length numbers) MOST_THRESHOLDS ≡ few
        → IfSome (if few && rise then Some numbers else None) (λ thresholds. length thresholds ≤ MOST_THRESHOLDS)
    by_test numbers true true few = grind (arith, nat_tests)
    by_test numbers true false few = tt
    by_test numbers false rise few = tt

    by : (numbers : Option (List ℕ))
        → IfSome (option_and_then (λ found. if are_thresholds found then Some found else None) numbers) (λ thresholds. length thresholds ≤ MOST_THRESHOLDS)
    by None = tt
    by (Some numbers) = by_test numbers (nat_le (length numbers) MOST_THRESHOLDS) (is_rising numbers) refl

-- and so are those of a header
pub thresholds_of-few : (words : List (List ℕ)) → IfSome (thresholds_of words) (λ thresholds. length thresholds ≤ MOST_THRESHOLDS)
thresholds_of-few words = by (caps_of words)
  where
    by : (text : Option (List ℕ))
        → IfSome (option_map_or (λ found. thresholds_by (items_of found)) text (Some [])) (λ thresholds. length thresholds ≤ MOST_THRESHOLDS)
    by None = omega arith
    by (Some text) = thresholds_by-few (items_of text)

-- the size that few thresholds give has a level
IsLevel-size_by : (thresholds : List ℕ) (capacitance : ℕ) → length thresholds ≤ MOST_THRESHOLDS → IsLevel (size_by thresholds capacitance)
IsLevel-size_by thresholds capacitance few =
    let most = count_by-le-length (λ threshold. nat_le threshold capacitance) thresholds in
    record { low = omega arith; high = omega arith }

-- the level of a node after the sizing is a level
IsLevel-sized : (d : DraftData) (node : ℕ) → length d.thresholds ≤ MOST_THRESHOLDS → IsLevel (level_of d.circuit.graph node)
    → IsLevel (sized_level d node)
IsLevel-sized d node few is = by (is_sized d node)
  where
    by : (sized : Bool) → IsLevel (if sized then size_by d.thresholds (capacitance d node) else level_of d.circuit.graph node)
    by true = IsLevel-size_by d.thresholds (capacitance d node) few
    by false = is

-- that of an input node stays
pub sized_level-input : (d : DraftData) (node : ℕ) → level_of d.circuit.graph node ≡ INPUT_LEVEL → sized_level d node ≡ INPUT_LEVEL
sized_level-input d node is =
    let input : is_storage_level (level_of d.circuit.graph node) ≡ false = ap is_storage_level is in
    ap (λ storage. if storage && not (is_marked d.marks node) then size_by d.thresholds (capacitance d node) else level_of d.circuit.graph node) input ∙ is

-- the circuit of a draft is a circuit
pub IsCircuit-sized_in : (profile : Profile) (d : DraftData) → length d.thresholds ≤ MOST_THRESHOLDS → IsCircuit d.circuit
    → IsCircuit (sized_in profile d)
IsCircuit-sized_in One d few is = is
IsCircuit-sized_in Two d few is =
    let c = d.circuit in
    let count = nodes c.graph in
    let levels = map (sized_level d) (range_with_len 0 count) in
    let size : length levels ≡ count = length-map-range_with_len (sized_level d) 0 count in
    let at : (node : ℕ) → node < count → get_or levels node 0 ≡ sized_level d node =
    λ node inside. get_or-map-range_with_len (sized_level d) 0 count node node 0 inside (omega arith) in
    record {
      wired = record {
        levels = All-from_get_or IsLevel levels 0 (λ node low.
            let inside : node < count = omega arith in
            subst IsLevel (sym (at node inside)) (IsLevel-sized d node few (All-get_or IsLevel c.graph.levels node 0 inside is.wired.levels)));
        places = subst (λ n. All (FitsPlace n) c.graph.places) (sym size) is.wired.places;
      };
      railed = omega (arith, size, is.railed);
      gnd = at GND (omega (arith, is.railed)) ∙ sized_level-input d GND is.gnd;
      vdd = at VDD (omega (arith, is.railed)) ∙ sized_level-input d VDD is.vdd;
      within = subst (λ n. All (λ entry. entry.1 < n) c.names) (sym size) is.within;
      found = is.found;
      once = is.once;
      names = λ node inside. is.names node (omega (arith, size, inside));
    }

-- ---- node by node

-- the nodes before a place have their levels after the sizing, the others those before
pub record IsSizedUpTo (d : DraftData) (place : ℕ) (c : CircuitData) : Type 0 where
  pub same : c ≡ with_levels d.circuit c.graph.levels
  pub count : nodes c.graph ≡ nodes d.circuit.graph
  pub below : (node : ℕ) → node < place → level_of c.graph node ≡ sized_level d node
  pub above : (node : ℕ) → place ≤ node → level_of c.graph node ≡ level_of d.circuit.graph node

-- a node that isn't sized keeps its level
sized_kept : (d : DraftData) (place : ℕ) (c : CircuitData) → IsSizedUpTo d place c → is_sized d place ≡ false → IsSizedUpTo d (place + 1) c
sized_kept d place c is kept = record {
  same = is.same;
  count = is.count;
  below = λ node low. elim (cases_lt node place) [
    | inl before ↦ is.below node before
    | inr here ↦
        let at : place ≡ node = omega arith in
        let level : sized_level d place ≡ level_of d.circuit.graph place =
        ap (λ sized. if sized then size_by d.thresholds (capacitance d place) else level_of d.circuit.graph place) kept in
        subst (λ n. level_of c.graph n ≡ sized_level d n) at (is.above place (omega arith) ∙ sym level)
  ];
  above = λ node past. is.above node (omega arith);
}

-- a node that is gets its size
sized_stored : (d : DraftData) (place size : ℕ) (c : CircuitData) → IsSizedUpTo d place c → is_sized d place ≡ true → place < nodes c.graph
    → size ≡ size_by d.thresholds (capacitance d place) → IsSizedUpTo d (place + 1) (with_store c place size)
sized_stored d place size c is stored inside by_caps =
    let levels : List ℕ = slice_set c.graph.levels place size in
    record {
      same = ap (λ (circuit : CircuitData). with_levels circuit levels) is.same;
      count = length-set c.graph.levels place size ∙ is.count;
      below = λ node low. elim (cases_lt node place) [
        | inl before ↦ get_or-set_other c.graph.levels place node size 0 (λ here. absurd (omega arith)) ∙ is.below node before
        | inr here ↦
            let at : place ≡ node = omega arith in
            let level : sized_level d place ≡ size_by d.thresholds (capacitance d place) =
            ap (λ sized. if sized then size_by d.thresholds (capacitance d place) else level_of d.circuit.graph place) stored in
            subst (λ n. get_or levels n 0 ≡ sized_level d n) at (get_or-set_same c.graph.levels place size 0 inside ∙ by_caps ∙ sym level)
      ];
      above = λ node past. get_or-set_other c.graph.levels place node size 0 (λ here. absurd (omega arith)) ∙ is.above node (omega arith);
    }

-- so with a node that gets its size if it is sized, one more has its level
pub sized_more : (d : DraftData) (place cap : ℕ) (c new : CircuitData) → IsSizedUpTo d place c → place < nodes d.circuit.graph
    → cap ≡ capacitance d place
    → new ≡ (if is_storage_level (level_of c.graph place) && not (is_marked d.marks place) then with_store c place (size_by d.thresholds cap) else c)
    → IsSizedUpTo d (place + 1) new
sized_more d place cap c new is inside by_caps made = by (is_sized d place) refl
  where
    level : level_of c.graph place ≡ level_of d.circuit.graph place
    level = is.above place (omega arith)

    made_by : new ≡ (if is_sized d place then with_store c place (size_by d.thresholds cap) else c)
    made_by = made ∙ ap (λ n. if is_storage_level n && not (is_marked d.marks place) then with_store c place (size_by d.thresholds cap) else c) level

    by : (sized : Bool) → is_sized d place ≡ sized → IsSizedUpTo d (place + 1) new
    by true same =
        let stored : new ≡ with_store c place (size_by d.thresholds cap) =
        made_by ∙ ap (λ s. if s then with_store c place (size_by d.thresholds cap) else c) same in
        let low : place < nodes c.graph = let n = is.count in omega arith in
        subst (IsSizedUpTo d (place + 1)) (sym stored)
        (sized_stored d place (size_by d.thresholds cap) c is same low (ap (size_by d.thresholds) by_caps))
    by false same =
        let kept : new ≡ c = made_by ∙ ap (λ s. if s then with_store c place (size_by d.thresholds cap) else c) same in
        subst (IsSizedUpTo d (place + 1)) (sym kept) (sized_kept d place c is same)

-- where all nodes have theirs, the circuit is that after the sizing
pub sized_all : (d : DraftData) (c : CircuitData) → IsSizedUpTo d (nodes d.circuit.graph) c → c ≡ sized_in Two d
sized_all d c is =
    is.same
    ∙ ap (with_levels d.circuit) (fill_by_all (sized_level d) c.graph.levels (nodes d.circuit.graph) 0 is.count is.below)
