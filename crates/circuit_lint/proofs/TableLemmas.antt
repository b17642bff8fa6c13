-- Tables of nodes, as one place more is counted.
use Rattle.std.proofs.Common.{◌≡◌, ℕ, ◌+◌, ◌<◌, ◌≤◌, Bool, true, false, ◌||◌, ◌&&◌, List, [], length, get_or, set, replicate, take, count_by, nat_eq, Option, Some, None, position, unwrap_or, inl, inr, refl, sym, ap, subst, ◌∙◌, arith}
use Rattle.std.specs.List.{list_any, slice_get}
use Rattle.std.proofs.lemmas.Bool.{cases_eq, eq-eqb, ne_eqb, and_from}
use Rattle.std.proofs.lemmas.List.{get_or-set_other, get_or-replicate, length-replicate, length-set, length-take-le}
use Rattle.std.proofs.lemmas.Grind.{get_or-set_at}
use Rattle.std.proofs.lemmas.List.Elements.{All-get_or}
use Rattle.std.proofs.lemmas.Option.{slice_get_within, get_or_from_slice_get}
use Rattle.std.proofs.lemmas.List.Sums.{count_by_more_yes, count_by_more_no, count_by-le-length}
use Rattle.std.proofs.lemmas.List.Folds.{list_any_more}
use Rattle.switch_paths.specs.declared.switching.Switch.{Switch}
use Rattle.switch_paths.specs.Graphs.{GraphData, nodes, place_at}
use Rattle.netlist.specs.Circuits.{CircuitData, IsCircuit}
use Rattle.circuit_lint.specs.Nodes.{has_gate, has_end, AreGatesTo, AreEndsTo}
use Rattle.circuit_lint.specs.Supplies.{is_supply_name, names_supply, AreFirstSupplies}
use Rattle.first_places.proofs.PlaceLemmas.{position-yes, position-no}

-- the counts are those of the places so far, so they aren't more
pub gates_within : (g : GraphData) (k : ℕ) (gates : List ℕ) (node : ℕ) → AreGatesTo g k gates → k < length g.places → node < nodes g → get_or gates node 0 ≤ k
gates_within g k gates node are inside low =
    omega (arith, are.each node low, count_by-le-length (has_gate node) (take k g.places), length-take-le k g.places (omega arith))

module _ (g : GraphData) (k : ℕ) (inside : k < length g.places) where
  -- no switch stands at the place
  pub gates-none : (gates : List ℕ) → place_at g.places k ≡ None → AreGatesTo g k gates → AreGatesTo g (k + 1) gates
  gates-none gates none so_far = record {
    size = so_far.size;
    each = λ node low. so_far.each node low ∙ sym (count_by_more_no (has_gate node) g.places k None inside (ap (has_gate node) none));
  }

  -- a switch stands there, and its gate counts one more
  pub gates-some : (gates : List ℕ) (switch : Switch) → place_at g.places k ≡ Some switch → switch.gate < nodes g → AreGatesTo g k gates →
      AreGatesTo g (k + 1) (set gates switch.gate (get_or gates switch.gate 0 + 1))
  gates-some gates switch there gate so_far = record {
    size = length-set gates switch.gate _ ∙ so_far.size;
    each = λ node low. by node low;
  }
    where
      by : (node : ℕ) → node < nodes g → get_or (set gates switch.gate (get_or gates switch.gate 0 + 1)) node 0 ≡ count_by (has_gate node) (take (k + 1) g.places)
      by node low =
          elim (cases_eq node switch.gate) [
            | inl same ↦
                get_or-set_at gates switch.gate node (get_or gates switch.gate 0 + 1) 0 same (omega (arith, so_far.size, gate))
                ∙ ap (λ n. get_or gates n 0 + 1) (sym same) ∙ ap (λ n. n + 1) (so_far.each node low)
                ∙ sym (count_by_more_yes (has_gate node) g.places k None inside (ap (has_gate node) there ∙ eq-eqb switch.gate node (sym same)))
            | inr other ↦
                get_or-set_other gates switch.gate node (get_or gates switch.gate 0 + 1) 0 other ∙ so_far.each node low
                ∙ sym (count_by_more_no (has_gate node) g.places k None inside (ap (has_gate node) there ∙ ne_eqb switch.gate node (λ e. other (sym e))))
          ]

  or_false : (b : Bool) → b ≡ (b || false)
  or_false true = refl
  or_false false = refl

  -- likewise the marks of ends
  pub ends-none : (ends : List Bool) → place_at g.places k ≡ None → AreEndsTo g k ends → AreEndsTo g (k + 1) ends
  ends-none ends none so_far = record {
    size = so_far.size;
    each = λ node low.
        so_far.each node low ∙ or_false (list_any (has_end node) (take k g.places))
        ∙ ap (λ b. list_any (has_end node) (take k g.places) || b) (sym (ap (has_end node) none)) ∙ sym (list_any_more (has_end node) g.places k None inside);
  }

  pub ends-some : (ends : List Bool) (switch : Switch) → place_at g.places k ≡ Some switch → switch.a < nodes g → switch.b < nodes g → AreEndsTo g k ends →
      AreEndsTo g (k + 1) (set (set ends switch.a true) switch.b true)
  ends-some ends switch there a b so_far = record {
    size = length-set (set ends switch.a true) switch.b true ∙ length-set ends switch.a true ∙ so_far.size;
    each = λ node low.
        by node low ∙ ap (λ more. list_any (has_end node) (take k g.places) || more) (sym (ap (has_end node) there))
        ∙ sym (list_any_more (has_end node) g.places k None inside);
  }
    where
      marked : (b : Bool) → true ≡ (b || true)
      marked true = refl
      marked false = refl

      second : (b c : Bool) → c ≡ true → true ≡ (b || c)
      second b c so = marked b ∙ ap (λ d. b || d) (sym so)

      either : (b c : Bool) → c ≡ true → (b || c) ≡ true
      either true c so = refl
      either false c so = so

      by : (node : ℕ) → node < nodes g →
          get_or (set (set ends switch.a true) switch.b true) node false ≡ (list_any (has_end node) (take k g.places) || has_end node (Some switch))
      by node low =
          elim (cases_eq node switch.b) [
            | inl same ↦
                get_or-set_at (set ends switch.a true) switch.b node true false same (omega (arith, length-set ends switch.a true, so_far.size, b))
                ∙ second (list_any (has_end node) (take k g.places)) (has_end node (Some switch)) (either _ _ (eq-eqb switch.b node (sym same)))
            | inr past ↦
                get_or-set_other (set ends switch.a true) switch.b node true false past ∙
                elim (cases_eq node switch.a) [
                  | inl same ↦
                      get_or-set_at ends switch.a node true false same (omega (arith, so_far.size, a))
                      ∙ second (list_any (has_end node) (take k g.places)) (has_end node (Some switch)) (ap (λ c. c || (nat_eq switch.b node)) (eq-eqb switch.a node (sym same)))
                  | inr other ↦
                      get_or-set_other ends switch.a node true false other ∙ so_far.each node low ∙ or_false (list_any (has_end node) (take k g.places))
                      ∙ ap (λ c. list_any (has_end node) (take k g.places) || c) (sym (neither node other past))
                ]
          ]
        where
          neither : (node : ℕ) → ¬ (node ≡ switch.a) → ¬ (node ≡ switch.b) → has_end node (Some switch) ≡ false
          neither node other past =
              ap (λ c. c || (nat_eq switch.b node)) (ne_eqb switch.a node (λ e. other (sym e))) ∙ ne_eqb switch.b node (λ e. past (sym e))

-- before the first name no node has one
pub supplies-none : (c : CircuitData) (firsts : List (Option ℕ)) → firsts ≡ replicate (nodes c.graph) None → AreFirstSupplies c 0 firsts
supplies-none c firsts is = rw is (record {
  size = length-replicate (nodes c.graph) None;
  each = λ node low. get_or-replicate (nodes c.graph) node None None low;
})

module _ (c : CircuitData) (k : ℕ) (inside : k < length c.names) where
  -- a name that isn't that of a supply
  pub supplies-no : (firsts : List (Option ℕ)) → ((node : ℕ) → names_supply node (get_or c.names k ([], 0)) ≡ false) → AreFirstSupplies c k firsts →
      AreFirstSupplies c (k + 1) firsts
  supplies-no firsts fails so_far = record {
    size = so_far.size;
    each = λ node low. so_far.each node low ∙ sym (position-no (names_supply node) c.names k ([], 0) inside (fails node));
  }

  -- a name of a supply, for the node that it stands for
  pub supplies-yes : (firsts : List (Option ℕ)) (one : ℕ) → one < nodes c.graph → names_supply one (get_or c.names k ([], 0)) ≡ true →
      ((node : ℕ) → ¬ (node ≡ one) → names_supply node (get_or c.names k ([], 0)) ≡ false) → AreFirstSupplies c k firsts →
      AreFirstSupplies c (k + 1) (set firsts one (Some (unwrap_or (get_or firsts one None) k)))
  supplies-yes firsts one low passes fails so_far = record {
    size = length-set firsts one _ ∙ so_far.size;
    each = λ node within. by node within;
  }
    where
      by : (node : ℕ) → node < nodes c.graph →
          get_or (set firsts one (Some (unwrap_or (get_or firsts one None) k))) node None ≡ position (names_supply node) (take (k + 1) c.names)
      by node within =
          elim (cases_eq node one) [
            | inl same ↦
                get_or-set_at firsts one node (Some (unwrap_or (get_or firsts one None) k)) None same (omega (arith, so_far.size, low))
                ∙ ap (λ o. Some (unwrap_or o k)) (so_far.each one low)
                ∙ sym (position-yes (names_supply one) c.names k ([], 0) inside passes)
                ∙ ap (λ n. position (names_supply n) (take (k + 1) c.names)) (sym same)
            | inr other ↦
                get_or-set_other firsts one node (Some (unwrap_or (get_or firsts one None) k)) None other ∙ so_far.each node within
                ∙ sym (position-no (names_supply node) c.names k ([], 0) inside (fails node other))
          ]

-- a name in use, for the node that it stands for
module _ (c : CircuitData) (k : ℕ) (name : List ℕ) (node : ℕ) (there : slice_get c.names k ≡ Some (name, node)) where
  inside : k < length c.names
  inside = slice_get_within c.names k (name, node) there

  here : get_or c.names k ([], 0) ≡ (name, node)
  here = get_or_from_slice_get c.names k (name, node) ([], 0) there

  pub named_inside : IsCircuit c → node < nodes c.graph
  named_inside is =
      subst (λ (entry : List ℕ × ℕ). entry.1 < nodes c.graph) here (All-get_or (λ (entry : List ℕ × ℕ). entry.1 < nodes c.graph) c.names k ([], 0) inside is.within)

  pub supplies-other : is_supply_name name ≡ false → (firsts : List (Option ℕ)) → AreFirstSupplies c k firsts → AreFirstSupplies c (k + 1) firsts
  supplies-other fails firsts =
      supplies-no c k inside firsts (λ n. ap (names_supply n) here ∙ ap (λ b. nat_eq node n && b) fails ∙ neither (nat_eq node n))
    where
      neither : (b : Bool) → (b && false) ≡ false
      neither true = refl
      neither false = refl

  pub supplies-named : is_supply_name name ≡ true → node < nodes c.graph → (firsts : List (Option ℕ)) → AreFirstSupplies c k firsts →
      AreFirstSupplies c (k + 1) (set firsts node (Some (unwrap_or (get_or firsts node None) k)))
  supplies-named passes low firsts =
      supplies-yes c k inside firsts node low
      (ap (names_supply node) here ∙ and_from (nat_eq node node) (is_supply_name name) (eq-eqb node node refl) passes)
      (λ n other. ap (names_supply n) here ∙ ap (λ b. b && is_supply_name name) (ne_eqb node n (λ e. other (sym e))))
