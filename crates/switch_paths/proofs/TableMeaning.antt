-- What the tables of the plain step mean in paths.
-- A table that spread to its end is sound, since each entry came over switches and so has a path, and complete,
-- since along a path no stand is stronger than its node's entry. So the first table has the strengths of the
-- strongest definite paths; with it as the floor, what spreads from the roots is what unblocked paths carry.
-- Some node's root always has a rail, so that every node gets a state.
use Rattle.std.proofs.Common.{◌≡◌, ℕ, ◌+◌, ◌<◌, ◌≤◌, min, Bool, true, false, ◌&&◌, nat_le, if◌then◌else◌, ◌⊎◌, inl, inr, List, [], ◌∷◌, length, Some, refl, sym, ◌∙◌, ap, arith}
use Rattle.std.proofs.lemmas.Bool.{cases_lt, and_parts, leb-true, le-leb}
use Rattle.std.proofs.Math.ListN.{get_or-eq_default}
use Rattle.std.specs.Prelude.{◌↔◌, slice_index}
use Rattle.ternary.specs.declared.tern.Tern.{Tern}
use Rattle.ternary.specs.declared.tern.Tern.TheVariants.{Zero, One, Unk}
use Rattle.ternary.specs.Tern.{may_one, may_zero}
use Rattle.switch_paths.specs.declared.switching.Switch.{Switch}
use Rattle.switch_paths.specs.Switching.{is_closed, state_at, switch_state_at}
use Rattle.switch_paths.specs.Graphs.{GraphData, IsWired, nodes, level_of, place_at}
use Rattle.switch_paths.specs.Path.{Stand, Joins, Hop, Leads, at_root, IsBeaten}
use Rattle.switch_paths.specs.Step.{IsStep}
use Rattle.switch_paths.specs.Spread.{passes, width, AreWidths, Comes, AllCome, Grows, IsSpreadOver, IsSpread, rail_of}
use Rattle.switch_paths.specs.Plain.{AreStrongest, root_entry, AreRoots, AreReached}
use Rattle.switch_paths.specs.Spread.Comes.{starts, crosses}
use Rattle.switch_paths.proofs.PathLemmas.{IsBeaten-path, place_inside, switch_fits, level_fits, Hop-in_range, Leads-positive, Leads-definite, Goes, Goes-here, Goes-from_Reaches, Arrives, Arrives-with, Arrives-at_root, Arrives-more, Reaches-from_Arrives}
use Rattle.switch_paths.proofs.StrongestPaths.{surely, Definite, onward, and-second}
use Rattle.switch_paths.proofs.ReachedNodes.{reached}

-- what a test lets through, if anything, is the whole
some_if : (test : Bool) (n : ℕ) → 0 < (if test then n else 0) → (test ≡ true) × ((if test then n else 0) ≡ n)
some_if true n positive = (refl, refl)
some_if false n positive = absurd (omega arith)

module _ (g : GraphData) (state : List Tern) (sure : Bool) (widths : List ℕ)
    (are_widths : AreWidths sure state g.places widths) where
  -- the width of a place with a switch
  width_at : (place : ℕ) (switch : Switch) → place_at g.places place ≡ Some switch →
      slice_index widths place ≡ width sure state (Some switch)
  width_at place switch stands =
      are_widths place (place_inside g.places place switch stands) ∙ ap (width sure state) stands

  -- a switch that passes lets its level through
  wide : (place : ℕ) (switch : Switch) → place_at g.places place ≡ Some switch →
      passes sure (switch_state_at state switch) ≡ true →
      slice_index widths place ≡ switch.level
  wide place switch stands pass = width_at place switch stands ∙ ap (λ (test : Bool). if test then switch.level else 0) pass

  -- and what lets something through is a switch that passes, and lets its level through
  wide_passes : (place : ℕ) (switch : Switch) → place_at g.places place ≡ Some switch → 0 < slice_index widths place →
      (passes sure (switch_state_at state switch) ≡ true) × (slice_index widths place ≡ switch.level)
  wide_passes place switch stands positive =
      let same = width_at place switch stands in
      let whole = some_if (passes sure (switch_state_at state switch)) switch.level (rw same at positive) in
      (whole.0, same ∙ whole.1)

  -- in a table that spread to its end nothing more comes from end to end
  spread_between : (floor table : List ℕ) → IsSpread g.places widths floor table → (place m n : ℕ) (switch : Switch) →
      place_at g.places place ≡ Some switch → Joins switch m n → IsSpreadOver floor table (slice_index widths place) m n
  spread_between floor table spread place m n switch stands joins =
      let across = rw stands at (spread place (place_inside g.places place switch stands)) in
      elim joins [ inl ends ↦ rw (← ends.0, ← ends.1) across.0 | inr ends ↦ rw (← ends.0, ← ends.1) across.1 ]

module _ (g : GraphData) (wired : IsWired g) (state : List Tern) (widths : List ℕ)
    (are_widths : AreWidths true state g.places widths) where
  -- over a switch that lets something through, a definite path goes on
  definite_next : (m strength place n : ℕ) (switch : Switch) → place_at g.places place ≡ Some switch → Joins switch m n →
      0 < slice_index widths place → Definite g state m strength → Definite g state n (min strength (slice_index widths place))
  definite_next m strength place n switch stands joins positive way =
      let whole = wide_passes g state true widths are_widths place switch stands positive in
      rw whole.1 (onward g wired state m n strength place switch way stands joins whole.0 (omega arith))

  module _ (floor start : List ℕ) (from_levels : (n : ℕ) → n < nodes g → slice_index start n ≡ level_of g n) where
    -- what comes from the levels has a definite path
    comes_definite : (n strength : ℕ) → Comes g.places widths floor start n strength → n < nodes g → Definite g state n strength
    comes_definite n strength (starts k positive) in_range = record {
      root = k;
      hops = [];
      path = record { in_range = in_range; leads = ap (surely k) (sym (from_levels k in_range)) };
    }
    comes_definite n strength (crosses m t comes place k switch stands joins positive above) in_range =
        let fits = switch_fits g wired place switch stands in
        let before : m < nodes g = elim joins [ inl ends ↦ rw (← ends.0) fits.a | inr ends ↦ rw (← ends.0) fits.b ] in
        definite_next m t place k switch stands joins positive (comes_definite m t comes before)

  -- along a definite path no stand is stronger than its node's entry
  definite_within : (best : List ℕ) → IsSpread g.places widths g.levels best → Grows g.levels best →
      (hops : List ℕ) (here there : Stand) →
      Leads g state here hops there → there.definite ≡ true → here.strength ≤ slice_index best here.node →
      there.strength ≤ slice_index best there.node
  definite_within best spread grows [] here there leads definite within = rw (← leads) within
  definite_within best spread grows (place ∷ hops) here there leads definite within =
      let next = leads.0 in
      let hop = leads.1 in
      let next_definite = Leads-definite g state hops next there leads.2 definite in
      let closed = and-second here.definite (is_closed (switch_state_at state hop.switch)) (rw hop.definite at next_definite) in
      let width : slice_index widths place ≡ hop.switch.level =
      wide g state true widths are_widths place hop.switch hop.at_place closed in
      let over = rw width at (spread_between g state true widths are_widths g.levels best spread place here.node
      next.node hop.switch hop.at_place hop.joins) in
      let most : min (slice_index best here.node) hop.switch.level ≤ slice_index best next.node =
      elim (cases_lt (min (slice_index best here.node) hop.switch.level) (level_of g next.node)) [
        | inl less ↦ omega (arith, grows next.node)
        | inr above ↦ over above
      ] in
      definite_within best spread grows hops next there leads.2 definite (omega (arith, hop.strength))

  -- a table that spread from the levels has the strengths of the strongest definite paths
  pub strongest : (start best : List ℕ) → ((n : ℕ) → n < nodes g → slice_index start n ≡ level_of g n) →
      AllCome g.places widths g.levels start best →
      Grows start best → IsSpread g.places widths g.levels best → AreStrongest g state best
  strongest start best from_levels come grows spread =
      let within : Grows g.levels best = λ n. elim (cases_lt n (nodes g)) [
        | inl inside ↦ omega (arith, grows n, from_levels n inside)
        | inr outside ↦ let none : level_of g n ≡ 0 = get_or-eq_default g.levels 0 outside in omega arith
      ] in
      record {
        found = λ n in_range.
            let level = level_fits g wired n in_range in
            let way = comes_definite g.levels start from_levels n (slice_index best n)
            (come n (omega (arith, within n, level.low))) in_range in
            (way.root, way.hops, surely n (slice_index best n), way.path, refl, refl, refl);
        most = λ root hops there path definite. definite_within best spread within hops
            (at_root g root) there path.leads definite (within root);
      }

-- what the first table says of a strength: that it is at least as great as that of each definite path to the node
module _ (g : GraphData) (state : List Tern) (best : List ℕ) (are_strongest : AreStrongest g state best) where
  -- then it isn't beaten there
  pub unbeaten : (node strength : ℕ) → slice_index best node ≤ strength → ¬ IsBeaten g state node strength
  unbeaten node strength most beaten =
      absurd (omega (
        arith,
        beaten.strong,
        are_strongest.most beaten.root beaten.hops beaten.there beaten.path
            beaten.definite,
        ap (slice_index best) beaten.ends,
      ))

  -- and a lesser one is beaten
  pub beaten_below : (node strength : ℕ) → node < nodes g → strength < slice_index best node → IsBeaten g state node strength
  beaten_below node strength in_range less =
      let way = are_strongest.found node in_range in
      IsBeaten-path way.0 way.1 way.2 way.3 way.4 way.5 (omega (arith, less, way.6))

  -- so what isn't beaten is as great
  pub most_unbeaten : (node strength : ℕ) → node < nodes g → (¬ IsBeaten g state node strength) → slice_index best node ≤ strength
  most_unbeaten node strength in_range free =
      elim (cases_lt strength (slice_index best node)) [
        | inl less ↦ absurd (free (beaten_below node strength in_range less))
        | inr most ↦ most
      ]

-- an unblocked path of this strength leads to the node, from a root whose state has the rail
record IsCarried (rail : Tern → Bool) (g : GraphData) (state : List Tern) (node strength : ℕ) : Type 0 where
  way : Arrives g state node strength
  set : rail (state_at state way.root) ≡ true

-- a root's entry that isn't 0 is the level of a node that has the rail and to which nothing stronger comes
root_set : (one : Bool) (state : Tern) (level best : ℕ) → 0 < root_entry one state level best →
    (rail_of one state ≡ true) × (best ≤ level) × (root_entry one state level best ≡ level)
root_set one state level best positive =
    let whole = some_if (rail_of one state && nat_le best level) level positive in
    let both = and_parts (rail_of one state) (nat_le best level) whole.0 in
    (both.0, leb-true best level both.1, whole.1)

-- a node that has the rail and to which nothing stronger comes has its level as a root's entry
root_level : (one : Bool) (state : Tern) (level best : ℕ) → rail_of one state ≡ true → best ≤ level →
    root_entry one state level best ≡ level
root_level one state level best rail most = rw (rail, le-leb best level most) refl

module _ (g : GraphData) (wired : IsWired g) (state : List Tern) (widths best : List ℕ) (one : Bool)
    (are_widths : AreWidths false state g.places widths) (are_strongest : AreStrongest g state best) where
  -- over a switch that lets something through, an unblocked path goes on to where no definite path is stronger
  carried_next : (m strength place n : ℕ) (switch : Switch) → place_at g.places place ≡ Some switch → Joins switch m n →
      0 < slice_index widths place → slice_index best n ≤ min strength (slice_index widths place) →
      IsCarried (rail_of one) g state m strength → IsCarried (rail_of one) g state n (min strength (slice_index widths place))
  carried_next m strength place n switch stands joins positive most carried =
      let way = carried.way in
      let whole = wide_passes g state false widths are_widths place switch stands positive in
      let end : Stand = record {
        node = n;
        strength = min strength (slice_index widths place);
        definite = way.there.definite && is_closed (switch_state_at state switch);
      } in
      let hop : Hop g state way.there place end = record {
        switch = switch;
        at_place = stands;
        joins = rw way.ends joins;
        live = whole.0;
        strength = cc (way.strong, whole.1);
        definite = refl;
      } in
      record {
        way = Arrives-more g state way place end hop (unbeaten g state best are_strongest n end.strength most);
        set = carried.set;
      }

  module _ (start : List ℕ) (from_roots : AreRoots one state g.levels best start) where
    -- what comes from the roots is carried by an unblocked path
    comes_carried : (n strength : ℕ) → Comes g.places widths best start n strength → n < nodes g →
        IsCarried (rail_of one) g state n strength
    comes_carried n strength (starts k positive) in_range =
        let entry = from_roots k in_range in
        let own = root_set one (state_at state k) (level_of g k) (slice_index best k) (rw entry at positive) in
        let way = Arrives-at_root g state k in_range (unbeaten g state best are_strongest k (level_of g k) own.1) in
        record { way = Arrives-with g state way (sym (entry ∙ own.2)); set = own.0 }
    comes_carried n strength (crosses m t comes place k switch stands joins positive above) in_range =
        let fits = switch_fits g wired place switch stands in
        let before : m < nodes g = elim joins [ inl ends ↦ rw (← ends.0) fits.a | inr ends ↦ rw (← ends.0) fits.b ] in
        carried_next m t place k switch stands joins positive above (comes_carried m t comes before)

  -- along an unblocked path no stand is stronger than its node's entry
  carried_within : (table : List ℕ) → IsSpread g.places widths best table → (hops : List ℕ) (here there : Stand) →
      here.node < nodes g → Goes g state here hops there → here.strength ≤ slice_index table here.node →
      there.strength ≤ slice_index table there.node
  carried_within table spread [] here there in_range goes within = rw (← goes.1) within
  carried_within table spread (place ∷ hops) here there in_range goes within =
      let next = goes.1.0 in
      let hop = goes.1.1 in
      let next_in_range = Hop-in_range wired hop in
      let width : slice_index widths place ≡ hop.switch.level =
      wide g state false widths are_widths place hop.switch hop.at_place hop.live in
      let over = rw width at (spread_between g state false widths are_widths best table spread place here.node
      next.node hop.switch hop.at_place hop.joins) in
      let most : slice_index best next.node ≤ next.strength =
      most_unbeaten g state best are_strongest next.node next.strength next_in_range
      (Goes-here g state hops next there goes.1.2) in
      carried_within table spread hops next there next_in_range goes.1.2
      (omega (arith, hop.strength, over (omega (arith, hop.strength))))

  -- a table that spread from the roots has an entry exactly for each node whose steady state has the rail
  pub are_reached : (start table : List ℕ) → AreRoots one state g.levels best start → AllCome g.places widths best start table →
      Grows start table → IsSpread g.places widths best table → AreReached one g state table
  are_reached start table from_roots come grows spread = λ n in_range. (
    (λ positive.
        let carried = comes_carried start from_roots n (slice_index table n) (come n positive) in_range in
        (carried.way.root, Reaches-from_Arrives g state carried.way, carried.set)),
    (λ responds.
        let root = responds.0 in
        let reached = responds.1 in
        let goes = Goes-from_Reaches g state root n reached in
        let level = level_fits g wired root reached.path.in_range in
        let first : slice_index best root ≤ level_of g root =
        most_unbeaten g state best are_strongest root (level_of g root) reached.path.in_range
        (Goes-here g state reached.hops (at_root g root) reached.there goes) in
        let entry : slice_index start root ≡ level_of g root =
        from_roots root reached.path.in_range ∙ root_level one (state_at state root) (level_of g root)
        (slice_index best root) responds.2 first in
        let within : reached.there.strength ≤ slice_index table reached.there.node =
        carried_within table spread reached.hops (at_root g root) reached.there reached.path.in_range goes
        (omega (arith, grows root)) in
        let low : 1 ≤ reached.there.strength = Leads-positive g state wired reached.hops
        (at_root g root) reached.there reached.path.leads level.low in
        omega (arith, ap (slice_index table) reached.ends)),
  )

-- a state has one rail or the other
some_rail : (state : Tern) → (may_one state ≡ true) ⊎ (may_zero state ≡ true)
some_rail Zero = inr refl
some_rail One = inl refl
some_rail Unk = inl refl

module _ (g : GraphData) (wired : IsWired g) (state : List Tern) (one zero : List ℕ)
    (ones : AreReached true g state one) (zeros : AreReached false g state zero) where
  -- each node has an entry in one table or the other, since some root reaches it
  pub some_entry : (n : ℕ) → n < nodes g → 0 < slice_index one n + slice_index zero n
  some_entry n in_range =
      let way = reached g wired state n in_range in
      elim (some_rail (state_at state way.0)) [
        | inl set ↦ omega (arith, (ones n in_range).1 (way.0, way.1, set))
        | inr set ↦ omega (arith, (zeros n in_range).1 (way.0, way.1, set))
      ]

  -- the states with these rails are the step
  pub step_from_entries : (out : List Tern) → length out ≡ nodes g →
      ((n : ℕ) → n < length out → (may_one (state_at out n) ≡ true) ↔ (0 < slice_index one n)) →
      ((n : ℕ) → n < length out → (may_zero (state_at out n) ≡ true) ↔ (0 < slice_index zero n)) → IsStep g state out
  step_from_entries out count is_one is_zero = record {
    count = count;
    each = λ n in_range.
        let inside : n < length out = omega arith in
        record {
          one = (
            (λ set. (ones n in_range).0 ((is_one n inside).0 set)),
            (λ responds. (is_one n inside).1 ((ones n in_range).1 responds)),
          );
          zero = (
            (λ set. (zeros n in_range).0 ((is_zero n inside).0 set)),
            (λ responds. (is_zero n inside).1 ((zeros n in_range).1 responds)),
          );
        };
  }
