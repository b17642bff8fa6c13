-- The groups that are stepped by vicinities stay known, or are forgotten, if they are known.
use Rattle.std.proofs.Common.{◌≡◌, ℕ, ◌-◌, ◌≤◌, inl, inr, List, ◌++◌, length, refl, sym, ap, subst, ◌∙◌, arith}
use Rattle.std.specs.Prelude.{min, Option, None, Some, IfSome}
use Rattle.std.proofs.lemmas.List.{length-append}
use Rattle.ternary.specs.declared.tern.Tern.{Tern}
use Rattle.switch_paths.specs.Graphs.{IsStorage, nodes}
use Rattle.machine_parts.specs.declared.part.MachinePart.{MachinePart}
use Rattle.vicinity.specs.Wides.{WideData}
use Rattle.vicinity.specs.Growing.{GrowsWide}
use Rattle.vicinity.proofs.GrowingLemmas.{count_grown, storage_before}
use Rattle.wide_groups.specs.Moving.{HasStaleOnly, graph_in}
use Rattle.wide_groups.specs.Awake.{HoldsWide}
use Rattle.wide_groups.proofs.WideCases.{both_before}
use Rattle.wide_groups.specs.Staying.{GrowsIn, HoldsNode, HoldsAny, ForgetsWith, lowered}

-- if no such groups are known, no node is a member of one
pub none_holds_node : (wide : Option WideData) → wide ≡ None → (node : ℕ) → ¬ HoldsNode wide node
none_holds_node None is node storage = absurd (omega (arith, storage.inside))
none_holds_node (Some wide) is node storage = absurd (cc)

-- what is known with new nodes was known before
pub grown_wide : (count : ℕ) (a c : Option WideData) → GrowsIn count a c → (later : WideData) → c ≡ Some later →
    (wide : WideData) × (a ≡ Some wide) × GrowsWide count wide later
grown_wide count a c = both_before (GrowsWide count) a c

-- and the other way round
pub wide_grown : (count : ℕ) (a c : Option WideData) → GrowsIn count a c → (wide : WideData) → a ≡ Some wide →
    (later : WideData) × (c ≡ Some later) × GrowsWide count wide later
wide_grown count None None grows wide is = absurd (cc)
wide_grown count None (Some c) grows wide is = absurd grows
wide_grown count (Some a) None grows wide is = absurd grows
wide_grown count (Some a) (Some c) grows wide is =
    let same : a ≡ wide = cc is in
    (c, refl, subst (λ (one : WideData). GrowsWide count one c) same grows)

-- so many nodes has the graph of such groups, if they are known
pub few_nodes : (parts : List MachinePart) (state : List Tern) (room : ℕ) (wide : Option WideData) → HoldsWide parts state room wide →
    nodes (graph_in wide) ≤ length state
few_nodes parts state room None holds = omega arith
few_nodes parts state room (Some wide) holds = omega (arith, holds.listed.counted)

-- the machine can go on with them once new nodes are there
pub holds_grown : (parts : List MachinePart) (old more : List Tern) (count room next : ℕ) (a c : Option WideData) → GrowsIn count a c →
    length more ≡ count - length old → IfSome c (λ _. length (old ++ more) ≤ next) → HoldsWide parts old room a → HoldsWide parts (old ++ more) next c
holds_grown parts old more count room next None None grows long enough holds = tt
holds_grown parts old more count room next None (Some c) grows long enough holds = absurd grows
holds_grown parts old more count room next (Some a) None grows long enough holds = absurd grows
holds_grown parts old more count room next (Some a) (Some c) grows long enough holds = record {
  listed = record {
    counted = omega (arith, ap nodes grows.graph, count_grown a.graph count, holds.listed.counted, length-append old more, long);
    live = grows.live old more (sym holds.listed.counted) holds.listed.live;
  };
  stale_only = λ node storage. holds.stale_only node (storage_before a.graph count node (subst (λ g. IsStorage g node) grows.graph storage));
  enough = enough;
}

-- and with a smaller bound
pub holds_lowered : (parts : List MachinePart) (state : List Tern) (room large : ℕ) (wide : Option WideData) → HoldsWide parts state room wide →
    HoldsWide parts state room (lowered large wide)
holds_lowered parts state room large None holds = tt
holds_lowered parts state room large (Some wide) holds = record {
  listed = record { counted = holds.listed.counted; live = holds.listed.live };
  stale_only = holds.stale_only;
  enough = holds.enough;
}

-- which is that of the groups that were known
pub lowered_from : (large : ℕ) (wide : Option WideData) (later : WideData) → lowered large wide ≡ Some later →
    (one : WideData) × (wide ≡ Some one) × (later ≡ record one { large = min one.large large })
lowered_from large None later is = absurd (cc)
lowered_from large (Some wide) later is =
    let same : record wide { large = min wide.large large } ≡ later = cc is in
    (wide, refl, sym same)

-- groups that are known after some nodes lost their owner are those from before, and have none of these nodes
pub forgets_none : (members : List ℕ) (old new : Option WideData) → ForgetsWith members old new → (wide : WideData) → new ≡ Some wide →
    (old ≡ Some wide) × (¬ HoldsAny old members)
forgets_none members old new forgets wide is =
    elim forgets [
      | inl (same, free) ↦ (sym same ∙ is, free)
      | inr (gone, any) ↦ absurd (cc (gone, is))
    ]

-- the machine can go on with them when other parts stand, if their members are those of stale parts still
pub holds_parts : (old new : List MachinePart) (state : List Tern) (room : ℕ) (wide : Option WideData) →
    ((one : WideData) → wide ≡ Some one → HasStaleOnly new one.graph) → HoldsWide old state room wide → HoldsWide new state room wide
holds_parts old new state room None only holds = tt
holds_parts old new state room (Some wide) only holds = record { listed = holds.listed; stale_only = only wide refl; enough = holds.enough }
