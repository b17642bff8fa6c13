-- The groups that are held as they are made of a graph: all their members are awake.
use Rattle.std.proofs.Common.{◌≡◌, ℕ, Bool, List, length, sym, subst, ◌∙◌}
use Rattle.std.specs.Prelude.{Contains}
use Rattle.ternary.specs.declared.tern.Tern.{Tern}
use Rattle.switch_paths.specs.Graphs.{GraphData, IsStorage, IsWired, nodes}
use Rattle.group_meaning.specs.Groups.{Group, IsGroup}
use Rattle.group_meaning.proofs.LinkLemmas.{AreLinked-self, AreLinked-to}
use Rattle.group_rest.specs.Alike.{IsAlike}
use Rattle.vicinity.specs.Touching.{RestsAsleep}
use Rattle.vicinity.specs.Vicinities.{live_graph}
use Rattle.vicinity.specs.LiveLists.{AreListsOf}
use Rattle.vicinity.specs.Wides.{WideData}
use Rattle.vicinity.proofs.LiveGraphs.{storage_live}
use Rattle.wide_groups.specs.Confined.{IsConfined}
use Rattle.wide_groups.specs.Holding.{IsWithin, HoldsMembers}
use Rattle.wide_groups.proofs.ConfinedLemmas.{storage_inside, IsAlike-confined}

-- what touches all storage nodes leaves no member of a group asleep
pub touched_rest : (h : GraphData) (state : List Tern) (group : Group) (touched : List ℕ) → IsGroup h group →
    ((node : ℕ) → IsStorage h node → Contains touched node) → RestsAsleep h state group.members touched
touched_rest h state group touched is_group all node member asleep =
    let storage : IsStorage h node = AreLinked-to h _ node ((is_group.class node).0 member) in
    absurd (asleep (node, all node storage, AreLinked-self (live_graph h state) node (storage_live h state node storage)))

-- so the groups of a graph that is confined to their members are held, all awake
pub HoldsMembers-from : (large : ℕ) (g h : GraphData) (state : List Tern) (inside : List Bool) (wide : WideData) → wide.large ≡ large → wide.graph ≡ h →
    length state ≡ nodes g → IsWired h → IsConfined g inside h → AreListsOf h state wide.lists →
    ((node : ℕ) → IsStorage h node → Contains wide.touched.list node) → HoldsMembers large g state inside wide
HoldsMembers-from large g h state inside wide bound same counted wired confined lists touched =
    let confined_too : IsConfined g inside wide.graph = subst (IsConfined g inside) (sym same) confined in
    let touched_too : (node : ℕ) → IsStorage wide.graph node → Contains wide.touched.list node =
    λ node storage. touched node (subst (λ graph. IsStorage graph node) same storage) in
    let alike : (group : Group) → IsGroup g group → IsWithin inside group → IsAlike g wide.graph group = IsAlike-confined g wide.graph inside confined_too in
    record {
      bound = bound;
      listed = record {
        counted = confined_too.count ∙ sym counted;
        live = subst (λ graph. AreListsOf graph state wide.lists) (sym same) lists;
      };
      wired = subst IsWired (sym same) wired;
      storage = storage_inside g wide.graph inside confined_too;
      alike = alike;
      rests = λ group is_group within. touched_rest wide.graph state group wide.touched.list (alike group is_group within).there touched_too;
    }
