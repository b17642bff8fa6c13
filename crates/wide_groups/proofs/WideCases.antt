-- The groups that are stepped by vicinities, if they are known: what holds in both cases.
use Rattle.std.proofs.Common.{◌≡◌, ℕ, ◌<◌, ◌≤◌, inl, inr, Bool, true, false, List, length, refl, sym, ap, subst, ◌∙◌, arith}
use Rattle.std.specs.Prelude.{Contains, Option, None, Some, IfSome, is_some}
use Rattle.ternary.specs.declared.tern.Tern.{Tern}
use Rattle.switch_paths.specs.Graphs.{GraphData, IsStorage, nodes}
use Rattle.group_meaning.proofs.LinkLemmas.{AreLinked-to}
use Rattle.vicinity.specs.Vicinities.{live_graph}
use Rattle.vicinity.specs.LiveLists.{AreListsOf}
use Rattle.vicinity.specs.NodeSets.{NodeSetData, IsIn}
use Rattle.vicinity.specs.Touching.{IsAwake, SwitchChanges}
use Rattle.vicinity.specs.Stepping.{Touches}
use Rattle.vicinity.specs.Wides.{WideData, StaysWide, Calms, Retouches, PlacesWide}
use Rattle.vicinity.proofs.LiveGraphs.{storage_whole}
use Rattle.vicinity.proofs.TouchLemmas.{NoneTwice, Touches-then, Touches-none}
use Rattle.machine_parts.specs.declared.part.MachinePart.{MachinePart}
use Rattle.machine_parts.specs.Parts.{HasMember, IsStale}
use Rattle.machine_parts.specs.Stepping.{Moves}
use Rattle.wide_groups.specs.Moving.{graph_in, touched_in, HasStaleOnly, IsAwakeIn, MovesIn, BothIn, RetouchesIn, PlacesIn}
use Rattle.wide_groups.specs.Awake.{HoldsWide, IsListedIn, CalmsIn, TurnedIn, ListsIn}

-- what is awake is a storage node of the graph
pub awake_storage : (g : GraphData) (state : List Tern) (touched : List ℕ) (node : ℕ) → IsAwake g state touched node → IsStorage g node
awake_storage g state touched node (one, touch, near) = storage_whole g state node (AreLinked-to (live_graph g state) one node near)

-- if no such groups are known nothing is awake
pub none_awake : (state : List Tern) (node : ℕ) → ¬ IsAwakeIn None state node
none_awake state node (one, there, near) = absurd (omega (arith, there.1))

-- and a step is one of the parts alone
pub moves_without : (joining : Bool) (parts : List MachinePart) (marks : List Bool) (old new : List Tern) → Moves joining parts marks old new →
    MovesIn joining parts marks None old new
moves_without joining parts marks old new moves = record {
  count = moves.count;
  given = moves.given;
  awake = λ node value awake response. absurd (none_awake old node awake);
  stays = λ node none asleep. moves.stays node none;
}

-- what is awake is a member of a stale part
pub awake_stale : (parts : List MachinePart) (wide : Option WideData) → ((one : WideData) → wide ≡ Some one → HasStaleOnly parts one.graph) →
    (state : List Tern) (node : ℕ) → IsAwakeIn wide state node → (k : ℕ) × HasMember parts k node × IsStale parts k
awake_stale parts None only state node awake = absurd (none_awake state node awake)
awake_stale parts (Some wide) only state node awake =
    only wide refl node (awake_storage wide.graph state wide.touched.list node awake)

pub stale_only_in : (parts : List MachinePart) (states : List Tern) (room : ℕ) (wide : Option WideData) → HoldsWide parts states room wide →
    (one : WideData) → wide ≡ Some one → HasStaleOnly parts one.graph
stale_only_in parts states room None holds one is = absurd (cc)
stale_only_in parts states room (Some wide) holds one is =
    let same : wide ≡ one = cc is in
    subst (λ (w : WideData). HasStaleOnly parts w.graph) same holds.stale_only

-- and is below the number of the states
pub awake_inside : (parts : List MachinePart) (states : List Tern) (room : ℕ) (wide : Option WideData) → HoldsWide parts states room wide →
    (state : List Tern) (node : ℕ) → IsAwakeIn wide state node → node < length states
awake_inside parts states room None holds state node awake = absurd (none_awake state node awake)
awake_inside parts states room (Some wide) holds state node awake =
    let storage = awake_storage wide.graph state wide.touched.list node awake in
    omega (arith, storage.inside, holds.listed.counted)

-- without such groups all is well
pub none_holds : (parts : List MachinePart) (states : List Tern) (room : ℕ) (wide : Option WideData) → wide ≡ None → HoldsWide parts states room wide
none_holds parts states room None is = tt
none_holds parts states room (Some wide) is = absurd (cc)

-- one change after another
StaysWide-then : (a b c : WideData) → StaysWide a b → StaysWide b c → StaysWide a c
StaysWide-then a b c first then = record { large = then.large ∙ first.large; graph = then.graph ∙ first.graph }

pub TurnedIn-none : (wide : Option WideData) (state : List Tern) → TurnedIn wide wide state state
TurnedIn-none None state = tt
TurnedIn-none (Some wide) state = record {
  stays = record { large = refl; graph = refl };
  live = λ lists. lists;
  touches = Touches-none wide.graph state wide.touched.inside;
}

pub TurnedIn-then : (a b c : Option WideData) (old mid new : List Tern) → NoneTwice old mid new → TurnedIn a b old mid → TurnedIn b c mid new →
    TurnedIn a c old new
TurnedIn-then None None None old mid new once first then = tt
TurnedIn-then (Some a) (Some b) (Some c) old mid new once first then = record {
  stays = StaysWide-then a b c first.stays then.stays;
  live = λ lists. (subst (λ g. AreListsOf g mid b.lists → AreListsOf g new c.lists) first.stays.graph then.live) (first.live lists);
  touches = Touches-then a.graph old mid new a.touched.inside b.touched.inside c.touched.inside once first.touches
      (subst (λ g. Touches g mid new b.touched.inside c.touched.inside) first.stays.graph then.touches);
}
TurnedIn-then None None (Some c) old mid new once first then = absurd then
TurnedIn-then None (Some b) c old mid new once first then = absurd first
TurnedIn-then (Some a) None c old mid new once first then = absurd first
TurnedIn-then (Some a) (Some b) None old mid new once first then = absurd then

-- what is touched after a step was so before it, and the step was a joining one
calm_only : (joining : Bool) (a b : WideData) → ((node : ℕ) → IsIn a.touched.inside node → Contains a.touched.list node) → Calms joining a b →
    (node : ℕ) → IsIn b.touched.inside node → (joining ≡ true) × Contains a.touched.list node
calm_only true a b listed calms node there = (refl, listed node (subst (λ (set : NodeSetData). IsIn set.inside node) (calms.kept refl) there))
calm_only false a b listed calms node there = absurd (calms.clear refl node there)

-- a step that was taken over touched what it stirred, and no more
pub RetouchesIn-from : (joining : Bool) (a b c : Option WideData) (old new : List Tern) → ListsIn a → CalmsIn joining a b → TurnedIn b c old new →
    ListsIn c → RetouchesIn joining a c old new
RetouchesIn-from joining None None None old new before calms turned lists = tt
RetouchesIn-from joining (Some a) (Some b) (Some c) old new before calms turned lists = record {
  stays = StaysWide-then a b c calms.stays turned.stays;
  kept = λ is node there.
      lists.listed node (turned.touches.stays node (subst (λ (set : NodeSetData). IsIn set.inside node) (sym (calms.kept is)) (before.only node there)));
  all = λ node storage changed.
      lists.listed node (turned.touches.all node (subst (λ g. IsStorage g node) (sym calms.stays.graph) storage)
      (subst (λ g. SwitchChanges g old new node) (sym calms.stays.graph) changed));
  only = λ node there.
      elim (turned.touches.only node (lists.only node there)) [
        | inl was ↦ inl (calm_only joining a b before.listed calms node was)
        | inr (storage, changes) ↦ inr (
          subst (λ g. IsStorage g node) calms.stays.graph storage,
          subst (λ g. SwitchChanges g old new node) calms.stays.graph changes,
        )
      ];
}
RetouchesIn-from joining None None (Some c) old new before calms turned lists = absurd turned
RetouchesIn-from joining None (Some b) c old new before calms turned lists = absurd calms
RetouchesIn-from joining (Some a) None c old new before calms turned lists = absurd calms
RetouchesIn-from joining (Some a) (Some b) None old new before calms turned lists = absurd turned

-- of two states of such groups the first is known if the later one is
pub both_before : (IsAfter : WideData → WideData → Type 0) (a c : Option WideData) → BothIn IsAfter a c → (w : WideData) → c ≡ Some w →
    (v : WideData) × (a ≡ Some v) × IsAfter v w
both_before IsAfter None None both w is = absurd (cc)
both_before IsAfter None (Some c) both w is = absurd both
both_before IsAfter (Some a) None both w is = absurd both
both_before IsAfter (Some a) (Some c) both w is = let same : c ≡ w = cc is in (a, refl, subst (IsAfter a) same both)

none_before : (IsAfter : WideData → WideData → Type 0) (a c : Option WideData) → BothIn IsAfter a c → c ≡ None → a ≡ None
none_before IsAfter None c both is = refl
none_before IsAfter (Some a) None both is = absurd both
none_before IsAfter (Some a) (Some c) both is = absurd (cc)

-- so it is after a step
pub retouched : (joining : Bool) (a c : Option WideData) (old new : List Tern) → RetouchesIn joining a c old new → (w : WideData) → c ≡ Some w →
    (v : WideData) × (a ≡ Some v) × Retouches joining v w old new
retouched joining a c old new = both_before (λ one other. Retouches joining one other old new) a c

pub none_retouched : (joining : Bool) (a c : Option WideData) (old new : List Tern) → RetouchesIn joining a c old new → c ≡ None → a ≡ None
none_retouched joining a c old new = none_before (λ one other. Retouches joining one other old new) a c

pub known_still : (joining : Bool) (a c : Option WideData) (old new : List Tern) → RetouchesIn joining a c old new → is_some c ≡ is_some a
known_still joining None None old new retouches = refl
known_still joining None (Some c) old new retouches = absurd retouches
known_still joining (Some a) None old new retouches = absurd retouches
known_still joining (Some a) (Some c) old new retouches = refl

-- after a plain step no more is touched than the ends of the switches that changed
pub retouched_only : (a c : Option WideData) (old new : List Tern) → RetouchesIn false a c old new → (node : ℕ) → Contains (touched_in c) node →
    SwitchChanges (graph_in c) old new node
retouched_only None None old new retouches node there = absurd (omega (arith, there.1))
retouched_only None (Some c) old new retouches node there = absurd retouches
retouched_only (Some a) None old new retouches node there = absurd retouches
retouched_only (Some a) (Some c) old new retouches node there =
    elim (retouches.only node there) [
      | inl (joining, _) ↦ absurd (cc joining)
      | inr (_, changes) ↦ subst (λ g. SwitchChanges g old new node) (sym retouches.stays.graph) changes
    ]

-- and after a node was placed
pub none_placed : (placed : ℕ) (a c : Option WideData) (old new : List Tern) → PlacesIn placed a c old new → c ≡ None → a ≡ None
none_placed placed a c old new = none_before (λ one other. PlacesWide placed one other old new) a c

pub placed_wide : (placed : ℕ) (a c : Option WideData) (old new : List Tern) → PlacesIn placed a c old new → (w : WideData) → c ≡ Some w →
    (v : WideData) × (a ≡ Some v) × PlacesWide placed v w old new
placed_wide placed a c old new = both_before (λ one other. PlacesWide placed one other old new) a c

-- if they are known as before, they aren't if they weren't
pub still_none : (a c : Option WideData) → is_some c ≡ is_some a → a ≡ None → c ≡ None
still_none a None same is = refl
still_none None (Some c) same is = absurd (cc)
still_none (Some a) (Some c) same is = absurd (cc)

-- what a machine holds has all nodes, lists of their states, and room for their changes
pub listed_in : (parts : List MachinePart) (states : List Tern) (room : ℕ) (wide : Option WideData) → HoldsWide parts states room wide →
    IsListedIn states wide
listed_in parts states room None holds = tt
listed_in parts states room (Some wide) holds = holds.listed

pub enough_in : (parts : List MachinePart) (states : List Tern) (room : ℕ) (wide : Option WideData) → HoldsWide parts states room wide →
    IfSome wide (λ _. length states ≤ room)
enough_in parts states room None holds = tt
enough_in parts states room (Some wide) holds = holds.enough

-- the lists are those of the states still
pub listed_calm : (states : List Tern) (joining : Bool) (a b : Option WideData) → CalmsIn joining a b → IsListedIn states a → IsListedIn states b
listed_calm states joining None None calms listed = tt
listed_calm states joining (Some a) (Some b) calms listed = record {
  counted = ap nodes calms.stays.graph ∙ listed.counted;
  live = subst (λ g. AreListsOf g states b.lists) (sym calms.stays.graph) (subst (AreListsOf a.graph states) (sym calms.lists) listed.live);
}
listed_calm states joining None (Some b) calms listed = absurd calms
listed_calm states joining (Some a) None calms listed = absurd calms

pub listed_turned : (a b : Option WideData) (old new : List Tern) → TurnedIn a b old new → length new ≡ length old → IsListedIn old a → IsListedIn new b
listed_turned None None old new turned count listed = tt
listed_turned (Some a) (Some b) old new turned count listed = record {
  counted = ap nodes turned.stays.graph ∙ (listed.counted ∙ sym count);
  live = subst (λ g. AreListsOf g new b.lists) (sym turned.stays.graph) (turned.live listed.live);
}
listed_turned None (Some b) old new turned count listed = absurd turned
listed_turned (Some a) None old new turned count listed = absurd turned

-- the machine can go on with them
pub holds_turned : (parts : List MachinePart) (old new : List Tern) (room : ℕ) (a c : Option WideData) (joining : Bool) → RetouchesIn joining a c old new →
    length new ≡ length old → IsListedIn new c → HoldsWide parts old room a → HoldsWide parts new room c
holds_turned parts old new room None None joining retouches count listed holds = tt
holds_turned parts old new room None (Some c) joining retouches count listed holds = absurd retouches
holds_turned parts old new room (Some a) None joining retouches count listed holds = absurd retouches
holds_turned parts old new room (Some a) (Some c) joining retouches count listed holds = record {
  listed = listed;
  stale_only = subst (HasStaleOnly parts) (sym retouches.stays.graph) holds.stale_only;
  enough = omega (arith, holds.enough, count);
}

pub holds_placed : (placed : ℕ) (parts : List MachinePart) (old new : List Tern) (room : ℕ) (a c : Option WideData) → PlacesIn placed a c old new →
    length new ≡ length old → HoldsWide parts old room a → HoldsWide parts new room c
holds_placed placed parts old new room None None places count holds = tt
holds_placed placed parts old new room None (Some c) places count holds = absurd places
holds_placed placed parts old new room (Some a) None places count holds = absurd places
holds_placed placed parts old new room (Some a) (Some c) places count holds = record {
  listed = record {
    counted = ap nodes places.stays.graph ∙ (holds.listed.counted ∙ sym count);
    live = subst (λ g. AreListsOf g new c.lists) (sym places.stays.graph) places.live;
  };
  stale_only = subst (HasStaleOnly parts) (sym places.stays.graph) holds.stale_only;
  enough = omega (arith, holds.enough, count);
}
