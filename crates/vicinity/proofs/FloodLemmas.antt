-- The flood: what comes to the set by one node, and in turn by two; and that the set that was flooded has the nodes that are awake.
use Rattle.std.proofs.Common.{◌≡◌, ℕ, ◌+◌, ◌<◌, true, inl, inr, ◌⊎◌, List, [], ◌∷◌, ◌++◌, length, take, get_or, refl, sym, ap, ◌∙◌, subst, arith, append_assoc}
use Rattle.std.specs.Prelude.{Contains, slice_index, slice_set}
use Rattle.std.proofs.lemmas.Bool.{cases_lt}
use Rattle.std.proofs.lemmas.List.{take_more, append-nil, length-set, get_or_append_left, get_or_default}
use Rattle.std.proofs.lemmas.List.Elements.{Contains-push, Contains-push_cases, Contains-append_left}
use Rattle.ternary.specs.declared.tern.Tern.{Tern}
use Rattle.switch_paths.specs.Graphs.{GraphData, IsStorage}
use Rattle.group_meaning.specs.Groups.{AreJoined, LinksOver}
use Rattle.group_meaning.proofs.LinkLemmas.{LinksOver-from, AreLinked-self, AreLinked-joined, AreLinked-trans, AreLinked-to}
use Rattle.vicinity.specs.Vicinities.{live_graph}
use Rattle.vicinity.specs.NodeSets.{NodeSetData, IsIn}
use Rattle.vicinity.specs.Lists.{LiveListData, places_of}
use Rattle.vicinity.specs.Arms.{LeadsTo, ListsLive}
use Rattle.vicinity.specs.Touching.{IsAwake}
use Rattle.vicinity.specs.Flooding.{Wakes, IsNext, IsFlooding}
use Rattle.vicinity.proofs.LiveGraphs.{live_stands, stands_live, storage_live, storage_whole}
use Rattle.machine_parts.proofs.SetMarks.{marked-set, marked-stays, marked-set_cases}

-- none of these is a storage node: nothing comes
pub Wakes-none : (g : GraphData) (These : ℕ → Type 0) (set : NodeSetData) → ((node : ℕ) → These node → ¬ IsStorage g node) → Wakes g These set set
Wakes-none g These set none = record {
  count = refl;
  stays = λ node is. is;
  all = λ node this storage. absurd (none node this storage);
  only = λ node is. inl is;
  more = [];
  list = sym (append-nil set.list);
}

-- one node comes
pub Wakes-one : (g : GraphData) (old new : NodeSetData) (node : ℕ) → node < length old.inside → IsStorage g node →
    new.inside ≡ slice_set old.inside node true → (more : List ℕ) → new.list ≡ old.list ++ more → Wakes g (λ one. one ≡ node) old new
Wakes-one g old new node within storage set more list = record {
  count = ap length set ∙ length-set old.inside node true;
  stays = λ one is. rw set (marked-stays old.inside node one is);
  all = λ one same one_storage. rw (set, same) (marked-set old.inside node within);
  only = λ one is. elim (marked-set_cases old.inside node one (rw set at is)) [
    | inl before ↦ inl before
    | inr same ↦ inr (same, subst (IsStorage g) (sym same) storage)
  ];
  more = more;
  list = list;
}

-- first these come and then those
pub Wakes-then : (g : GraphData) (These Those All : ℕ → Type 0) (old mid new : NodeSetData) → Wakes g These old mid → Wakes g Those mid new →
    ((node : ℕ) → All node → These node ⊎ Those node) → ((node : ℕ) → These node → All node) → ((node : ℕ) → Those node → All node) →
    Wakes g All old new
Wakes-then g These Those All old mid new first next splits one two = record {
  count = next.count ∙ first.count;
  stays = λ node is. next.stays node (first.stays node is);
  all = λ node any storage. elim (splits node any) [
    | inl this ↦ next.stays node (first.all node this storage)
    | inr that ↦ next.all node that storage
  ];
  only = λ node is. elim (next.only node is) [
    | inl before ↦ elim (first.only node before) [ inl was ↦ inl was | inr this ↦ inr (one node this.0, this.1) ]
    | inr that ↦ inr (two node that.0, that.1)
  ];
  more = first.more ++ next.more;
  list = next.list ∙ (ap (λ list. list ++ next.more) first.list ∙ append_assoc old.list first.more next.more);
}

-- the same nodes, told otherwise
pub Wakes-as : (g : GraphData) (These Those : ℕ → Type 0) (old new : NodeSetData) → Wakes g These old new → ((node : ℕ) → Those node → These node) →
    ((node : ℕ) → These node → Those node) → Wakes g Those old new
Wakes-as g These Those old new wakes back forth = record {
  count = wakes.count;
  stays = wakes.stays;
  all = λ node that storage. wakes.all node (back node that) storage;
  only = λ node is. elim (wakes.only node is) [ inl was ↦ inl was | inr this ↦ inr (forth node this.0, this.1) ];
  more = wakes.more;
  list = wakes.list;
}

-- a node that an awake node leads to is awake
pub next_awake : (g : GraphData) (state : List Tern) (touched : List ℕ) (node other : ℕ) → IsAwake g state touched node → IsNext g state node other →
    IsStorage g other → IsAwake g state touched other
next_awake g state touched node other awake (place, leads) storage =
    let live = live_graph g state in
    let joined : AreJoined live place node other =
    record { switch = leads.switch; at_place = live_stands g state place leads.switch leads.at_place leads.live; joins = leads.joins } in
    let from = AreLinked-to live awake.0 node awake.2 in
    (awake.0, awake.1, AreLinked-trans live awake.0 node other awake.2 (AreLinked-joined live place node other from (storage_live g state other storage) joined))

-- the flood starts with the touched nodes
pub IsFlooding-start : (g : GraphData) (state : List Tern) (touched : List ℕ) (old new : NodeSetData) → ((node : ℕ) → ¬ IsIn old.inside node) →
    Wakes g (Contains touched) old new → IsFlooding g state touched 0 new
IsFlooding-start g state touched old new none wakes = record {
  awake = λ node is. elim (wakes.only node is) [
    | inl was ↦ absurd (none node was)
    | inr seed ↦ (node, seed.0, AreLinked-self (live_graph g state) node (storage_live g state node seed.1))
  ];
  seeds = wakes.all;
  seen = λ i before. absurd (omega arith);
}

-- it looks from one node more
pub IsFlooding-more : (g : GraphData) (state : List Tern) (touched : List ℕ) (count : ℕ) (old new : NodeSetData) → count < length old.list →
    IsIn old.inside (slice_index old.list count) → IsFlooding g state touched count old →
    Wakes g (IsNext g state (slice_index old.list count)) old new → IsFlooding g state touched (count + 1) new
IsFlooding-more g state touched count old new within is flooding wakes =
    let node = slice_index old.list count in
    let same : (i : ℕ) → i < length old.list → slice_index new.list i ≡ slice_index old.list i =
    λ i inside. ap (λ (list : List ℕ). slice_index list i) wakes.list ∙ get_or_append_left old.list wakes.more 0 i inside in
    record {
      awake = λ one there. elim (wakes.only one there) [
        | inl was ↦ flooding.awake one was
        | inr next ↦ next_awake g state touched node one (flooding.awake node is) next.0 next.1
      ];
      seeds = λ one touch storage. wakes.stays one (flooding.seeds one touch storage);
      seen = λ i before other next storage.
          elim (cases_lt i count) [
            | inl earlier ↦
                let next_before = subst (λ n. IsNext g state n other) (same i (omega (arith, within))) next in
                wakes.stays other (flooding.seen i earlier other next_before storage)
            | inr last ↦
                let i_is : i ≡ count = omega arith in
                let from : slice_index new.list i ≡ node = same i (omega arith) ∙ ap (slice_index old.list) i_is in
                wakes.all other (subst (λ n. IsNext g state n other) from next) storage
          ];
    }

-- the flood has looked from all nodes: what is near a touched node is in the set
module _ (g : GraphData) (state : List Tern) (touched : List ℕ) (set : NodeSetData) (flooding : IsFlooding g state touched (length set.list) set)
    (all_listed : (node : ℕ) → IsIn set.inside node → Contains set.list node) where
  along : (places : List ℕ) (m n : ℕ) → LinksOver (live_graph g state) places m n → IsIn set.inside m → IsIn set.inside n
  along [] m n links is = subst (IsIn set.inside) links.1 is
  along (place ∷ places) m n links is =
      let next = links.1.0 in
      let joined = links.1.1 in
      let (whole, live) = stands_live g state place joined.switch joined.at_place in
      let leads : LeadsTo g state place m next = record { switch = joined.switch; at_place = whole; joins = joined.joins; live = live } in
      let (i, inside, at) = all_listed m is in
      let here : slice_index set.list i ≡ m = get_or_default set.list i 0 m inside ∙ at in
      let storage = storage_whole g state next (LinksOver-from (live_graph g state) places next n links.1.2) in
      along places next n links.1.2 (flooding.seen i inside next (subst (λ k. IsNext g state k next) (sym here) (place, leads)) storage)

  pub flooded : (node : ℕ) → IsAwake g state touched node → IsIn set.inside node
  flooded node (one, touch, near) =
      let storage = storage_whole g state one (LinksOver-from (live_graph g state) near.places one node near.links) in
      along near.places one node near.links (flooding.seeds one touch storage)

-- one place more
pub Wakes-place : (g : GraphData) (state : List Tern) (node : ℕ) (places : List ℕ) (i : ℕ) → i < length places → (old mid new : NodeSetData) →
    Wakes g (λ other. (place : ℕ) × Contains (take i places) place × LeadsTo g state place node other) old mid →
    Wakes g (LeadsTo g state (get_or places i 0) node) mid new →
    Wakes g (λ other. (place : ℕ) × Contains (take (i + 1) places) place × LeadsTo g state place node other) old new
Wakes-place g state node places i inside old mid new first next =
    let more = take_more places i 0 inside in
    let last : Contains (take (i + 1) places) (get_or places i 0) = rw more (Contains-push (take i places) (get_or places i 0)) in
    Wakes-then g (λ other. (place : ℕ) × Contains (take i places) place × LeadsTo g state place node other) (LeadsTo g state (get_or places i 0) node)
    (λ other. (place : ℕ) × Contains (take (i + 1) places) place × LeadsTo g state place node other) old mid new first next
    (λ other any. elim (Contains-push_cases (take i places) (get_or places i 0) any.0 (rw more at any.1)) [
      | inl before ↦ inl (any.0, before, any.2)
      | inr same ↦ inr (subst (λ p. LeadsTo g state p node other) (sym same) any.2)
    ])
    (λ other this. (this.0, rw more (Contains-append_left (take i places) (get_or places i 0 ∷ []) this.0 this.1), this.2))
    (λ other that. (get_or places i 0, last, that))

-- one touched node more
pub Wakes-touched : (g : GraphData) (touched : List ℕ) (i : ℕ) → i < length touched → (old mid new : NodeSetData) →
    Wakes g (Contains (take i touched)) old mid → Wakes g (λ one. one ≡ get_or touched i 0) mid new → Wakes g (Contains (take (i + 1) touched)) old new
Wakes-touched g touched i inside old mid new first next =
    let more = take_more touched i 0 inside in
    Wakes-then g (Contains (take i touched)) (λ one. one ≡ get_or touched i 0) (Contains (take (i + 1) touched)) old mid new first next
    (λ node any. elim (Contains-push_cases (take i touched) (get_or touched i 0) node (rw more at any)) [ inl before ↦ inl before | inr same ↦ inr (sym same) ])
    (λ node this. rw more (Contains-append_left (take i touched) (get_or touched i 0 ∷ []) node this))
    (λ node same. rw (more, same) (Contains-push (take i touched) (get_or touched i 0)))

-- what the places listed at a node lead to is all that is next to it
pub Wakes-listed : (g : GraphData) (state : List Tern) (lists : List LiveListData) (node : ℕ) (places : List ℕ) → ListsLive g state lists →
    places ≡ places_of lists node → (old new : NodeSetData) →
    Wakes g (λ other. (place : ℕ) × Contains places place × LeadsTo g state place node other) old new → Wakes g (IsNext g state node) old new
Wakes-listed g state lists node places ends listed old new wakes =
    Wakes-as g (λ other. (place : ℕ) × Contains places place × LeadsTo g state place node other) (IsNext g state node) old new wakes
    (λ other next.
    let leads = next.1 in
    let there = ends next.0 node other leads in
    (next.0, subst (λ list. Contains list next.0) (sym listed) there, leads))
    (λ other any. (any.0, any.2))
