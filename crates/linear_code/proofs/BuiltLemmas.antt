-- The listing that is built: once all parts are added, the outputs of the storage nodes are its next states.
use Rattle.std.proofs.Common.{◌≡◌, ℕ, ◌<◌, true, false, List, [], length, map, sym, ap, ◌∙◌, arith}
use Rattle.std.specs.Prelude.{All, Contains, nat_lt, count_by, slice_index_or}
use Rattle.std.proofs.lemmas.Bool.{lt-ltb}
use Rattle.std.proofs.lemmas.List.{length-map, get_or-map, take_all}
use Rattle.std.proofs.lemmas.List.Elements.{All-contains, All-weaker}
use Rattle.std.proofs.lemmas.Option.{slice_get_within, get_or_from_slice_get}
use Rattle.std.proofs.lemmas.Simd.{map-map}
use Rattle.strength_order.specs.declared.TheConstants.{INPUT_LEVEL}
use Rattle.ternary.specs.declared.tern.Tern.{Tern}
use Rattle.ternary.specs.declared.tern.Tern.TheVariants.{Unk}
use Rattle.switch_paths.specs.Graphs.{GraphData, nodes, level_of}
use Rattle.straight_code.specs.declared.code.Instruction.{Instruction}
use Rattle.straight_code.specs.declared.code.Output.{Output}
use Rattle.straight_code.specs.declared.part.Part.{Part}
use Rattle.linear_code.specs.declared.listing.ListedNode.{ListedNode}
use Rattle.straight_code.specs.Code.{code_value, IsOutput}
use Rattle.linear_code.specs.Listing.{Entry, IsListing, is_storage_at, next_of}
use Rattle.line_words.specs.Visible.{IsVisibleName}
use Rattle.straight_code.specs.Parts.{IsPart, IsMemberAt, AreMembers, mapped}
use Rattle.linear_code.specs.Built.{IsBuilt}
use Rattle.linear_code.specs.Moved.{AreNexts}
use Rattle.linear_code.proofs.BuildLemmas.{AreAdded}

-- what stands once all parts are added: the nodes have the graph's kinds, and the next states are the outputs of the storage nodes
pub record AreListed (g : GraphData) (names : List (List ℕ)) (parts : List Part) (entries : List Entry) (instructions : List Instruction) (outputs nexts : List Output) : Type 0 where
  pub kinds : map (λ entry. entry.is_storage) entries ≡ map (λ level. nat_lt level INPUT_LEVEL) g.levels
  pub named : map (λ entry. entry.name) entries ≡ names
  pub added : AreAdded (nodes g) parts (length parts) instructions outputs
  pub stand : AreNexts entries (length entries) outputs nexts

-- the same, from the nodes that were listed
pub AreListed-nodes : (g : GraphData) (names : List (List ℕ)) (parts : List Part) (listed : List ListedNode) (instructions : List Instruction) (outputs nexts : List Output)
    → map (λ one. one.is_storage) listed ≡ map (λ level. nat_lt level INPUT_LEVEL) g.levels
    → map (λ one. one.name.items) listed ≡ names
    → AreAdded (nodes g) parts (length parts) instructions outputs
    → AreNexts (map (λ one. record { is_storage = one.is_storage; name = one.name.items }) listed) (length listed) outputs nexts
    → AreListed g names parts (map (λ one. record { is_storage = one.is_storage; name = one.name.items }) listed) instructions outputs nexts
AreListed-nodes g names parts listed instructions outputs nexts kinds named added stand = record {
  kinds = map-map (λ (entry : Entry). entry.is_storage) entry_of listed ∙ kinds;
  named = map-map (λ (entry : Entry). entry.name) entry_of listed ∙ named;
  added = added;
  stand = rw (length-map listed entry_of) stand;
}
  where
    entry_of : ListedNode → Entry
    entry_of one = record { is_storage = one.is_storage; name = one.name.items }

-- each node has an entry
length-entries : (g : GraphData) (entries : List Entry) → map (λ entry. entry.is_storage) entries ≡ map (λ level. nat_lt level INPUT_LEVEL) g.levels
    → length entries ≡ nodes g
length-entries g entries kinds =
    sym (length-map entries (λ entry. entry.is_storage)) ∙ ap length kinds ∙ length-map g.levels (λ level. nat_lt level INPUT_LEVEL)

-- a node below the level of inputs is a storage node
storage-entry : (g : GraphData) (entries : List Entry) (node : ℕ)
    → map (λ entry. entry.is_storage) entries ≡ map (λ level. nat_lt level INPUT_LEVEL) g.levels
    → node < nodes g → level_of g node < INPUT_LEVEL
    → is_storage_at entries node ≡ true
storage-entry g entries node kinds inside low =
    let past : Entry = record { is_storage = false; name = [] } in
    let within : node < length entries = omega (arith, length-entries g entries kinds) in
    sym (get_or-map (λ entry. entry.is_storage) entries node past false within)
    ∙ ap (λ all. slice_index_or all node false) kinds
    ∙ get_or-map (λ level. nat_lt level INPUT_LEVEL) g.levels node 0 false inside
    ∙ lt-ltb (level_of g node) INPUT_LEVEL low

-- a member of a part that fits is a node
member-inside : (count : ℕ) (parts : List Part) (node k j : ℕ) → All (IsPart count) parts → IsMemberAt parts node k j → node < count
member-inside count parts node k j fit member =
    let inside = slice_get_within parts k member.part member.stands in
    let is = get_or_from_slice_get parts k member.part member.part member.stands in
    let fits : IsPart count member.part = rw is at (fit k member.part inside) in
    let place = slice_get_within member.part.map.items j node member.at_place in
    let here = get_or_from_slice_get member.part.map.items j node 0 member.at_place in
    omega (arith, fits.below j 0 place, here)

-- the listing that is built is one
pub AreListed-listing : (g : GraphData) (names : List (List ℕ)) (parts : List Part) (entries : List Entry) (instructions : List Instruction) (outputs nexts : List Output)
    → All IsVisibleName names
    → AreListed g names parts entries instructions outputs nexts
    → IsListing (record { entries = entries; instructions = instructions; nexts = nexts })
AreListed-listing g names parts entries instructions outputs nexts visible all = record {
  names = λ k past inside.
      let within : k < length names = rw (← all.named, length-map) inside in
      let name = get_or-map (λ (entry : Entry). entry.name) entries k past [] inside in
      rw (← name, all.named) (visible k [] within);
  reads = rw (length-entries g entries all.kinds) all.added.reads;
  each_next = all.stand.count ∙ ap (count_by (λ entry. entry.is_storage)) (take_all (length entries) entries (omega arith));
  nexts =
      let allowed : All (IsOutput (length entries) (length instructions)) outputs = rw (length-entries g entries all.kinds) all.added.allowed in
      All-weaker (Contains outputs) (IsOutput (length entries) (length instructions))
      (λ output held. All-contains (IsOutput (length entries) (length instructions)) outputs output allowed held) nexts all.stand.known;
}

-- the listing that is built is the one of the graph and the parts
pub AreListed-built : (g : GraphData) (names : List (List ℕ)) (parts : List Part) (entries : List Entry) (instructions : List Instruction) (outputs nexts : List Output)
    → All (IsPart (nodes g)) parts → AreMembers g parts
    → AreListed g names parts entries instructions outputs nexts
    → IsBuilt g names parts (record { entries = entries; instructions = instructions; nexts = nexts })
AreListed-built g names parts entries instructions outputs nexts fit members all = record {
  kinds = all.kinds;
  named = all.named;
  count = rw (take_all (length parts) parts (omega arith)) at all.added.count;
  moves = moves;
}
  where
    moves : (state : List Tern) → length state ≡ nodes g → (node k j : ℕ) (member : IsMemberAt parts node k j)
        → next_of (record { entries = entries; instructions = instructions; nexts = nexts }) state node
        ≡ slice_index_or (code_value member.part.code.value (mapped member.part state)) j Unk
    moves state count node k j member =
        let inside = member-inside (nodes g) parts node k j fit member in
        let storage = storage-entry g entries node all.kinds inside (members.storage node k j member) in
        let within : node < length entries = omega (arith, inside, length-entries g entries all.kinds) in
        rw (storage, all.stand.each node within storage)
        (all.added.moves state count node k j member (slice_get_within parts k member.part member.stands))
