-- The storage nodes in ascending order: each stands at the place that says how many stand before it.
use Rattle.std.proofs.Common.{◌≡◌, ℕ, zero, suc, ◌+◌, ◌-◌, ◌<◌, ◌≤◌, true, false, List, [], ◌∷◌, ◌++◌, length, take, drop, get_or, filter, map, cond, count_by, Option, Some, None, slice_get, position, is_some, ltb, inl, inr, refl, sym, ap, ◌∙◌, arith, append-nil, length-append}
use Rattle.std.specs.List.{range_with_len, position_or_len}
use Rattle.std.proofs.lemmas.Bool.{cases_Bool, cases_lt, cond-true, lt-ltb}
use Rattle.std.proofs.lemmas.List.{get_or_past, take_all, get_or_append_left, get_or_at, map-id, get_or-drop, length-map, length-drop, drop-map, take_rest}
use Rattle.std.proofs.lemmas.List.Elements.{filter-append}
use Rattle.std.proofs.lemmas.List.FromFn.{map-range_with_len_more}
use Rattle.std.proofs.lemmas.List.Quantifiers.{position-Some}
use Rattle.std.proofs.lemmas.List.Sums.{count_by_more_yes, count_by_more_no, fails_before_first}
use Rattle.std.proofs.lemmas.Option.{slice_get-get_or, get_or_from_slice_get, slice_get_within, slice_get_past}
use Rattle.linear_code.specs.declared.listing.ListedNode.{ListedNode}
use Rattle.linear_code.specs.Listing.{Entry, ListingData, is_storage_at, storage_before, IsListing}
use Rattle.linear_code.specs.ListingText.{storage_nodes}
use Rattle.linear_code.specs.Reading.{IsPartial}
use Rattle.linear_code.proofs.ListingTextLemmas.{entry_of}

-- the storage nodes among the first nodes
first_storage : List Entry → ℕ → List ℕ
first_storage entries count = filter (is_storage_at entries) (range_with_len 0 count)

-- none among no nodes
first_storage-none : (entries : List Entry) → first_storage entries 0 ≡ []
unfolding first_storage
first_storage-none entries = refl

-- one node more
first_storage-more : (entries : List Entry) (count : ℕ)
    → first_storage entries (count + 1) ≡ first_storage entries count ++ cond (is_storage_at entries count) (count ∷ []) []
unfolding first_storage
first_storage-more entries count =
    let more : range_with_len 0 (count + 1) ≡ range_with_len 0 count ++ count ∷ [] =
    sym (map-id _) ∙ map-range_with_len_more (λ k. k) 0 count count (omega arith) ∙ ap (λ front. front ++ count ∷ []) (map-id _) in
    rw more (filter-append (is_storage_at entries) (range_with_len 0 count) (count ∷ []))

-- a storage node more
first_storage-yes : (entries : List Entry) (count : ℕ) → is_storage_at entries count ≡ true
    → first_storage entries (count + 1) ≡ first_storage entries count ++ count ∷ []
first_storage-yes entries count storage = rw storage at (first_storage-more entries count)

-- an input node more
first_storage-no : (entries : List Entry) (count : ℕ) → is_storage_at entries count ≡ false
    → first_storage entries (count + 1) ≡ first_storage entries count
first_storage-no entries count input = (rw input at (first_storage-more entries count)) ∙ append-nil _

-- a storage node is a node
storage-inside : (entries : List Entry) (node : ℕ) → is_storage_at entries node ≡ true → node < length entries
storage-inside entries node storage =
    elim (cases_lt node (length entries)) [
      | inl inside ↦ inside
      | inr past ↦ absurd (let none : is_storage_at entries node ≡ false = ap (λ found. found.is_storage) (get_or_past entries node _ past) in cc)
    ]

-- one more storage node stands before the node that follows one
pub storage_before-yes : (entries : List Entry) (node : ℕ) → is_storage_at entries node ≡ true
    → storage_before entries (node + 1) ≡ storage_before entries node + 1
storage_before-yes entries node storage =
    count_by_more_yes (λ entry. entry.is_storage) entries node (record { is_storage = false; name = [] }) (storage-inside entries node storage) storage

-- as many storage nodes stand before the node that follows an input node
pub storage_before-no : (entries : List Entry) (node : ℕ) → node < length entries → is_storage_at entries node ≡ false
    → storage_before entries (node + 1) ≡ storage_before entries node
storage_before-no entries node inside input =
    count_by_more_no (λ entry. entry.is_storage) entries node (record { is_storage = false; name = [] }) inside input

-- as many as stand before a node
length-first_storage : (entries : List Entry) (count : ℕ) → count ≤ length entries
    → length (first_storage entries count) ≡ storage_before entries count
length-first_storage entries zero within = ap length (first_storage-none entries)
length-first_storage entries (suc count) within =
    let before = length-first_storage entries count (omega arith) in
    let next : suc count ≡ count + 1 = omega arith in
    elim (cases_Bool (is_storage_at entries count)) [
      | inl storage ↦
          rw (next, first_storage-yes entries count storage)
          (omega (arith, length-append (first_storage entries count) (count ∷ []), storage_before-yes entries count storage))
      | inr input ↦
          rw (next, first_storage-no entries count input)
          (omega (arith, storage_before-no entries count (omega arith) input))
    ]

-- there are as many storage nodes as entries that say so
pub length-storage_nodes : (entries : List Entry) → length (storage_nodes entries) ≡ count_by (λ entry. entry.is_storage) entries
unfolding first_storage
length-storage_nodes entries =
    length-first_storage entries (length entries) (omega arith)
    ∙ ap (count_by (λ entry. entry.is_storage)) (take_all (length entries) entries (omega arith))

-- a storage node, and how many stand before it
pub record IsStoragePlace (entries : List Entry) (place node : ℕ) : Type 0 where
  pub inside : node < length entries
  pub storage : is_storage_at entries node ≡ true
  pub before : storage_before entries node ≡ place

-- what stands at a place among the first storage nodes
first_storage-at : (entries : List Entry) (count place : ℕ) → count ≤ length entries → place < length (first_storage entries count)
    → IsStoragePlace entries place (get_or (first_storage entries count) place 0)
first_storage-at entries zero place within inside = absurd (omega (arith, ap length (first_storage-none entries)))
first_storage-at entries (suc count) place within inside =
    let next : suc count ≡ count + 1 = omega arith in
    let front = first_storage entries count in
    elim (cases_Bool (is_storage_at entries count)) [
      | inl storage ↦
          let more : first_storage entries (suc count) ≡ front ++ count ∷ [] = rw next (first_storage-yes entries count storage) in
          elim (cases_lt place (length front)) [
            | inl earlier ↦
                rw (more, get_or_append_left front (count ∷ []) 0 place earlier) (first_storage-at entries count place (omega arith) earlier)
            | inr last ↦
                let here : length front ≡ place = omega (arith, ap length more, length-append front (count ∷ [])) in
                rw (more, get_or_at front count [] 0 place here) (record {
                  inside = omega arith;
                  storage = storage;
                  before = sym (length-first_storage entries count (omega arith)) ∙ here;
                })
          ]
      | inr input ↦
          let more : first_storage entries (suc count) ≡ front = rw next (first_storage-no entries count input) in
          rw more (first_storage-at entries count place (omega arith) (omega (arith, ap length more)))
    ]

-- what stands at a place among the storage nodes
pub storage_nodes-at : (entries : List Entry) (place node : ℕ) → slice_get (storage_nodes entries) place ≡ Some node
    → IsStoragePlace entries place node
unfolding first_storage
storage_nodes-at entries place node found =
    let inside = slice_get_within (storage_nodes entries) place node found in
    let is = get_or_from_slice_get (storage_nodes entries) place node 0 found in
    rw is at (first_storage-at entries (length entries) place (omega arith) inside)

-- where a storage node stands among the first storage nodes
first_storage-of : (entries : List Entry) (count node : ℕ) → is_storage_at entries node ≡ true → count ≤ length entries → node < count
    → (storage_before entries node < length (first_storage entries count)) × (get_or (first_storage entries count) (storage_before entries node) 0 ≡ node)
first_storage-of entries zero node storage within below = absurd (omega arith)
first_storage-of entries (suc count) node storage within below =
    let next : suc count ≡ count + 1 = omega arith in
    let front = first_storage entries count in
    let long = length-first_storage entries count (omega arith) in
    elim (cases_lt node count) [
      | inl earlier ↦
          let is = first_storage-of entries count node storage (omega arith) earlier in
          elim (cases_Bool (is_storage_at entries count)) [
            | inl storage ↦
                let more : first_storage entries (suc count) ≡ front ++ count ∷ [] = rw next (first_storage-yes entries count storage) in
                (omega (arith, is.0, ap length more, length-append front (count ∷ [])), rw (more, get_or_append_left front (count ∷ []) 0 (storage_before entries node) is.0) is.1)
            | inr input ↦
                let more : first_storage entries (suc count) ≡ front = rw next (first_storage-no entries count input) in
                rw more is
          ]
      | inr last ↦
          let here : node ≡ count = omega arith in
          let storage : is_storage_at entries count ≡ true = rw here at storage in
          let more : first_storage entries (suc count) ≡ front ++ count ∷ [] = rw next (first_storage-yes entries count storage) in
          let place : length front ≡ storage_before entries node = rw here long in
          (omega (arith, ap length more, length-append front (count ∷ [])), rw (more, get_or_at front count [] 0 (storage_before entries node) place) (sym here))
    ]

-- where a storage node stands among the storage nodes
pub storage_nodes-of : (entries : List Entry) (place node : ℕ) → is_storage_at entries node ≡ true → storage_before entries node ≡ place
    → slice_get (storage_nodes entries) place ≡ Some node
unfolding first_storage
storage_nodes-of entries place node storage before =
    let is = first_storage-of entries (length entries) node storage (omega arith) (storage-inside entries node storage) in
    rw (← before) (slice_get-get_or (storage_nodes entries) (storage_before entries node) 0 is.0 ∙ ap Some is.1)

-- where only input nodes follow, no more storage node stands before any of them
pub storage_before-inputs : (entries : List Entry) (from more : ℕ) → from + more ≤ length entries
    → ((node : ℕ) → from ≤ node → node < from + more → is_storage_at entries node ≡ false)
    → storage_before entries (from + more) ≡ storage_before entries from
storage_before-inputs entries from zero within inputs = ap (storage_before entries) (omega arith)
storage_before-inputs entries from (suc more) within inputs =
    let next : from + suc more ≡ from + more + 1 = omega arith in
    rw next (storage_before-no entries (from + more) (omega arith) (inputs (from + more) (omega arith) (omega arith))
    ∙ storage_before-inputs entries from more (omega arith) (λ node low high. inputs node low (omega arith)))

-- no storage node is left where as many as there are have their next states
pub storage_nodes-none : (entries : List Entry) (place : ℕ) → count_by (λ entry. entry.is_storage) entries ≡ place
    → slice_get (storage_nodes entries) place ≡ None
storage_nodes-none entries place all =
    slice_get_past (storage_nodes entries) place (omega (arith, length-storage_nodes entries))

-- the first storage node among nodes is that among what contracts see of them
position_or_len-entries : (nodes : List ListedNode)
    → position_or_len (λ node. node.is_storage) nodes ≡ position_or_len (λ entry. entry.is_storage) (map entry_of nodes)
position_or_len-entries [] = refl
position_or_len-entries (node ∷ nodes) = rw (position_or_len-entries nodes) refl

-- the same behind the first nodes, as the program slices them
pub position-entries : (nodes : List ListedNode) (seen : ℕ)
    → position (λ node. node.is_storage) (take (length nodes - seen) (drop seen nodes)) ≡ position (λ entry. entry.is_storage) (drop seen (map entry_of nodes))
position-entries nodes seen =
    ap (position (λ node. node.is_storage)) (take_rest nodes seen)
    ∙ ap (λ first. cond (ltb first (length (drop seen nodes))) (Some first) None) (position_or_len-entries (drop seen nodes))
    ∙ ap (λ count. cond (ltb (position_or_len (λ entry. entry.is_storage) (map entry_of (drop seen nodes))) count) (Some (position_or_len (λ entry. entry.is_storage) (map entry_of (drop seen nodes)))) None) (sym (length-map (drop seen nodes) entry_of))
    ∙ ap (position (λ entry. entry.is_storage)) (sym (drop-map entry_of seen nodes))

-- no node
abbrev no_entry : Entry
no_entry = record { is_storage = false; name = [] }

-- the kind of a node behind the first nodes
is_storage_at-behind : (entries : List Entry) (seen k : ℕ) → (get_or (drop seen entries) k no_entry).is_storage ≡ is_storage_at entries (seen + k)
is_storage_at-behind entries seen k = ap (λ entry. entry.is_storage) (get_or-drop seen entries k no_entry)

-- if none is found, all are input nodes
none_passes : (entries : List Entry) → position (λ entry. entry.is_storage) entries ≡ None
    → (k : ℕ) → k < length entries → (get_or entries k no_entry).is_storage ≡ false
none_passes entries absent k inside =
    elim (cases_lt (position_or_len (λ entry. entry.is_storage) entries) (length entries)) [
      | inl found ↦
          absurd (let there : position (λ entry. entry.is_storage) entries ≡ Some (position_or_len (λ entry. entry.is_storage) entries) = cond-true _ _ _ (lt-ltb _ _ found) in cc)
      | inr past ↦ fails_before_first (λ entry. entry.is_storage) entries k no_entry (omega arith)
    ]

-- the first storage node behind those that have their next states
pub next_node-found : (entries : List Entry) (seen count place : ℕ) → storage_before entries seen ≡ count
    → position (λ entry. entry.is_storage) (drop seen entries) ≡ Some place → slice_get (storage_nodes entries) count ≡ Some (seen + place)
next_node-found entries seen count place before found =
    let first = position-Some (λ entry. entry.is_storage) (drop seen entries) place no_entry found in
    let storage : is_storage_at entries (seen + place) ≡ true = sym (is_storage_at-behind entries seen place) ∙ first.1 in
    let inside = storage-inside entries (seen + place) storage in
    let inputs = storage_before-inputs entries seen place (omega arith) (λ node low high.
    let k = node - seen in
    let here : node ≡ seen + k = omega arith in
    rw here (sym (is_storage_at-behind entries seen k) ∙ first.2 k (omega arith))) in
    storage_nodes-of entries count (seen + place) storage (inputs ∙ before)

-- no storage node is behind those that have their next states
pub next_node-none : (entries : List Entry) (seen count : ℕ) → seen ≤ length entries → storage_before entries seen ≡ count
    → position (λ entry. entry.is_storage) (drop seen entries) ≡ None → slice_get (storage_nodes entries) count ≡ None
next_node-none entries seen count within before absent =
    let more = length entries - seen in
    let whole : seen + more ≡ length entries = omega arith in
    let inputs = storage_before-inputs entries seen more (omega arith) (λ node low high.
    let k = node - seen in
    let here : node ≡ seen + k = omega arith in
    rw here (sym (is_storage_at-behind entries seen k) ∙ none_passes (drop seen entries) absent k (omega (arith, length-drop seen entries)))) in
    let all : storage_before entries (length entries) ≡ count = rw whole at (inputs ∙ before) in
    storage_nodes-none entries count (ap (count_by (λ entry. entry.is_storage)) (sym (take_all (length entries) entries (omega arith))) ∙ all)

-- a place that is not there
is_some-none : (found : Option ℕ) → is_some found ≡ false → found ≡ None
is_some-none None none = refl
is_some-none (Some node) none = cc

-- a partial listing with no storage node left is a listing
pub IsListing-partial : (listing : ListingData) → IsPartial listing → is_some (slice_get (storage_nodes listing.entries) (length listing.nexts)) ≡ false
    → IsListing listing
IsListing-partial listing partial none = record {
  names = partial.names;
  reads = partial.reads;
  each_next =
      elim (cases_lt (length listing.nexts) (length (storage_nodes listing.entries))) [
        | inl inside ↦
            absurd (let some = slice_get-get_or (storage_nodes listing.entries) (length listing.nexts) 0 inside in
            let absent = is_some-none (slice_get (storage_nodes listing.entries) (length listing.nexts)) none in cc)
        | inr past ↦ omega (arith, past, partial.some_next, length-storage_nodes listing.entries)
      ];
  nexts = partial.nexts;
}

-- a storage node is left where its next state is missing
pub few_nexts : (listing : ListingData) → is_some (slice_get (storage_nodes listing.entries) (length listing.nexts)) ≡ true
    → length listing.nexts < count_by (λ entry. entry.is_storage) listing.entries
few_nexts listing some =
    elim (cases_lt (length listing.nexts) (length (storage_nodes listing.entries))) [
      | inl inside ↦ omega (arith, inside, length-storage_nodes listing.entries)
      | inr past ↦ absurd (let absent = slice_get_past (storage_nodes listing.entries) (length listing.nexts) past in let same : is_some (slice_get (storage_nodes listing.entries) (length listing.nexts)) ≡ false = ap is_some absent in cc)
    ]

-- the storage node whose next state comes next, if there is one
abbrev pub IsNextOf : Option ℕ → ListingData → Type 0
IsNextOf found listing = found ≡ slice_get (storage_nodes listing.entries) (length listing.nexts)
