-- A step of a listing: the results of its instructions, and the storage nodes that were passed.
use Rattle.std.proofs.Common.{◌≡◌, ℕ, ◌+◌, ◌<◌, Bool, true, false, List, [], ◌∷◌, ◌++◌, length, map, take, get_or, sym, ap, ◌∙◌, below_more, cond, arith}
use Rattle.std.specs.List.{count_by}
use Rattle.std.proofs.lemmas.List.{take_more, get_or_append_left, get_or_push, get_or_read, get_or-map, length-map}
use Rattle.std.proofs.lemmas.List.Sums.{count_by_more_yes, count_by_more_no, sum_by-take-le}
use Rattle.ternary.specs.declared.tern.Tern.{Tern}
use Rattle.ternary.specs.declared.tern.Tern.TheVariants.{Zero}
use Rattle.switch_paths.specs.Switching.{state_at}
use Rattle.straight_code.specs.declared.code.Instruction.{Instruction}
use Rattle.straight_code.specs.declared.code.Operand.TheVariants.{Constant}
use Rattle.straight_code.specs.declared.code.Output.{Output}
use Rattle.linear_code.specs.declared.listing.ListedNode.{ListedNode}
use Rattle.straight_code.specs.Code.{instruction_value, results, output_state}
use Rattle.linear_code.specs.Listing.{Entry, ListingData, is_storage_at, storage_before, next_of, IsListing}
use Rattle.straight_code.proofs.ResultLemmas.{results-more}

-- the results up to the next instruction are the earlier ones and its own
pub results-next : (input : List Tern) (instructions : List Instruction) (k : ℕ) (past : Instruction) (done : List Bool) (result : Bool)
    → k < length instructions
    → done ≡ results input (take k instructions)
    → result ≡ instruction_value input done (get_or instructions k past)
    → done ++ result ∷ [] ≡ results input (take (k + 1) instructions)
results-next input instructions k past done result inside so_far is =
    rw (is, so_far, take_more instructions k past inside) (sym (results-more input (take k instructions) (get_or instructions k past)))

-- a node's kind is that of its entry
pub is_storage_at-node : (listed : List ListedNode) (entries : List Entry) (node : ℕ) (item : ListedNode)
    → map (λ one. record { is_storage = one.is_storage; name = one.name.items }) listed ≡ entries
    → node < length listed → item ≡ get_or listed node item
    → is_storage_at entries node ≡ item.is_storage
is_storage_at-node listed entries node item view inside is =
    let past : Entry = record { is_storage = false; name = [] } in
    let entry = get_or-map {Y = Entry} (λ one. record { is_storage = one.is_storage; name = one.name.items }) listed node item past inside in
    ap (λ all. is_storage_at all node) (sym view) ∙ ap (λ one. one.is_storage) entry ∙ ap (λ one. one.is_storage) (sym is)

-- behind a storage node there is one storage node more
pub storage_before-storage : (entries : List Entry) (node : ℕ) → node < length entries → is_storage_at entries node ≡ true
    → storage_before entries (node + 1) ≡ storage_before entries node + 1
storage_before-storage entries node inside storage =
    count_by_more_yes (λ entry. entry.is_storage) entries node (record { is_storage = false; name = [] }) inside storage

-- behind an input node there are as many storage nodes as before it
pub storage_before-input : (entries : List Entry) (node : ℕ) → node < length entries → is_storage_at entries node ≡ false
    → storage_before entries (node + 1) ≡ storage_before entries node
storage_before-input entries node inside input =
    count_by_more_no (λ entry. entry.is_storage) entries node (record { is_storage = false; name = [] }) inside input

-- before a storage node there are fewer storage nodes than in all
storage_before-below : (entries : List Entry) (node : ℕ) → node < length entries → is_storage_at entries node ≡ true
    → storage_before entries node < count_by (λ entry. entry.is_storage) entries
storage_before-below entries node inside storage =
    let more = storage_before-storage entries node inside storage in
    let all = sum_by-take-le (λ (entry : Entry). cond entry.is_storage 1 0) entries (node + 1) in
    omega (arith, more, all)

-- the next state in turn is one of the listing's
pub turn-below : (listing : ListingData) (node turn : ℕ) → IsListing listing → node < length listing.entries
    → is_storage_at listing.entries node ≡ true → turn ≡ storage_before listing.entries node
    → turn < length listing.nexts
turn-below listing node turn good inside storage in_turn =
    let below = storage_before-below listing.entries node inside storage in
    omega (arith, below, good.each_next)

-- the same of a node that is known by its own kind
pub turn-below_node : (listing : ListingData) (listed : List ListedNode) (node turn : ℕ) (item : ListedNode) → IsListing listing
    → map (λ one. record { is_storage = one.is_storage; name = one.name.items }) listed ≡ listing.entries
    → node < length listed → item ≡ get_or listed node item → item.is_storage ≡ true
    → turn ≡ storage_before listing.entries node
    → turn < length listing.nexts
turn-below_node listing listed node turn item good view inside is storage in_turn =
    let kind = is_storage_at-node listed listing.entries node item view inside is in
    let within : node < length listing.entries = rw (← view, length-map) inside in
    turn-below listing node turn good within (kind ∙ storage) in_turn

-- a storage node moves to what the code gives for the output in turn
pub storage-moves : (listing : ListingData) (state : List Tern) (node turn : ℕ) (output : Output) (result : Tern)
    → is_storage_at listing.entries node ≡ true
    → turn ≡ storage_before listing.entries node → turn < length listing.nexts → output ≡ get_or listing.nexts turn output
    → result ≡ output_state state (results state listing.instructions) output
    → result ≡ next_of listing state node
storage-moves listing state node turn output result storage in_turn inside output_is is =
    let past : Output = record { hi = Constant false; lo = Constant false } in
    let next = get_or_read listing.nexts turn output inside output_is past in
    rw (storage, ← in_turn, ← next) is

-- an input node keeps its state
pub next_of-input : (listing : ListingData) (state : List Tern) (node : ℕ) → is_storage_at listing.entries node ≡ false
    → next_of listing state node ≡ state_at state node
next_of-input listing state node input = rw input

-- one node more has moved
pub each-next : (f : ℕ → Tern) (next : List Tern) (node : ℕ) (moved : Tern) → length next ≡ node
    → ((k : ℕ) → k < node → state_at next k ≡ f k) → moved ≡ f node
    → (k : ℕ) → k < node + 1 → state_at (next ++ moved ∷ []) k ≡ f k
each-next f next node moved long so_far here =
    below_more _ _
    (λ k before. let inside : k < length next = omega arith in get_or_append_left next (moved ∷ []) Zero k inside ∙ so_far k before)
    (get_or_push next moved Zero node long ∙ here)
