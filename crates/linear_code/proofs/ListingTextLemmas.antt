-- The lines of a listing's text from a number on: the line of that number, and then those from the next number on.
use Rattle.std.proofs.Common.{◌≡◌, ℕ, suc, ◌+◌, ◌-◌, ◌<◌, ◌≤◌, true, false, List, [], ◌++◌, length, map, get_or, drop, refl, sym, ap, ◌∙◌, append_assoc, arith, cond}
use Rattle.std.proofs.lemmas.List.{at_drop_more, get_or-map, get_or_default, length-map}
use Rattle.std.proofs.lemmas.List.Sums.{count_by_more_yes, count_by_more_no, sum_by-take-le}
use Rattle.straight_code.specs.declared.code.Instruction.{Instruction}
use Rattle.straight_code.specs.declared.code.Operand.TheVariants.{Constant}
use Rattle.straight_code.specs.declared.code.Output.{Output}
use Rattle.linear_code.specs.declared.listing.ListedNode.{ListedNode}
use Rattle.linear_code.specs.Listing.{Entry, ListingData, is_storage_at, storage_before, IsListing}
use Rattle.linear_code.specs.ListingText.{node_line, node_lines, instruction_line, instruction_lines, next_line}
use Rattle.linear_code.specs.TextPlaces.{next_lines}

-- the node with this number is there, and is this entry
pub record IsEntry (entries : List Entry) (node : ℕ) (entry : Entry) : Type 0 where
  pub inside : node < length entries
  pub here : entry ≡ get_or entries node entry

-- a node as contracts see it
abbrev pub entry_of : ListedNode → Entry
entry_of node = record { is_storage = node.is_storage; name = node.name.items }

-- a node that was read from the nodes of a listing
pub IsEntry-read : (entries : List Entry) (nodes : List ListedNode) (number : ℕ) (node : ListedNode) → map entry_of nodes ≡ entries
    → number < length nodes → node ≡ get_or nodes number node → IsEntry entries number (entry_of node)
IsEntry-read entries nodes number node are inside here = record {
  inside = rw (← are, length-map nodes entry_of) inside;
  here = rw (← are, get_or-map entry_of nodes number node (entry_of node) inside) (ap entry_of here);
}

-- its kind
is_storage_at-entry : (entries : List Entry) (node : ℕ) (entry : Entry) → IsEntry entries node entry → is_storage_at entries node ≡ entry.is_storage
is_storage_at-entry entries node entry is =
    ap (λ found. found.is_storage) (get_or_default entries node _ entry is.inside ∙ sym is.here)

-- the lines of nodes from a number on begin with that node's
pub node_lines-next : (entries : List Entry) (number : ℕ) (entry : Entry) (rest : List ℕ) → IsEntry entries number entry
    → node_lines number (drop number entries) ++ rest ≡ node_line number entry ++ (node_lines (number + 1) (drop (number + 1) entries) ++ rest)
node_lines-next entries number entry rest is =
    rw (at_drop_more (node_lines number) entries number entry is.inside, ← is.here)
    (append_assoc (node_line number entry) (node_lines (number + 1) (drop (number + 1) entries)) rest)

-- the lines of instructions from a number on begin with that instruction's, which was read from the instructions of a listing
pub instruction_lines-next : (instructions read : List Instruction) (number : ℕ) (d : Instruction) (rest : List ℕ) → read ≡ instructions
    → number < length read
    → instruction_lines number (drop number instructions) ++ rest ≡ instruction_line number (get_or read number d) ++ (instruction_lines (number + 1) (drop (number + 1) instructions) ++ rest)
instruction_lines-next instructions read number d rest are inside =
    rw (← are, at_drop_more (instruction_lines number) read number d inside)
    (append_assoc (instruction_line number (get_or read number d)) (instruction_lines (number + 1) (drop (number + 1) read)) rest)

-- at a storage node its line comes first, with the next state that was read from those of the listing
pub next_lines-storage : (listing : ListingData) (read : List Output) (node moved : ℕ) (entry : Entry) → read ≡ listing.nexts
    → moved ≡ storage_before listing.entries node → IsEntry listing.entries node entry → entry.is_storage ≡ true
    → next_lines listing node (length listing.entries - node) ≡ next_line node (get_or read moved (record { hi = Constant false; lo = Constant false })) ++ next_lines listing (node + 1) (length listing.entries - (node + 1))
next_lines-storage listing read node moved entry are before is storage =
    let more : length listing.entries - node ≡ suc (length listing.entries - (node + 1)) = omega (arith, is.inside) in
    let here : is_storage_at listing.entries node ≡ true = is_storage_at-entry _ _ _ is ∙ storage in
    rw (more, here, are, before) refl

-- an input node has no line
pub next_lines-input : (listing : ListingData) (node : ℕ) (entry : Entry) → IsEntry listing.entries node entry → entry.is_storage ≡ false
    → next_lines listing node (length listing.entries - node) ≡ next_lines listing (node + 1) (length listing.entries - (node + 1))
next_lines-input listing node entry is input =
    let more : length listing.entries - node ≡ suc (length listing.entries - (node + 1)) = omega (arith, is.inside) in
    let here : is_storage_at listing.entries node ≡ false = is_storage_at-entry _ _ _ is ∙ input in
    rw (more, here) refl

-- no line is left behind the last node
pub next_lines-none : (listing : ListingData) (nodes : List ListedNode) (node : ℕ) → map entry_of nodes ≡ listing.entries → length nodes ≤ node
    → next_lines listing node (length listing.entries - node) ≡ []
next_lines-none listing nodes node are past =
    let none : length listing.entries - node ≡ 0 = omega (arith, ap length are, length-map nodes entry_of) in
    rw none refl

-- one storage node more stands before the next node
pub storage_before-storage : (entries : List Entry) (node : ℕ) (entry : Entry) → IsEntry entries node entry → entry.is_storage ≡ true
    → storage_before entries (node + 1) ≡ storage_before entries node + 1
storage_before-storage entries node entry is storage =
    count_by_more_yes (λ entry. entry.is_storage) entries node entry is.inside (rw (← is.here) storage)

-- as many storage nodes stand before the node that follows an input node
pub storage_before-input : (entries : List Entry) (node : ℕ) (entry : Entry) → IsEntry entries node entry → entry.is_storage ≡ false
    → storage_before entries (node + 1) ≡ storage_before entries node
storage_before-input entries node entry is input =
    count_by_more_no (λ entry. entry.is_storage) entries node entry is.inside (rw (← is.here) input)

-- a storage node has its next state among the next states of a listing
pub storage_before-lt : (listing : ListingData) (node : ℕ) (entry : Entry) → IsListing listing → IsEntry listing.entries node entry
    → entry.is_storage ≡ true → storage_before listing.entries node < length listing.nexts
storage_before-lt listing node entry whole is storage =
    omega (arith, whole.each_next, storage_before-storage listing.entries node entry is storage, sum_by-take-le (λ entry. cond entry.is_storage 1 0) listing.entries (node + 1))
