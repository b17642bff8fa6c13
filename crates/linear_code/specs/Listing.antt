-- A listing: the nodes of a circuit, and straight-line code for the next states of its storage nodes.
-- After Bryant, Beatty, Brace, Cho and Sheffler, "COSMOS: A Compiled Simulator for MOS Circuits", 1987.
use Rattle.std.specs.Prelude.{◌≡◌, ℕ, ◌<◌, Bool, false, List, [], length, take, count_by, All, Some, slice_get, slice_index_or, if◌then◌else◌}
use Rattle.ternary.specs.declared.tern.Tern.{Tern}
use Rattle.switch_paths.specs.Switching.{state_at}
use Rattle.straight_code.specs.declared.code.Operand.TheVariants.{Constant}
use Rattle.straight_code.specs.declared.code.Instruction.{Instruction}
use Rattle.straight_code.specs.declared.code.Output.{Output}
use Rattle.straight_code.specs.Code.{results, output_state, AreAllowed, IsOutput}
use Rattle.line_words.specs.Visible.{IsVisibleName}

-- a node of a listing: whether it is a storage node, and its name
pub record Entry : Type 0 where
  pub is_storage : Bool
  pub name : List ℕ

-- a listing as contracts see it: its nodes, its instructions over the rails of the nodes, and for each storage node, in ascending
-- order, the rails of its next state
pub record ListingData : Type 0 where
  pub entries : List Entry
  pub instructions : List Instruction
  pub nexts : List Output

-- whether a node is a storage node
abbrev pub is_storage_at : List Entry → ℕ → Bool
is_storage_at entries node = (slice_index_or entries node (record { is_storage = false; name = [] })).is_storage

-- how many storage nodes stand before a node
abbrev pub storage_before : List Entry → ℕ → ℕ
storage_before entries node = count_by (λ entry. entry.is_storage) (take node entries)

-- the rails of the next state of a storage node
abbrev pub next_at : ListingData → ℕ → Output
next_at listing node =
    slice_index_or listing.nexts (storage_before listing.entries node) (record { hi = Constant false; lo = Constant false })

-- the state of a node after a step from this state: an input node keeps its state
abbrev pub next_of : ListingData → List Tern → ℕ → Tern
next_of listing state node =
    if is_storage_at listing.entries node then output_state state (results state listing.instructions) (next_at listing node)
    else state_at state node

-- all nodes move at once
pub record IsListingStep (listing : ListingData) (state next : List Tern) : Type 0 where
  pub count : length next ≡ length listing.entries
  pub each : (node : ℕ) → node < length listing.entries → state_at next node ≡ next_of listing state node

-- each instruction reads nodes and earlier results alone, and each storage node has its next state
pub record IsListing (listing : ListingData) : Type 0 where
  pub names : All (λ entry. IsVisibleName entry.name) listing.entries
  pub reads : (k : ℕ) (instruction : Instruction) → slice_get listing.instructions k ≡ Some instruction →
      AreAllowed (length listing.entries) k instruction
  pub each_next : length listing.nexts ≡ count_by (λ entry. entry.is_storage) listing.entries
  pub nexts : All (IsOutput (length listing.entries) (length listing.instructions)) listing.nexts
