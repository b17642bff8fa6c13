-- Which texts are listings, and which line of another text is the first that no listing with the lines before it can have.
-- A partial listing has the lines of a listing up to some point: it has next states for the first of its storage nodes alone.
use Rattle.std.specs.Prelude.{◌≡◌, ℕ, ◌+◌, ◌-◌, ◌≤◌, List, ◌++◌, length, take, count_by, All, Some, slice_get}
use Rattle.std.specs.List.{flat_map}
use Rattle.straight_code.specs.declared.code.Instruction.{Instruction}
use Rattle.linear_code.specs.declared.reading.ListingFault.{ListingFault}
use Rattle.linear_code.specs.declared.reading.ListingFault.TheVariants.{BadListing, NoMemory}
use Rattle.straight_code.specs.Code.{AreAllowed, IsOutput}
use Rattle.linear_code.specs.Listing.{ListingData, IsListing, next_at}
use Rattle.line_words.specs.Visible.{IsVisibleName}
use Rattle.linear_code.specs.ListingText.{node_lines, instruction_lines, next_line, storage_nodes, listing_text}

-- as a listing, but that only some of the storage nodes, the first ones, have their next states
pub record IsPartial (listing : ListingData) : Type 0 where
  pub names : All (λ entry. IsVisibleName entry.name) listing.entries
  pub reads : (k : ℕ) (instruction : Instruction) → slice_get listing.instructions k ≡ Some instruction →
      AreAllowed (length listing.entries) k instruction
  pub some_next : length listing.nexts ≤ count_by (λ entry. entry.is_storage) listing.entries
  pub nexts : All (IsOutput (length listing.entries) (length listing.instructions)) listing.nexts

-- the lines that there are
abbrev pub partial_text : ListingData → List ℕ
partial_text listing =
    node_lines 0 listing.entries
    ++ (instruction_lines 0 listing.instructions
    ++ flat_map (λ node. next_line node (next_at listing node)) (take (length listing.nexts) (storage_nodes listing.entries)))

-- how many lines there are
abbrev pub line_count : ListingData → ℕ
line_count listing = length listing.entries + (length listing.instructions + length listing.nexts)

-- the first lines of the text, so many of them, are those of a partial listing
pub record AreGood (text : List ℕ) (count : ℕ) : Type 0 where
  pub listing : ListingData
  pub is : IsPartial listing
  pub lines : line_count listing ≡ count
  pub rest : List ℕ
  pub front : text ≡ partial_text listing ++ rest

-- the text is that of a listing
pub record IsListingText (text : List ℕ) : Type 0 where
  pub listing : ListingData
  pub is : IsListing listing
  pub told : text ≡ listing_text listing

-- the text is no listing, and this line is the first that no listing with the lines before it can have; where all lines are good, it is
-- the number after the last one
pub record IsFirstBad (text : List ℕ) (line : ℕ) : Type 0 where
  pub counted : 1 ≤ line
  pub good : AreGood text (line - 1)
  pub bad : ¬ AreGood text line
  pub none : ¬ IsListingText text

-- the fault names the first bad line
abbrev pub Refuses : List ℕ → ListingFault → Type 0
Refuses text (BadListing line) = IsFirstBad text line
Refuses text NoMemory = Unit {0}
