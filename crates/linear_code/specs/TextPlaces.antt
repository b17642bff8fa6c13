-- Places in the text of a listing, between two of its lines.
use Rattle.std.specs.Prelude.{◌≡◌, ℕ, ◌+◌, ◌-◌, ◌<◌, Bool, List, [], ◌++◌, length, drop, filter, MatchBool}
use Rattle.std.specs.List.{flat_map, range_with_len}
use Rattle.linear_code.specs.declared.listing_text.TextPlace.{TextPlace}
use Rattle.linear_code.specs.Listing.{ListingData, is_storage_at, next_at, storage_before}
use Rattle.linear_code.specs.ListingText.{node_lines, instruction_lines, next_line}
use Rattle.linear_code.specs.Pieces.{IsLeft}

-- the lines of the next states of the storage nodes among so many nodes from a number on
abbrev pub next_lines : ListingData → ℕ → ℕ → List ℕ
next_lines listing first count =
    flat_map (λ node. next_line node (next_at listing node)) (filter (is_storage_at listing.entries) (range_with_len first count))

-- the text from a place on: the lines of the nodes, of the instructions and of the next states that are left
abbrev pub text_from : ListingData → TextPlace → List ℕ
text_from listing place =
    node_lines place.nodes (drop place.nodes listing.entries)
    ++ (instruction_lines place.instructions (drop place.instructions listing.instructions)
    ++ next_lines listing place.passed (length listing.entries - place.passed))

-- the place is one of the text of this listing
pub record IsPlace (listing : ListingData) (place : TextPlace) : Type 0 where
  pub moved : place.moved ≡ storage_before listing.entries place.passed

-- how many lines of nodes and of instructions and how many nodes of next states are left
abbrev pub lines_left : ListingData → TextPlace → ℕ
lines_left listing place =
    (length listing.entries - place.nodes) + (length listing.instructions - place.instructions) + (length listing.entries - place.passed)

-- the place moved on with what was appended: there was something left, and now there is less; or nothing was left
pub record Passes (listing : ListingData) (old new : TextPlace) (before after : List ℕ) (more : Bool) : Type 0 where
  pub place : IsPlace listing new
  pub left : IsLeft before after (text_from listing old) (text_from listing new)
  pub less : MatchBool more (lines_left listing new < lines_left listing old) (text_from listing new ≡ [])
