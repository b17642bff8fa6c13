-- What it is for a listing to be built of parts.
use Rattle.std.specs.Prelude.{◌≡◌, ℕ, List, length, map, sum, nat_lt, slice_index_or}
use Rattle.ternary.specs.declared.tern.Tern.{Tern}
use Rattle.ternary.specs.declared.tern.Tern.TheVariants.{Unk}
use Rattle.strength_order.specs.declared.TheConstants.{INPUT_LEVEL}
use Rattle.switch_paths.specs.Graphs.{GraphData, nodes}
use Rattle.straight_code.specs.declared.part.Part.{Part}
use Rattle.straight_code.specs.Code.{code_value}
use Rattle.straight_code.specs.Parts.{IsMemberAt, mapped}
use Rattle.linear_code.specs.Listing.{ListingData, next_of}

-- the listing has the graph's nodes with these names, as many instructions as the parts' code together, and moves each member of a part
-- to what the part's code gives
pub record IsBuilt (g : GraphData) (names : List (List ℕ)) (parts : List Part) (listing : ListingData) : Type 0 where
  pub kinds : map (λ entry. entry.is_storage) listing.entries ≡ map (λ level. nat_lt level INPUT_LEVEL) g.levels
  pub named : map (λ entry. entry.name) listing.entries ≡ names
  pub count : length listing.instructions ≡ sum (map (λ part. length part.code.value.instructions) parts)
  pub moves : (state : List Tern) → length state ≡ nodes g → (node k j : ℕ) (member : IsMemberAt parts node k j) →
      next_of listing state node ≡ slice_index_or (code_value member.part.code.value (mapped member.part state)) j Unk
