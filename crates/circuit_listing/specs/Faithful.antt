-- Faithful listings: one whose step is the unit step of the circuit.
-- After Bryant, Beatty, Brace, Cho and Sheffler, "COSMOS: A Compiled Simulator for MOS Circuits", 1987.
use Rattle.std.specs.Prelude.{◌≡◌, ℕ, ◌≤◌, List, length, map, sum, nat_lt}
use Rattle.std.specs.List.{range_with_len}
use Rattle.ternary.specs.declared.tern.Tern.{Tern}
use Rattle.strength_order.specs.declared.TheConstants.{INPUT_LEVEL}
use Rattle.switch_paths.specs.Graphs.{GraphData, nodes}
use Rattle.switch_paths.specs.Step.{IsStep}
use Rattle.netlist.specs.Circuits.{CircuitData, called}
use Rattle.group_meaning.specs.Groups.{Group, AreGroups}
use Rattle.group_text.specs.Texts.{local_graph}
use Rattle.linear_code.specs.Listing.{ListingData, IsListingStep}
use Rattle.group_analysis.specs.Meaning.{bound_of}
use Rattle.switch_paths.specs.Rails.{IsSound}

-- the bound on the gates of a group
abbrev pub group_bound : GraphData → Group → ℕ
group_bound g group = bound_of (local_graph g group) (length group.members)

-- the listing has the circuit's nodes, their kinds and names; from each sound state its step is the unit step of the circuit; and it
-- has no more instructions than the bounds of the circuit's groups together
pub record IsFaithful (c : CircuitData) (listing : ListingData) : Type 0 where
  pub kinds : map (λ entry. entry.is_storage) listing.entries ≡ map (λ level. nat_lt level INPUT_LEVEL) c.graph.levels
  pub names : map (λ entry. entry.name) listing.entries ≡ map (called c) (range_with_len 0 (nodes c.graph))
  pub steps : (state next : List Tern) → length state ≡ nodes c.graph → IsSound state → IsListingStep listing state next →
      IsStep c.graph state next
  pub few : (groups : List Group) → AreGroups c.graph groups →
      length listing.instructions ≤ sum (map (group_bound c.graph) groups)
