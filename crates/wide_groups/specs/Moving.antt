-- A step of parts and of the groups that are stepped by vicinities, if they are known: which nodes take which values.
-- After Bryant, "A Switch-Level Model and Simulator for MOS Digital Systems", 1984.
use Rattle.std.specs.Prelude.{◌≡◌, ℕ, Bool, List, [], length, Option, None, Some}
use Rattle.ternary.specs.declared.tern.Tern.{Tern}
use Rattle.switch_paths.specs.Switching.{state_at}
use Rattle.switch_paths.specs.Graphs.{GraphData, IsStorage}
use Rattle.switch_paths.specs.Step.{IsResponse}
use Rattle.part_words.specs.Noting.{after}
use Rattle.machine_parts.specs.declared.part.MachinePart.{MachinePart}
use Rattle.machine_parts.specs.Parts.{HasMember, IsStale}
use Rattle.machine_parts.specs.Stepping.{IsGiven}
use Rattle.vicinity.specs.Touching.{IsAwake}
use Rattle.vicinity.specs.Wides.{WideData, Retouches, PlacesWide}

-- the graph of the groups that are stepped by vicinities; if they aren't known it is empty
abbrev pub graph_in : Option WideData → GraphData
graph_in None = record { levels = []; places = [] }
graph_in (Some wide) = wide.graph

-- its touched nodes; if they aren't known there are none
abbrev pub touched_in : Option WideData → List ℕ
touched_in None = []
touched_in (Some wide) = wide.touched.list

-- a touched node of the groups that are stepped by vicinities is near the node
abbrev pub IsAwakeIn : Option WideData → List Tern → ℕ → Type 0
IsAwakeIn wide state node = IsAwake (graph_in wide) state (touched_in wide) node

-- each storage node of the graph is a member of a stale part
abbrev pub HasStaleOnly : List MachinePart → GraphData → Type 0
HasStaleOnly parts g = (node : ℕ) → IsStorage g node → (k : ℕ) × HasMember parts k node × IsStale parts k

-- each node that is given a value takes it, each that is awake takes its steady state, and every other node stays
pub record MovesIn (joining : Bool) (parts : List MachinePart) (marks : List Bool) (wide : Option WideData) (old new : List Tern) : Type 0 where
  pub count : length new ≡ length old
  pub given : (node : ℕ) (value : Tern) → IsGiven parts marks old node value → state_at new node ≡ after joining (state_at old node) value
  pub awake : (node : ℕ) (value : Tern) → IsAwakeIn wide old node → IsResponse (graph_in wide) old node value →
      state_at new node ≡ after joining (state_at old node) value
  pub stays : (node : ℕ) → ((value : Tern) → ¬ IsGiven parts marks old node value) → (¬ IsAwakeIn wide old node) → state_at new node ≡ state_at old node

-- two states of the groups that are stepped by vicinities, the later one so after the other, or neither is known
abbrev pub BothIn : (WideData → WideData → Type 0) → Option WideData → Option WideData → Type 0
BothIn IsAfter None None = Unit {0}
BothIn IsAfter (Some wide) (Some later) = IsAfter wide later
BothIn IsAfter None (Some later) = ⊥
BothIn IsAfter (Some wide) None = ⊥

-- the groups that are stepped by vicinities are touched by what a step stirred, if they are known
abbrev pub RetouchesIn : Bool → Option WideData → Option WideData → List Tern → List Tern → Type 0
RetouchesIn joining wide later old new = BothIn (λ one other. Retouches joining one other old new) wide later

-- and by what a placed node stirred
abbrev pub PlacesIn : ℕ → Option WideData → Option WideData → List Tern → List Tern → Type 0
PlacesIn placed wide later old new = BothIn (λ one other. PlacesWide placed one other old new) wide later
