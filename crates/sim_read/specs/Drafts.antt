-- What was read of a netlist so far: the lines are a fold over it. After the last line comes the sizing.
use Rattle.std.specs.Prelude.{ℕ, ◌+◌, ◌-◌, Bool, true, false, ◌&&◌, ◌++◌, not, length, replicate, slice_set, List, [], map, slice_index_or, Option, Some, None, Result, Ok, Err, if◌then◌else◌}
use Rattle.std.specs.List.{range_with_len}
use Rattle.strength_order.specs.declared.Profile.{Profile}
use Rattle.strength_order.specs.declared.Profile.TheVariants.{One, Two}
use Rattle.strength_order.specs.Levels.{level_of_size}
use Rattle.switch_paths.specs.Graphs.{is_storage_level, level_of, nodes}
use Rattle.netlist.specs.Circuits.{CircuitData, rails_alone}
use Rattle.sim_read.specs.declared.fault.NetRefusal.{NetRefusal}
use Rattle.sim_read.specs.Capacitances.{NameSums, added_among, is_of, size_by}

-- what the lines before gave: the circuit so far, the thresholds of the header, what was added to names, and of each node whether an
-- item `size` or `input` set something at it; a node past these marks has none
pub record DraftData : Type 0 where
  pub circuit : CircuitData
  pub thresholds : List ℕ
  pub sums : NameSums
  pub marks : List Bool

-- what is there before the first line in a profile, with these thresholds: the rails alone
abbrev pub rails_draft_in : Profile → List ℕ → DraftData
rails_draft_in profile thresholds =
    record { circuit = rails_alone profile; thresholds = thresholds; sums = []; marks = [] }

-- what is there before the first line is read: the rails alone, in profile 1
abbrev pub rails_draft : DraftData
rails_draft = rails_draft_in One []

-- the node is marked; a node past the marks isn't
abbrev pub is_marked : List Bool → ℕ → Bool
is_marked marks node = slice_index_or marks node false

-- the marks with this node marked, if there is one
abbrev pub with_mark : List Bool → Option ℕ → List Bool
with_mark marks None = marks
with_mark marks (Some node) = slice_set (marks ++ replicate (node + 1 - length marks) false) node true

-- ---- the sizing

-- the capacitance of a node: what was added to all its names
abbrev pub capacitance : DraftData → ℕ → ℕ
capacitance d node = added_among d.sums (is_of d.circuit.names node)

-- a storage node at which no item set anything
abbrev pub is_sized : DraftData → ℕ → Bool
is_sized d node = is_storage_level (level_of d.circuit.graph node) && not (is_marked d.marks node)

-- the level of a node after the sizing: such a node gets its size by its capacitance
abbrev pub sized_level : DraftData → ℕ → ℕ
sized_level d node =
    if is_sized d node then level_of_size (size_by d.thresholds (capacitance d node)) else level_of d.circuit.graph node

-- the circuit with these levels
abbrev pub with_levels : CircuitData → List ℕ → CircuitData
with_levels c levels = record c { graph = record c.graph { levels = levels } }

-- the circuit of a draft, in profile 2 after the sizing
abbrev pub sized_in : Profile → DraftData → CircuitData
sized_in One d = d.circuit
sized_in Two d = with_levels d.circuit (map (sized_level d) (range_with_len 0 (nodes d.circuit.graph)))

-- the same, by the draft's own profile
abbrev pub sized : DraftData → CircuitData
sized d = sized_in d.circuit.profile d

-- the circuit of all lines, or the refusal of the first that has one
abbrev pub circuit_of : Result DraftData NetRefusal → Result CircuitData NetRefusal
circuit_of (Ok d) = Ok (sized d)
circuit_of (Err refusal) = Err refusal
