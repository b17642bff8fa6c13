-- The code of a part among other code: it reads nodes of the whole circuit, and its results stand behind those of other instructions.
use Rattle.std.specs.Prelude.{◌≡◌, ℕ, ◌+◌, ◌<◌, ◌≢◌, true, false, List, ◌++◌, length, map, All, Contains, slice_index, slice_index_or}
use Rattle.straight_code.specs.declared.code.Operand.{Operand}
use Rattle.straight_code.specs.declared.code.Operand.TheVariants.{Constant, High, Low, Earlier}
use Rattle.straight_code.specs.declared.code.Instruction.{Instruction}
use Rattle.straight_code.specs.declared.code.Instruction.TheVariants.{Not, And, Or}
use Rattle.straight_code.specs.declared.code.Output.{Output}
use Rattle.straight_code.specs.declared.part.Part.{Part}
use Rattle.linear_code.specs.Listing.{Entry, is_storage_at, storage_before}

-- the operand over these nodes, behind so many other instructions
abbrev pub moved_operand : List ℕ → ℕ → Operand → Operand
moved_operand nodes offset (Constant b) = Constant b
moved_operand nodes offset (High j) = High (slice_index nodes j)
moved_operand nodes offset (Low j) = Low (slice_index nodes j)
moved_operand nodes offset (Earlier k) = Earlier (offset + k)

-- the instruction over these nodes, behind so many other instructions
abbrev pub moved_instruction : List ℕ → ℕ → Instruction → Instruction
moved_instruction nodes offset (Not a) = Not (moved_operand nodes offset a)
moved_instruction nodes offset (And a b) = And (moved_operand nodes offset a) (moved_operand nodes offset b)
moved_instruction nodes offset (Or a b) = Or (moved_operand nodes offset a) (moved_operand nodes offset b)

-- the output over these nodes, behind so many other instructions
abbrev pub moved_output : List ℕ → ℕ → Output → Output
moved_output nodes offset output = record { hi = moved_operand nodes offset output.hi; lo = moved_operand nodes offset output.lo }

-- the output of a node; past the last node neither rail is ever set
abbrev pub output_at : List Output → ℕ → Output
output_at outputs node = slice_index_or outputs node (record { hi = Constant false; lo = Constant false })

-- the first so many outputs of a part's code stand, moved, at the first nodes of its map; the other nodes keep their outputs
pub record PutsOutputs (nodes : List ℕ) (offset : ℕ) (outputs : List Output) (done : ℕ) (old new : List Output) : Type 0 where
  pub count : length new ≡ length old
  pub here : (j : ℕ) → j < done → output_at new (slice_index nodes j) ≡ moved_output nodes offset (output_at outputs j)
  pub others : (node : ℕ) → ((j : ℕ) → j < done → slice_index nodes j ≢ node) → output_at new node ≡ output_at old node

-- the instructions of a part stand, moved, behind those that were there, and its outputs at its members
pub record AddsPart (part : Part) (before after : List Instruction) (old new : List Output) : Type 0 where
  pub instructions : after ≡ before ++ map (moved_instruction part.map.items (length before)) part.code.value.instructions
  pub outputs : PutsOutputs part.map.items (length before) part.code.value.outputs part.members old new

-- of the first so many nodes, the output of each storage node stands in turn, and nothing else does
pub record AreNexts (entries : List Entry) (done : ℕ) (outputs nexts : List Output) : Type 0 where
  pub count : length nexts ≡ storage_before entries done
  pub each : (node : ℕ) → node < done → is_storage_at entries node ≡ true →
      output_at nexts (storage_before entries node) ≡ output_at outputs node
  pub known : All (Contains outputs) nexts
