-- The text of a listing: its nodes, its instructions and the next states, a line for each.
use Rattle.std.specs.Prelude.{◌≡◌, ℕ, ◌+◌, Bool, true, false, List, [], ◌∷◌, ◌++◌, length, filter, codes, decimal}
use Rattle.std.specs.List.{flat_map, range_with_len}
use Rattle.straight_code.specs.declared.code.Operand.{Operand}
use Rattle.straight_code.specs.declared.code.Operand.TheVariants.{Constant, High, Low, Earlier}
use Rattle.straight_code.specs.declared.code.Instruction.{Instruction}
use Rattle.straight_code.specs.declared.code.Instruction.TheVariants.{Not, And, Or}
use Rattle.straight_code.specs.declared.code.Output.{Output}
use Rattle.linear_code.specs.Listing.{Entry, ListingData, is_storage_at, next_at}

-- the letter of a kind: s for a storage node, i for an input node
abbrev pub kind_letter : Bool → List ℕ
kind_letter true = codes "s"
kind_letter false = codes "i"

-- the line of a node with this number
abbrev pub node_line : ℕ → Entry → List ℕ
node_line k entry = codes "node " ++ decimal k ++ codes " " ++ kind_letter entry.is_storage ++ codes " " ++ entry.name ++ codes "\n"

-- an operand
abbrev pub operand_text : Operand → List ℕ
operand_text (Constant false) = codes "0"
operand_text (Constant true) = codes "1"
operand_text (High j) = codes "h" ++ decimal j
operand_text (Low j) = codes "l" ++ decimal j
operand_text (Earlier k) = codes "t" ++ decimal k

-- what an instruction does
abbrev pub instruction_text : Instruction → List ℕ
instruction_text (Not a) = codes "! " ++ operand_text a
instruction_text (And a b) = operand_text a ++ codes " & " ++ operand_text b
instruction_text (Or a b) = operand_text a ++ codes " | " ++ operand_text b

-- the line of an instruction with this number
abbrev pub instruction_line : ℕ → Instruction → List ℕ
instruction_line k instruction = codes "t" ++ decimal k ++ codes " = " ++ instruction_text instruction ++ codes "\n"

-- the line of the next state of a node
abbrev pub next_line : ℕ → Output → List ℕ
next_line node output =
    codes "next " ++ decimal node ++ codes " " ++ operand_text output.hi ++ codes " " ++ operand_text output.lo ++ codes "\n"

-- a line for each, numbered from k on
abbrev pub lines_from : {X : Type 0} → (ℕ → X → List ℕ) → ℕ → List X → List ℕ
lines_from line k [] = []
lines_from line k (x ∷ xs) = line k x ++ lines_from line (k + 1) xs

-- the lines of nodes, numbered from k on
abbrev pub node_lines : ℕ → List Entry → List ℕ
node_lines = lines_from node_line

-- the lines of instructions, numbered from k on
abbrev pub instruction_lines : ℕ → List Instruction → List ℕ
instruction_lines = lines_from instruction_line

-- the numbers of the storage nodes, ascending
abbrev pub storage_nodes : List Entry → List ℕ
storage_nodes entries = filter (is_storage_at entries) (range_with_len 0 (length entries))

-- the text of a listing
abbrev pub listing_text : ListingData → List ℕ
listing_text listing =
    node_lines 0 listing.entries
    ++ (instruction_lines 0 listing.instructions
    ++ flat_map (λ node. next_line node (next_at listing node)) (storage_nodes listing.entries))

-- the text was appended to what there was, or, out of memory, a part of it from its start
pub record WritesFront (old new text : List ℕ) : Type 0 where
  pub front : List ℕ
  pub rest : List ℕ
  pub is_front : text ≡ front ++ rest
  pub appended : new ≡ old ++ front
