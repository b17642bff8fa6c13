-- A listing that is read line by line: which lines may follow those that it has, and what they add to it.
use Rattle.std.specs.Prelude.{◌≡◌, ◌≢◌, ℕ, List, [], ◌∷◌, ◌++◌, length, codes, decimal, Option, Some, slice_get, MatchOption}
use Rattle.straight_code.specs.declared.code.Instruction.{Instruction}
use Rattle.straight_code.specs.declared.code.Output.{Output}
use Rattle.linear_code.specs.declared.reading.Line.{Line}
use Rattle.linear_code.specs.declared.reading.Line.TheVariants.{Node, Code, Next}
use Rattle.straight_code.specs.Code.{AreAllowed, IsOutput}
use Rattle.linear_code.specs.Listing.{ListingData, Entry}
use Rattle.line_words.specs.Visible.{IsVisibleName}
use Rattle.linear_code.specs.ListingText.{kind_letter, operand_text, instruction_text, storage_nodes}

-- what a line adds: a node, an instruction, or the next state of the node with this number
pub data Added : Type 0 where
  entry : Entry → Added
  instruction : Instruction → Added
  next : ℕ → Output → Added

-- the listing with what a line adds
abbrev pub with_added : ListingData → Added → ListingData
with_added listing (entry added) = record {
  entries = listing.entries ++ added ∷ [];
  instructions = listing.instructions;
  nexts = listing.nexts;
}
with_added listing (instruction added) = record {
  entries = listing.entries;
  instructions = listing.instructions ++ added ∷ [];
  nexts = listing.nexts;
}
with_added listing (next node added) = record {
  entries = listing.entries;
  instructions = listing.instructions;
  nexts = listing.nexts ++ added ∷ [];
}

-- what was read is allowed, and this is its text; or nothing that is allowed has this text
abbrev pub IsReadBack : {A : Type 0} → (A → Type 0) → (A → List ℕ) → List ℕ → Option A → Type 0
IsReadBack {A} allowed text bytes result =
    MatchOption result ((read : A) → allowed read → bytes ≢ text read) (λ read. allowed read × (bytes ≡ text read))

-- both operands of an output
abbrev pub output_text : Output → List ℕ
output_text output = operand_text output.hi ++ (codes " " ++ operand_text output.lo)

-- the line that adds it, without its LF
abbrev pub bare_line : ListingData → Added → List ℕ
bare_line listing (entry added) =
    codes "node " ++ (decimal (length listing.entries) ++ (codes " " ++ (kind_letter added.is_storage ++ (codes " " ++ added.name))))
bare_line listing (instruction added) =
    codes "t" ++ (decimal (length listing.instructions) ++ (codes " = " ++ instruction_text added))
bare_line listing (next node added) = codes "next " ++ (decimal node ++ (codes " " ++ output_text added))

-- the line may follow: nodes stand first, then instructions, then the next states of the storage nodes, in ascending order
abbrev pub Fits : ListingData → Added → Type 0
Fits listing (entry added) = (listing.instructions ≡ []) × (listing.nexts ≡ []) × IsVisibleName added.name
Fits listing (instruction added) =
    (listing.nexts ≡ []) × AreAllowed (length listing.entries) (length listing.instructions) added
Fits listing (next node added) =
    (slice_get (storage_nodes listing.entries) (length listing.nexts) ≡ Some node)
    × IsOutput (length listing.entries) (length listing.instructions) added

-- what a line of the program adds
abbrev pub added_of : Line → Added
added_of (Node is_storage name) = entry (record { is_storage = is_storage; name = name.now })
added_of (Code added) = instruction added
added_of (Next node output) = next node output

-- the bytes are the line that adds it, and it may follow
pub record IsLineOf (listing : ListingData) (bytes : List ℕ) (added : Added) : Type 0 where
  pub fits : Fits listing added
  pub bare : bytes ≡ bare_line listing added

-- the line that was read is what the bytes say, or no line with these bytes may follow
abbrev pub IsReadAs : ListingData → List ℕ → Option Line → Type 0
IsReadAs listing bytes line =
    MatchOption line ((added : Added) → ¬ IsLineOf listing bytes added) (λ read. IsLineOf listing bytes (added_of read))

-- the same of nodes alone
abbrev pub IsNodeReadAs : ListingData → List ℕ → Option Line → Type 0
IsNodeReadAs listing bytes line =
    MatchOption line ((added : Entry) → ¬ IsLineOf listing bytes (entry added)) (λ read. IsLineOf listing bytes (added_of read))

-- the same of instructions alone
abbrev pub IsInstructionReadAs : ListingData → List ℕ → Option Line → Type 0
IsInstructionReadAs listing bytes line =
    MatchOption line ((added : Instruction) → ¬ IsLineOf listing bytes (instruction added)) (λ read. IsLineOf listing bytes (added_of read))

-- the same of next states alone
abbrev pub IsNextReadAs : ListingData → List ℕ → Option Line → Type 0
IsNextReadAs listing bytes line =
    MatchOption line ((node : ℕ) (added : Output) → ¬ IsLineOf listing bytes (next node added)) (λ read. IsLineOf listing bytes (added_of read))

-- the text begins with a line that may follow, which was added, and this is the rest
pub record AddsLine (old new : ListingData) (text rest : List ℕ) : Type 0 where
  pub added : Added
  pub fits : Fits old added
  pub becomes : new ≡ with_added old added
  pub front : text ≡ bare_line old added ++ 10 ∷ rest

-- the text begins with no line that may follow
abbrev pub HasNoLine : ListingData → List ℕ → Type 0
HasNoLine listing text = (added : Added) (rest : List ℕ) → Fits listing added → text ≢ bare_line listing added ++ 10 ∷ rest
