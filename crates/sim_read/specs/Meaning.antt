-- The meaning of a netlist: the circuit that the entries of its lines give in order, followed in profile 2 by the sizing, or the refusal
-- of its first line that has one.
-- The .sim format is that of the MIT and Berkeley extractors; the profile is this project's own.
use Rattle.std.specs.Prelude.{ℕ, Bool, false, ◌==◌, List, [], ◌∷◌, nat_lt, Option, Some, None, Result, Ok, Err, if◌then◌else◌}
use Rattle.std.specs.Option.{option_map_or}
use Rattle.strength_order.specs.declared.Profile.{Profile}
use Rattle.strength_order.specs.declared.Profile.TheVariants.{One, Two}
use Rattle.switch_paths.specs.declared.switching.SwitchKind.{SwitchKind}
use Rattle.line_words.specs.declared.line_check.LineFault.{LineFault}
use Rattle.line_words.specs.declared.line_check.LineFault.TheVariants as of_line
use Rattle.line_words.specs.Files.{lines_in, cut_line, is_cut}
use Rattle.line_words.specs.LineFaults.{line_fault, is_comment}
use Rattle.line_words.specs.Words.{words_of}
use Rattle.switch_paths.specs.declared.TheConstants.{RAILS}
use Rattle.netlist.specs.Faults.{MakingFault}
use Rattle.netlist.specs.Names.{node_of}
use Rattle.netlist.specs.Circuits.{CircuitData, rails_alone}
use Rattle.netlist.specs.Edits.{add_fault, alias_fault, node_fault, node_named, usual_strength, with_alias, with_input, with_node, with_store, with_transistor}
use Rattle.sim_read.specs.Capacitances.{NameSums, with_line}
use Rattle.sim_read.specs.Drafts.{DraftData, rails_draft, circuit_of, with_mark}
use Rattle.sim_read.specs.declared.fault.NetRefusal.{NetRefusal}
use Rattle.sim_read.specs.declared.fault.NetWhat.{NetWhat}
use Rattle.sim_read.specs.declared.fault.NetWhat.TheVariants.{LineTooLong, BadByte, BadRecord, FewWords, Format, BadCaps, TooLong, BadStrength, BadSize, AliasTaken, TooManyNodes, TooManySwitches}
use Rattle.sim_read.specs.declared.header.TheConstants.{HEADER_LINE}
use Rattle.sim_read.specs.declared.records.Record.{Record}
use Rattle.sim_read.specs.declared.records.Record.TheVariants.{Transistor, Alias, Attributes, Capacitance, Passed}
use Rattle.sim_read.specs.declared.items.Setting.{Setting}
use Rattle.sim_read.specs.declared.items.Setting.TheVariants.{Unset, Input, Size}
use Rattle.sim_read.specs.Records.{record_of}
use Rattle.sim_read.specs.Items.{strength_of, setting_of}
use Rattle.sim_read.specs.Header.{comment_words, is_header, is_second, thresholds_of}

-- the cause of a line's refusal, by that of its edit
abbrev pub edit_cause : MakingFault → NetWhat
edit_cause MakingFault.BadStrength = BadStrength
edit_cause MakingFault.AliasTaken = AliasTaken
edit_cause MakingFault.TooManyNodes = TooManyNodes
edit_cause MakingFault.TooManySwitches = TooManySwitches

-- the circuit that an edit makes, or the cause of its refusal
abbrev pub edited : Option MakingFault → CircuitData → Result CircuitData NetWhat
edited None made = Ok made
edited (Some fault) made = Err (edit_cause fault)

-- a transistor between these names, of this strength if that is one
abbrev pub transistor_meaning : CircuitData → SwitchKind → List ℕ → List ℕ → List ℕ → Option ℕ → Result CircuitData NetWhat
transistor_meaning c kind gate source drain None = Err BadStrength
transistor_meaning c kind gate source drain (Some strength) =
    edited (add_fault c strength gate source drain) (with_transistor c kind strength gate source drain)

-- one node with both names
abbrev pub alias_meaning : CircuitData → List ℕ → List ℕ → Result CircuitData NetWhat
alias_meaning c first second = edited (alias_fault c first second) (with_alias c first second)

-- the circuit with what is set at a node
abbrev pub with_setting : CircuitData → ℕ → Setting → CircuitData
with_setting c node Unset = c
with_setting c node Input = with_input c node
with_setting c node (Size size) = with_store c node size

-- the node of a name, made if it is new, and what is set at it, where all sizes are accepted
abbrev pub attributes_meaning : CircuitData → List ℕ → Option Setting → Result CircuitData NetWhat
attributes_meaning c name None = Err BadSize
attributes_meaning c name (Some setting) =
    edited (node_fault c name) (with_setting (with_node c name) (node_named (with_node c name) name) setting)

-- the name is a rail's, by a spelling or by an alias
abbrev pub is_rail : CircuitData → List ℕ → Bool
is_rail c name = option_map_or (λ node. nat_lt node RAILS) (node_of c.names name) false

-- a record, by the words after its first one: its effect on the circuit. Attributes of a rail are passed
abbrev pub record_meaning : CircuitData → Record → List (List ℕ) → Result CircuitData NetWhat
record_meaning c (Transistor kind) (gate ∷ source ∷ drain ∷ words) =
    transistor_meaning c kind gate source drain (strength_of c.profile (usual_strength kind) words)
record_meaning c (Transistor kind) (gate ∷ source ∷ []) = Err FewWords
record_meaning c (Transistor kind) (gate ∷ []) = Err FewWords
record_meaning c (Transistor kind) [] = Err FewWords
record_meaning c Alias (first ∷ second ∷ words) = alias_meaning c first second
record_meaning c Alias (first ∷ []) = Err FewWords
record_meaning c Alias [] = Err FewWords
record_meaning c Attributes (name ∷ words) =
    if is_rail c name then Ok c else attributes_meaning c name (setting_of c.profile words)
record_meaning c Attributes [] = Err FewWords
record_meaning c Capacitance words = Ok c
record_meaning c Passed words = Ok c

-- the node, if something is set at it
abbrev pub set_at : ℕ → Option Setting → Option ℕ
set_at node None = None
set_at node (Some Unset) = None
set_at node (Some Input) = Some node
set_at node (Some (Size size)) = Some node

-- the node at which a line of attributes sets something, by the words after its first one, if it sets something at one
abbrev pub node_set : CircuitData → List (List ℕ) → Option ℕ
node_set c [] = None
node_set c (name ∷ words) =
    if is_rail c name then None else set_at (node_named (with_node c name) name) (setting_of c.profile words)

-- what was added to names after a line of capacitance with these words behind its first: in profile 1 it is passed
abbrev pub with_capacitance : Profile → NameSums → List (List ℕ) → NameSums
with_capacitance One sums words = sums
with_capacitance Two sums words = with_line sums words

-- the draft after a record that gives this circuit
abbrev pub with_record : DraftData → Record → List (List ℕ) → CircuitData → DraftData
with_record d (Transistor kind) words circuit = record d { circuit = circuit }
with_record d Alias words circuit = record d { circuit = circuit }
with_record d Attributes words circuit = record d { circuit = circuit; marks = with_mark d.marks (node_set d.circuit words) }
with_record d Capacitance words circuit = record d { circuit = circuit; sums = with_capacitance d.circuit.profile d.sums words }
with_record d Passed words circuit = record d { circuit = circuit }

-- the draft after a record, or the cause of its refusal
abbrev pub drafted : DraftData → Record → List (List ℕ) → Result CircuitData NetWhat → Result DraftData NetWhat
drafted d begun words (Ok circuit) = Ok (with_record d begun words circuit)
drafted d begun words (Err what) = Err what

-- a record, where the first word begins one
abbrev pub known_meaning : DraftData → Option Record → List (List ℕ) → Result DraftData NetWhat
known_meaning d None words = Err BadRecord
known_meaning d (Some begun) words = drafted d begun words (record_meaning d.circuit begun words)

-- the words of a line; a line without words has no entry
abbrev pub words_meaning : DraftData → List (List ℕ) → Result DraftData NetWhat
words_meaning d [] = Ok d
words_meaning d (word ∷ words) = known_meaning d (record_of word) words

-- the draft in profile 2 with these thresholds, if they are some: the rails alone, since no line comes before
abbrev pub second_meaning : DraftData → Option (List ℕ) → Result DraftData NetWhat
second_meaning d None = Err BadCaps
second_meaning d (Some thresholds) = Ok (record d { circuit = rails_alone Two; thresholds = thresholds })

-- the words of a header, whose format is known: if one is `profile:2`, it says the profile and the thresholds
abbrev pub header_meaning : DraftData → List (List ℕ) → Result DraftData NetWhat
header_meaning d words = if is_second words then second_meaning d (thresholds_of words) else Ok d

-- a comment; on the first line it is the header
abbrev pub comment_meaning : DraftData → (ℕ × List ℕ) → Result DraftData NetWhat
comment_meaning d line =
    if line.0 == HEADER_LINE then (if is_header line.1 then header_meaning d (comment_words line.1) else Err Format) else Ok d

-- a line, by its fault as a line of any text
abbrev pub checked_meaning : DraftData → (ℕ × List ℕ) → Option LineFault → Result DraftData NetWhat
checked_meaning d line (Some of_line.TooLong) = Err LineTooLong
checked_meaning d line (Some of_line.BadByte) = Err BadByte
checked_meaning d line None = if is_comment line.1 then comment_meaning d line else words_meaning d (words_of line.1)

-- a line after a draft: the draft after it, or the cause of its refusal. The cases stand in the order in which one cause wins over
-- another; first comes that the line holds the first byte too many of the text
abbrev pub line_meaning : Option ℕ → DraftData → (ℕ × List ℕ) → Result DraftData NetWhat
line_meaning cut d line = if is_cut cut line.0 then Err TooLong else checked_meaning d line (line_fault line.1)

-- the draft that the lines give, one after the other, or the refusal of the first that has one
abbrev pub lines_meaning : Option ℕ → DraftData → List (ℕ × List ℕ) → Result DraftData NetRefusal
lines_meaning cut d [] = Ok d
lines_meaning cut d (line ∷ lines) =
    elim (line_meaning cut d line) [ Err what ↦ Err (record { line = line.0; what = what }) | Ok next ↦ lines_meaning cut next lines ]

-- the meaning of a netlist: the circuit of what its lines give from the rails alone, of which a header makes those of its profile
abbrev pub netlist_of : List ℕ → Result CircuitData NetRefusal
netlist_of text = circuit_of (lines_meaning (cut_line text) rails_draft (lines_in text))
