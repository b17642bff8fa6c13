-- The report of a circuit's groups: one line for each, in order of their least nodes.
-- Groups with equal texts share what is made of the text, after Beatty and Bryant, "Fast Incremental Circuit Analysis Using
-- Extracted Hierarchy", 1988.
use Rattle.std.specs.Prelude.{◌≡◌, ℕ, Bool, ◌+◌, ◌&&◌, List, [], ◌∷◌, ◌++◌, length, map, position, is_none, Option, None, option_map, Result, Ok, Err, if◌then◌else◌}
use Rattle.std.specs.Io.KnownBytes.{append_known}
use Rattle.ports.specs.declared.ports.PortFault.{PortFault}
use Rattle.ports.specs.Sending.{WritesPart}
use Rattle.switch_paths.specs.Graphs.{GraphData}
use Rattle.netlist.specs.Circuits.{CircuitData, called}
use Rattle.group_meaning.specs.Groups.{Group, AreGroups}
use Rattle.group_text.specs.Texts.{GroupTextData, size_fault, text_of_group}
use Rattle.group_text.specs.Compared.{same_text}
use Rattle.printed_lines.specs.Lines.{group_line_of}

-- the group isn't too large to have a text
abbrev pub has_text : Group → Bool
has_text group = is_none (size_fault (length group.members) (length group.switches))

-- the group has this text
abbrev pub is_of_text : GraphData → GroupTextData → Group → Bool
is_of_text g text group = has_text group && same_text (text_of_group g group) text

-- the number, from 1, of the first of these groups that has this text
abbrev pub number_of_text : GraphData → List Group → GroupTextData → Option ℕ
number_of_text g groups text = option_map (λ k. k + 1) (position (is_of_text g text) groups)

-- the number, from 1, of the first of these groups with the text of this one, if that has a text
abbrev pub text_number : GraphData → List Group → Group → Option ℕ
text_number g groups group = if has_text group then number_of_text g groups (text_of_group g group) else None

-- the line of a group with this number, and with this number of its text
abbrev pub line_with : CircuitData → ℕ → Option ℕ → Group → List ℕ
line_with c number text group =
    group_line_of number (length group.members) (length group.switches) text (map (called c) group.members)

-- the line of one of these groups, which has this number
abbrev pub line_of : CircuitData → List Group → ℕ → Group → List ℕ
line_of c groups number group = line_with c number (text_number c.graph groups group) group

-- the lines of some of the groups, numbered from this number on
abbrev pub lines_from : CircuitData → List Group → ℕ → List Group → List ℕ
lines_from c groups number [] = []
lines_from c groups number (group ∷ others) = line_of c groups number group ++ lines_from c groups (number + 1) others

-- the lines of all these groups, numbered from 1
abbrev pub lines_of : CircuitData → List Group → List ℕ
lines_of c groups = lines_from c groups 1 groups

-- the report of a circuit: the lines of its groups
pub record IsReport (c : CircuitData) (text : List ℕ) : Type 0 where
  pub groups : List Group
  pub are : AreGroups c.graph groups
  pub lines : text ≡ lines_of c groups

-- the report was written, or a part of it from its start
abbrev pub Reports : CircuitData → Option (List ℕ) → Option (List ℕ) → Result (Unit {0}) PortFault → Type 0
Reports c before after (Ok _) = (text : List ℕ) × IsReport c text × (after ≡ append_known before text)
Reports c before after (Err fault) = (text : List ℕ) × IsReport c text × WritesPart before after text
