-- The lines that are told while a script runs, as values, and their texts.
use Rattle.std.specs.Prelude.{ℕ, ◌+◌, ◌≤◌, Bool, true, false, List, [], ◌∷◌, ◌++◌, length, All, Option}
use Rattle.ternary.specs.declared.tern.Tern.{Tern}
use Rattle.printed_lines.specs.declared.faults.FaultPlace.{FaultPlace}
use Rattle.printed_lines.specs.declared.faults.FaultCode.{FaultCode}
use Rattle.printed_lines.specs.declared.faults.TheConstants.{FAULT_LINE_ROOM}
use Rattle.printed_lines.specs.declared.lines.TheConstants.{MOST_VALUES, COLUMN_ROOM, WAVE_LINE_ROOM, EXPECT_LINE_ROOM, SHOW_LINE_ROOM, REPORT_LINE_ROOM}
use Rattle.printed_lines.specs.Lines.{wave_line_of, expect_line_of, show_line_of, report_line_of}
use Rattle.printed_lines.specs.declared.looks.TheConstants.{LOOK_LINE_ROOM}
use Rattle.printed_lines.specs.declared.looks.NodeSort.{NodeSort}
use Rattle.printed_lines.specs.declared.looks.SwitchTold.{SwitchTold}
use Rattle.printed_lines.specs.Faults.{fault_line_of}
use Rattle.printed_lines.specs.Looks.{look_line_of, end_line_of, gate_line_of}
use Rattle.told_lines.specs.declared.lines.Line as code
use Rattle.told_lines.specs.declared.lines.Line.TheVariants as code_is

-- a waveform line: its number, how many steps changed something, whether a joining step did, and the watched nodes' states; the line of an
-- expectation that is not met: the name, for each of its nodes the wanted state, if any is wanted, and the present one, and the number of
-- waveform lines so far; what is shown of a name: the name, and the states of its nodes; what there is at a node that is looked at: its name, its
-- state and what it is; of a transistor with an end there, or of one that it is the gate of, also the names and the states of its gate and its
-- other end, or of its ends; a report's line: how many groups and distinct texts there are, and how many texts were analysed since the last
-- report; or the line of a refusal: its place, its code, and for a group that is too large its name and its size
pub data Line : Type 0 where
  Wave : ℕ → ℕ → Bool → List Tern → Line
  Unmet : List ℕ → List (Option Tern) → List Tern → ℕ → Line
  Shown : List ℕ → List Tern → Line
  Looked : List ℕ → Tern → NodeSort → Line
  AtEnd : SwitchTold → List ℕ → Tern → List ℕ → Tern → Line
  AtGate : SwitchTold → List ℕ → Tern → List ℕ → Tern → Line
  Reported : ℕ → ℕ → ℕ → Line
  Refused : FaultPlace → FaultCode → List ℕ → ℕ → Line

-- a line that is told, of a column
pub record Told : Type 0 where
  pub column : ℕ
  pub line : Line

-- a line of the code, as it is meant here
abbrev pub line_seen : code.Line → Line
line_seen (code_is.Wave n k mark values) = Wave n k mark values.now
line_seen (code_is.Unmet name want got n) = Unmet name.now want.now got.now n
line_seen (code_is.Shown name values) = Shown name.now values.now
line_seen (code_is.Looked name state sort) = Looked name.now state sort
line_seen (code_is.AtEnd switch gate gate_state end end_state) = AtEnd switch gate.now gate_state end.now end_state
line_seen (code_is.AtGate switch source source_state drain drain_state) = AtGate switch source.now source_state drain.now drain_state
line_seen (code_is.Reported groups texts fresh) = Reported groups texts fresh
line_seen (code_is.Refused place code name count) = Refused place code name.now count

-- the text of a line
abbrev pub line_text : Line → List ℕ
line_text (Wave n k mark values) = wave_line_of n k mark values
line_text (Unmet name want got n) = expect_line_of name want got n
line_text (Shown name values) = show_line_of name values
line_text (Looked name state sort) = look_line_of name state sort
line_text (AtEnd switch gate gate_state end end_state) = end_line_of switch gate gate_state end end_state
line_text (AtGate switch source source_state drain drain_state) = gate_line_of switch source source_state drain drain_state
line_text (Reported groups texts fresh) = report_line_of groups texts fresh
line_text (Refused place code name count) = fault_line_of place code name count

-- the text of lines, one after the other
abbrev pub text_of : List Line → List ℕ
text_of [] = []
text_of (line ∷ lines) = line_text line ++ text_of lines

-- how many bytes the line has at most, with a column's number before it
abbrev pub room_of : Line → ℕ
room_of (Wave n k mark values) = COLUMN_ROOM + WAVE_LINE_ROOM
room_of (Unmet name want got n) = COLUMN_ROOM + (EXPECT_LINE_ROOM + (length name + (length want + length got)))
room_of (Shown name values) = COLUMN_ROOM + (SHOW_LINE_ROOM + (length name + length values))
room_of (Looked name state sort) = COLUMN_ROOM + (LOOK_LINE_ROOM + length name)
room_of (AtEnd switch gate gate_state end end_state) = COLUMN_ROOM + (LOOK_LINE_ROOM + (length gate + length end))
room_of (AtGate switch source source_state drain drain_state) = COLUMN_ROOM + (LOOK_LINE_ROOM + (length source + length drain))
room_of (Reported groups texts fresh) = COLUMN_ROOM + REPORT_LINE_ROOM
room_of (Refused place code name count) = COLUMN_ROOM + (FAULT_LINE_ROOM + length name)

-- there is room for each of these lines
abbrev pub AreInRoom : ℕ → List Line → Type 0
AreInRoom room lines = All (λ line. room_of line ≤ room) lines

-- a waveform line has no more values than it may have
abbrev pub IsShort : Line → Type 0
IsShort (Wave n k mark values) = length values ≤ MOST_VALUES
IsShort line = Unit {0}

-- the line is of an expectation that is not met
abbrev pub is_unmet : Line → Bool
is_unmet (Unmet name want got n) = true
is_unmet line = false
