-- What waveform lines tell together, counted line by line; and the same as sums over all lines.
use Rattle.std.specs.Prelude.{ℕ, Bool, true, false, List, sum_by, count_by}
use Rattle.ternary.specs.Counts.{raised}
use Rattle.ternary.specs.declared.tern.Tern.{Tern}
use Rattle.ternary.specs.declared.tern.Tern.TheVariants.{Zero, One, Unk}
use Rattle.printed_lines.specs.declared.lines.Summary.{Summary}
use Rattle.told_lines.specs.Lines.{Line, Wave, Told}

-- both states are the same
abbrev pub is_state : Tern → Tern → Bool
is_state Zero Zero = true
is_state One One = true
is_state Unk Unk = true
is_state left right = false

-- one if there is the mark
abbrev pub mark_count : Bool → ℕ
mark_count true = 1
mark_count false = 0

-- the counts with a waveform line more, by its steps, its mark and its values
abbrev pub with_wave : Summary → ℕ → Bool → List Tern → Summary
with_wave old k mark values = record old {
  lines = raised old.lines 1;
  steps = raised old.steps k;
  marks = raised old.marks (mark_count mark);
  zeros = raised old.zeros (count_by (is_state Zero) values);
  ones = raised old.ones (count_by (is_state One) values);
  unknown = raised old.unknown (count_by (is_state Unk) values);
}

-- with any line more: lines of other kinds count for nothing
abbrev pub with_line : Summary → Line → Summary
with_line old (Wave n k mark values) = with_wave old k mark values
with_line old line = old

-- one line more is counted
abbrev pub counted : Summary → Told → Summary
counted old told = with_line old told.line

-- how many waveform lines a line is
abbrev pub waves_of : Line → ℕ
waves_of (Wave n k mark values) = 1
waves_of line = 0

-- how many steps changed something, by a line
abbrev pub steps_of : Line → ℕ
steps_of (Wave n k mark values) = k
steps_of line = 0

-- how many marks a line has
abbrev pub marks_of : Line → ℕ
marks_of (Wave n k mark values) = mark_count mark
marks_of line = 0

-- how many of a waveform line's values are this state
abbrev pub values_of : Tern → Line → ℕ
values_of state (Wave n k mark values) = count_by (is_state state) values
values_of state line = 0

-- the sum of a number over lines; it stays at the last value of its type once it is there
abbrev pub total : (Line → ℕ) → List Line → ℕ
total number lines = raised 0 (sum_by number lines)

-- the summary of lines in a circuit with so many nodes and transistors
abbrev pub summary_of : ℕ → ℕ → List Line → Summary
summary_of nodes switches lines = record {
  nodes = nodes;
  switches = switches;
  lines = total waves_of lines;
  steps = total steps_of lines;
  marks = total marks_of lines;
  zeros = total (values_of Zero) lines;
  ones = total (values_of One) lines;
  unknown = total (values_of Unk) lines;
}
