-- The lines of a script as they are read once for all runs.
use Rattle.std.specs.Prelude.{◌≡◌, ℕ, List, map}
use Rattle.line_words.specs.Files.{lines_in}
use Rattle.script_lang.specs.Commands.{reading_of}
use Rattle.fault_runs.specs.declared.lines.ReadLine.{ReadLine}

-- a line as it is read: its number, and what it asks for, whatever the circuit and the vectors are
abbrev pub line_read : ℕ × List ℕ → ReadLine
line_read line = record { number = line.0; asked = reading_of line.1 }

-- these are the lines of the script, in order
abbrev pub AreRead : List ℕ → List ReadLine → Type 0
AreRead script read = read ≡ map line_read (lines_in script)

-- some text asks for what was read
abbrev pub WasRead : ReadLine → Type 0
WasRead read = (text : List ℕ) × (reading_of text ≡ read.asked)
