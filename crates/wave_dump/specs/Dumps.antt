-- A value change dump, as a text of what a run does.
-- IEEE Standard 1364, section 18.
use Rattle.std.specs.Prelude.{ℕ, ◌+◌, ◌-◌, ◌^◌, min, Bool, true, false, List, [], ◌∷◌, ◌++◌, length, Option, None, Some, codes, decimal}
use Rattle.ternary.specs.declared.tern.Tern.{Tern}
use Rattle.settling.specs.Passing.{last_state}
use Rattle.wave_dump.specs.Codes.{code_of}
use Rattle.wave_dump.specs.Comments.{escaped, comment}
use Rattle.wave_dump.specs.Scenes.{EntryData, Scene, Wrote, Watched, Became, Passed}
use Rattle.wave_dump.specs.Values.{values_in, value_lines, change_lines}

-- the line of a time: `#<time>`
abbrev pub time_line : ℕ → List ℕ
time_line time = codes "#" ++ decimal time ++ codes "\n"

-- a time and the lines behind it, and nothing if there are none
abbrev pub at_time : ℕ → List ℕ → List ℕ
at_time time [] = []
at_time time (byte ∷ lines) = time_line time ++ byte ∷ lines

-- the line of the time, unless it is told already
abbrev pub time_due : Bool → ℕ → List ℕ
time_due true time = []
time_due false time = time_line time

-- lines of changes, behind the line of the time unless that is told already
abbrev pub change_text : Bool → ℕ → List ℕ → List ℕ
change_text true time lines = lines
change_text false time lines = at_time time lines

-- the greatest time, at which it stays
abbrev pub last_time : ℕ
last_time = 2 ^ 64 - 1

-- the time so many unit steps later
abbrev pub later : ℕ → ℕ → ℕ
later time steps = min last_time (time + steps)

-- the line of an entry with this number: `$var wire <width> <code> <name> $end`
abbrev pub entry_line : ℕ → EntryData → List ℕ
entry_line number entry =
    codes "$var wire " ++ decimal (length entry.nodes) ++ codes " " ++ code_of number ++ codes " " ++ escaped entry.name ++ codes " $end\n"

-- the lines of entries, from this number on
abbrev pub entry_lines : ℕ → List EntryData → List ℕ
entry_lines number [] = []
entry_lines number (entry ∷ entries) = entry_line number entry ++ entry_lines (number + 1) entries

-- the first lines of a dump
abbrev pub first_lines : List ℕ
first_lines = codes "$version Cosmos $end\n$timescale 1 ns $end\n$scope module net $end\n"

-- what stands between the entries and their first values
abbrev pub middle_lines : List ℕ
middle_lines = codes "$upscope $end\n$enddefinitions $end\n#0\n$dumpvars\n"

-- what ends the first values
abbrev pub last_line : List ℕ
last_line = codes "$end\n"

-- the header, and the values of all entries at the time 0
abbrev pub header : List EntryData → List (List Tern) → List ℕ
header entries values =
    first_lines ++ entry_lines 0 entries ++ middle_lines ++ value_lines 0 values ++ last_line

-- what a dump has told so far: its entries, the time, and the values that were written last, if the header was
pub record Page : Type 0 where
  pub entries : List EntryData
  pub time : ℕ
  pub shown : Option (List (List Tern))

-- the page before anything was told
abbrev pub empty_page : Page
empty_page = record { entries = []; time = 0; shown = None }

-- what is written of these values before a step or a phase: the header if there is none yet; else, at the time itself, what differs
-- from the values that were written last
abbrev pub opening : Page → Option (List (List Tern)) → List (List Tern) → List ℕ
opening page None now = header page.entries now
opening page (Some shown) now = at_time page.time (change_lines 0 shown now)

-- the changes of the states that are passed through, the first of them at this time
abbrev pub passing_lines : List EntryData → ℕ → List (List Tern) → List (List Tern) → List ℕ
passing_lines entries time shown [] = []
passing_lines entries time shown (state ∷ states) =
    at_time time (change_lines 0 shown (values_in state entries)) ++ passing_lines entries (later time 1) (values_in state entries) states

-- what a step or a phase from this state writes: what is due before it, and the changes of the states that it passes through, from the next
-- time on
abbrev pub moving : Page → List Tern → List (List Tern) → List ℕ
moving page state states =
    opening page page.shown (values_in state page.entries)
    ++ passing_lines page.entries (later page.time 1) (values_in state page.entries) states

-- the page behind a step or a phase of so many steps: its time is one more than these
abbrev pub page_behind : Page → List Tern → ℕ → List (List Tern) → Page
page_behind page state steps states = record page {
  time = later page.time (steps + 1);
  shown = Some (values_in (last_state state states) page.entries);
}

-- what the end in this state writes: the header if there is none yet; else the time, also if nothing changed, and what differs from the
-- values that were written last
abbrev pub ending : Page → Option (List (List Tern)) → List Tern → List ℕ
ending page None state = header page.entries (values_in state page.entries)
ending page (Some shown) state = time_line page.time ++ change_lines 0 shown (values_in state page.entries)

-- and behind it the line of the refusal that ended the run, if one did
abbrev pub closing : Page → List Tern → Option (List ℕ) → List ℕ
closing page state None = ending page page.shown state
closing page state (Some refusal) = ending page page.shown state ++ comment refusal

-- the dump of a run from a page and a state on, and of the refusal that ended it, if one did
abbrev pub dump_from : Page → List Tern → List Scene → Option (List ℕ) → List ℕ
dump_from page state [] refused = closing page state refused
dump_from page state (Wrote line ∷ scenes) refused = comment line ++ dump_from page state scenes refused
dump_from page state (Watched entry ∷ scenes) refused = dump_from (record page { entries = page.entries ++ entry ∷ [] }) state scenes refused
dump_from page state (Became new ∷ scenes) refused = dump_from page new scenes refused
dump_from page state (Passed steps states ∷ scenes) refused =
    moving page state states ++ dump_from (page_behind page state steps states) (last_state state states) scenes refused

-- the dump of a run from its first state
abbrev pub dump_of : List Tern → List Scene → Option (List ℕ) → List ℕ
dump_of state scenes refused = dump_from empty_page state scenes refused
