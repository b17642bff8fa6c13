-- What a writer of a dump has told, and what one call more does to it.
use Rattle.std.specs.Prelude.{◌≡◌, ℕ, ◌<◌, ◌+◌, ◌-◌, ◌⊎◌, Bool, true, false, List, [], ◌∷◌, ◌++◌, length, take, All, Option, None, Some, unwrap_or, if◌then◌else◌}
use Rattle.ternary.specs.declared.tern.Tern.{Tern}
use Rattle.told_lines.specs.Lines.{Line, Wave, Refused, Told, line_text}
use Rattle.settling.specs.Passing.{last_state}
use Rattle.settling.specs.Passes.{see_pass}
use Rattle.wave_dump.specs.Comments.{comment}
use Rattle.wave_dump.specs.Dumps.{Page, empty_page, later, change_text, opening, closing}
use Rattle.wave_dump.specs.Entries.{ShownEntry, entries_of, shown_of}
use Rattle.wave_dump.specs.Pens.{SinkSeen}
use Rattle.wave_dump.specs.Scenes.{EntryData, Scene, Wrote, Watched, Became, Passed}
use Rattle.wave_dump.specs.Values.{values_in, change_lines}

-- what was seen of the sink as it was given; the page; the time at which the last step or phase began, and whether it isn't over yet; the line
-- of a refusal that was heard; and the text that is due so far
pub record Sheet : Type 0 where
  pub before : SinkSeen
  pub page : Page
  pub start : ℕ
  pub is_open : Bool
  pub refused : Option (List ℕ)
  pub due : List ℕ

-- the sheet before anything was told
abbrev pub first_sheet : SinkSeen → Sheet
first_sheet before = record { before = before; page = empty_page; start = 0; is_open = false; refused = None; due = [] }

-- a text more is due
abbrev pub with_text : Sheet → List ℕ → Sheet
with_text sheet text = record sheet { due = sheet.due ++ text }

-- a line without the LF at its end
abbrev pub without_end : List ℕ → List ℕ
without_end line = take (length line - 1) line

-- one line more is heard: a waveform line isn't in the dump, that of a refusal is kept for the end, and any other is a comment
abbrev pub hear_line : Sheet → Line → Sheet
hear_line sheet (Wave n k mark values) = sheet
hear_line sheet (Refused place code name count) = record sheet { refused = Some (without_end (line_text (Refused place code name count))) }
hear_line sheet line = with_text sheet (comment (without_end (line_text line)))

-- the same of a line of any column
abbrev pub hear : Sheet → Told → Sheet
hear sheet told = hear_line sheet told.line

-- a line to which a fault was answered: it was heard, whether or not it was written; or memory to keep it was refused
abbrev pub HearsPart : Sheet → Told → Sheet → Type 0
HearsPart old told new = (new ≡ hear old told) ⊎ (new ≡ old)

-- one word more is watched
abbrev pub watch : Sheet → EntryData → Sheet
watch sheet entry = record sheet { page = record sheet.page { entries = sheet.page.entries ++ entry ∷ [] } }

-- what is due in this state before a step or a phase is told
abbrev pub open_in : Sheet → List Tern → Sheet
open_in sheet state =
    let now = values_in state sheet.page.entries in
    with_text (record sheet { page = record sheet.page { shown = Some now } }) (opening sheet.page sheet.page.shown now)

-- a step or a phase begins in this state
abbrev pub begin : Sheet → List Tern → Sheet
begin sheet state = open_in (record sheet { start = sheet.page.time; is_open = true }) state

-- the values in this state are told if they changed, behind the line of the time unless that is told already
abbrev pub with_changes : Sheet → Bool → List Tern → Sheet
with_changes sheet is_told state =
    let now = values_in state sheet.page.entries in
    with_text (record sheet { page = record sheet.page { shown = Some now } })
    (change_text is_told sheet.page.time (change_lines 0 (unwrap_or sheet.page.shown []) now))

-- a step or a phase passes through one state more: what changed is told at the next time
abbrev pub pass : Sheet → List Tern → Sheet
pass sheet state = with_changes (record sheet { page = record sheet.page { time = later sheet.page.time 1 } }) false state

-- one state more is seen, which tells nothing between steps
abbrev pub see_state : Sheet → List Tern → Sheet
see_state sheet state = if sheet.is_open then pass sheet state else sheet

-- a step or a phase is over, and had so many steps: the time is one more than these behind its beginning
abbrev pub rest : Sheet → ℕ → Sheet
rest sheet steps = record sheet { is_open = false; page = record sheet.page { time = later sheet.start (steps + 1) } }

-- the line of a refusal, if there is one
abbrev pub refusal_lines : Option (List ℕ) → List ℕ
refusal_lines None = []
refusal_lines (Some refusal) = comment refusal

-- all that is due if the run ends in this state
abbrev pub finished : Sheet → List Tern → List ℕ
finished sheet state = sheet.due ++ closing sheet.page state sheet.refused

-- a state of a run, and what was told of the run so far
pub record Telling : Type 0 where
  pub state : List Tern
  pub sheet : Sheet

-- one scene more is told
abbrev pub tell : Telling → Scene → Telling
tell telling (Wrote line) = record telling { sheet = with_text telling.sheet (comment line) }
tell telling (Watched entry) = record telling { sheet = watch telling.sheet entry }
tell telling (Became state) = record telling { state = state }
tell telling (Passed steps states) = record {
  state = last_state telling.state states;
  sheet = see_pass begin see_state rest telling.sheet (record { before = telling.state; states = states; steps = steps });
}

-- scenes, one after the other
abbrev pub tell_all : Telling → List Scene → Telling
tell_all telling [] = telling
tell_all telling (scene ∷ scenes) = tell_all (tell telling scene) scenes

-- a state is known: each node of an entry is there, and during a step or a phase the values that were told last are those in it
pub record Shows (sheet : Sheet) (state : List Tern) : Type 0 where
  pub inside : All (λ (entry : EntryData). All (λ node. node < length state) entry.nodes) sheet.page.entries
  pub shown : sheet.is_open ≡ true → sheet.page.shown ≡ Some (values_in state sheet.page.entries)

-- a writer of a dump: what it has told, how much room it has for a line, and how often it answered a fault, and refused memory
pub record DumpData : Type 0 where
  pub sheet : Sheet
  pub room : ℕ
  pub faults : ℕ
  pub refusals : ℕ

-- the page of entries as they are held, at this time; whether the header was written
abbrev pub page_held : Bool → ℕ → List ShownEntry → Page
page_held is_begun time held = record { entries = entries_of held; time = time; shown = if is_begun then Some (shown_of held) else None }
