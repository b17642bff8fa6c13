-- A session in columns: each column is the session of a plain script, and is given its letters of each command.
-- The definitions are over any data of the columns, by their numbers: a command is performed in all columns if in each the column's command is
-- performed, by the definitions of plain scripts.
use Rattle.std.specs.Prelude.{◌≡◌, ℕ, ◌<◌, ◌≤◌, ◌⊎◌, List, [], ◌∷◌, ◌++◌, length, map, true, false, is_some, slice_index_or, Option, Result, Ok, Err}
use Rattle.ternary.specs.declared.tern.Tern.{Tern}
use Rattle.switch_paths.specs.Graphs.{GraphData}
use Rattle.settling.specs.declared.settling.Settled.{Settled}
use Rattle.group_text.specs.Texts.{GroupTextData}
use Rattle.netlist.specs.Circuits.{CircuitData}
use Rattle.netlist.specs.Edits.{node_named}
use Rattle.netlist.specs.Names.{node_of}
use Rattle.switch_paths.specs.declared.TheConstants.{RAILS}
use Rattle.column_stage.specs.Acts.{Act, Built, Placed, Rested, Stepped, Leads}
use Rattle.told_lines.specs.Lines.{Line, Told, Wave}
use Rattle.told_lines.specs.Hearing.{hear_all, HearsPart, row_of}
use Rattle.script_lang.specs.declared.command.Command.TheVariants as family
use Rattle.script_lang.specs.declared.command.Run.{Run}
use Rattle.script_lang.specs.declared.command.Run.TheVariants.{Step, Phase, Cycle, Report}
use Rattle.column_script.specs.declared.command.ColumnCommand.{ColumnCommand}
use Rattle.column_script.specs.declared.command.ColumnCommand.TheVariants.{Values, Shared}
use Rattle.column_script.specs.Commands.{in_column}
use Rattle.session_meaning.specs.declared.fault.ApplyFault.{ApplyFault}
use Rattle.session_meaning.specs.Sessions.{SessionData, HeldSession, ClockData, places_of}
use Rattle.session_meaning.specs.Effects.{AreBeats, RunEffect, places_in, wave_by, with_beat}
use Rattle.session_meaning.specs.Outcomes.{Performs, DoesPart, FrontDone, Refuses, RefusesSize, Quietly, Outcome}
use Rattle.session_meaning.specs.Stages.{IsSettled, IsStageAfter, IsStill, IsUnitStepDone, acts_of_clocks}

-- a column of a session: what all share, and the column's states
abbrev pub column_of : {M : Type 0} → (M → ℕ → List Tern) → HeldSession M → ℕ → SessionData
column_of states session column = record session.core { state = states session.stage column }

-- ---- rows

-- the lines of columns are told row by row: the first line of each column, in order, then the second of each, and so on. So each column has as
-- many
pub data AreRows (columns : ℕ) : (ℕ → List Line) → List Told → Type 0 where
  no_row : (lines : ℕ → List Line) → ((column : ℕ) → column < columns → lines column ≡ []) → AreRows columns lines []
  one_more : (lines others : ℕ → List Line) (line : ℕ → Line) (told : List Told) →
      ((column : ℕ) → column < columns → lines column ≡ line column ∷ others column) → AreRows columns others told →
      AreRows columns lines (row_of (λ column. line column ∷ []) columns ++ told)

-- ---- commands

-- in each column the column's command is performed, for which the same texts are analysed in all; row by row their lines are told
pub record PerformsInAll (columns : ℕ) (old : ℕ → SessionData) (command : ColumnCommand) (new : ℕ → SessionData) (told : List Told)
    (texts : List GroupTextData) : Type 0 where
  pub lines : ℕ → List Line
  pub each : (column : ℕ) → column < columns → Performs (old column) (in_column column command) (new column) (lines column) texts
  pub rows : AreRows columns lines told

-- the command has its effect in each column, the rows of their lines were heard, and the analyst's list grew by the texts that it analysed
pub record AcceptsInAll {H : Type 0} (hear : H → Told → H) (columns : ℕ) (old : ℕ → SessionData) (command : ColumnCommand) (new : ℕ → SessionData)
    (before after : H) (asked known : List GroupTextData) : Type 0 where
  pub told : List Told
  pub texts : List GroupTextData
  pub performs : PerformsInAll columns old command new told texts
  pub heard : after ≡ hear_all hear before told
  pub analysed : known ≡ asked ++ texts

-- the command isn't refused; of the rows of the columns' lines a part was heard, from the start, and a whole part of it was done in each column
pub record BeginsInAll {H : Type 0} (hear : H → Told → H) (part : H → Told → H → Type 0) (columns : ℕ) (old : ℕ → SessionData)
    (command : ColumnCommand)
    (new : ℕ → SessionData) (before after : H) (asked known : List GroupTextData) : Type 0 where
  pub end : ℕ → SessionData
  pub told : List Told
  pub texts : List GroupTextData
  pub performs : PerformsInAll columns old command end told texts
  pub heard : HearsPart hear part before after told
  pub done : (column : ℕ) → (inside : column < columns) → DoesPart (performs.each column inside).mid (in_column column command) (new column)
  pub analysed : known ≡ asked ++ texts

-- a build's want of memory, as a stage says it: by the groups that are accepted, the graph, the bound, what was kept and what is, and what was
-- analysed before and since
abbrev pub Cuts : Type 1
Cuts = ℕ → GraphData → Option ℕ → List GroupTextData → List GroupTextData → List GroupTextData → List GroupTextData → Type 0

-- a column is as before, and nothing was heard; what is kept may be what a build left that ran out of memory
pub record StaysBy {H : Type 0} (cuts : Cuts) (old new : SessionData) (before after : H) (asked known : List GroupTextData) : Type 0 where
  pub core : new ≡ record old { kept = new.kept }
  pub cut_off : ((new.kept ≡ old.kept) × (known ≡ asked)) ⊎ cuts old.large old.circuit.graph old.bound old.kept new.kept asked known
  pub unheard : after ≡ before

-- what a command comes to in columns: where it is refused, it is refused so in each, and where the command itself wants memory, each is as before
-- but for what is kept
abbrev pub ObeysInAll : {H : Type 0} → Cuts → (H → Told → H) → (H → Told → H → Type 0) → ℕ → (ℕ → SessionData) → ColumnCommand → (ℕ → SessionData) → H → H →
    List GroupTextData → List GroupTextData → ℕ → ℕ → Result (Unit {0}) ApplyFault → Type 0
ObeysInAll cuts hear part columns old command new before after asked known refusals now result =
    Outcome (AcceptsInAll hear columns old command new before after asked known)
    (λ refusal. (column : ℕ) → column < columns → Refuses (old column) (in_column column command) (new column) before after asked known refusal)
    (λ fault. (column : ℕ) → column < columns → RefusesSize (old column) (in_column column command) (new column) before after asked known fault)
    ((column : ℕ) → column < columns → StaysBy cuts (old column) (new column) before after asked known)
    (BeginsInAll hear part columns old command new before after asked known) refusals now result

-- inside the session: what a command that tells nothing comes to in columns
abbrev pub QuietlyInAll : ℕ → (ℕ → SessionData) → ColumnCommand → (ℕ → SessionData) → Result (Unit {0}) ApplyFault → Type 0
QuietlyInAll columns old command new result = (column : ℕ) → column < columns → Quietly (old column) (in_column column command) (new column) result

-- ---- letters

-- the acts that give the nodes of these names their letters, from left to right
abbrev pub acts_of_letters : CircuitData → List (List ℕ × List Tern) → List Act
acts_of_letters c list = map (λ item. Placed c.graph (node_named c item.0) item.1) list

-- the states that a column's letters give nodes, in order
abbrev pub given_states : CircuitData → List (List ℕ × Tern) → List (ℕ × Tern)
given_states c list = map (λ item. (node_named c item.0, item.1)) list

-- a name is in use, and no rail's
abbrev pub NamesFree : CircuitData → List ℕ → Type 0
NamesFree c name = (is_some (node_of c.names name) ≡ true) × (RAILS ≤ node_named c name)

-- ---- steps

-- a column's waveform line after a step or a phase that all columns took, by its count among these
abbrev pub wave_in : (ℕ → SessionData) → (ℕ → Settled) → ℕ → Line
wave_in sessions count column = wave_by (sessions column) (count column).steps (count column).joined

-- a column's count of steps, and its mark
abbrev pub count_in : List Settled → ℕ → Settled
count_in counts column = slice_index_or counts column (record { steps = 0; joined = false })

-- the row of them
abbrev pub waves_of : ℕ → (ℕ → SessionData) → (ℕ → Settled) → List Told
waves_of columns sessions count = row_of (λ column. wave_in sessions count column ∷ []) columns

-- all columns took a unit step, or settled with these counts: what they share is as before, and a line more is counted
pub record StepInAll (columns : ℕ) (old new : ℕ → SessionData) : Type 0 where
  pub each : (column : ℕ) → column < columns → IsUnitStepDone (old column) (new column)

pub record SettledInAll (columns : ℕ) (old new : ℕ → SessionData) (count : ℕ → Settled) : Type 0 where
  pub each : (column : ℕ) → column < columns → IsSettled (old column) (new column) (count column).steps (count column).joined

-- clocks' nodes were given their states at a place in each column
pub record BeatInAll (columns : ℕ) (old new : ℕ → SessionData) (place : ℕ) : Type 0 where
  pub each : (column : ℕ) → column < columns → new column ≡ with_beat (old column) place

-- ---- acts of phases

-- these lines are one waveform line, which tells this count
pub record TellsCount (count : Settled) (lines : List Line) : Type 0 where
  pub n : ℕ
  pub values : List Tern
  pub line : lines ≡ Wave n count.steps count.joined values ∷ []

-- the act of a phase, whose waveform lines tell its counts
pub record RestsInAll (columns : ℕ) (g : GraphData) (limit : ℕ) (lines : ℕ → List Line) (act : Act) : Type 0 where
  pub counts : List Settled
  pub counted : length counts ≡ columns
  pub each : (column : ℕ) → column < columns → TellsCount (count_in counts column) (lines column)
  pub is : act ≡ Rested g limit counts

-- the acts of phases with these lines, at these places of the clocks: at each place the clocks' nodes are given their states, and the stage settles
abbrev pub AreBeatActsInAll : ℕ → GraphData → ℕ → List ClockData → List ℕ → (ℕ → List Line) → List Act → Type 0
AreBeatActsInAll columns g limit clocks [] lines acts = ((column : ℕ) → column < columns → lines column ≡ []) × (acts ≡ [])
AreBeatActsInAll columns g limit clocks (place ∷ places) lines acts =
    (front : ℕ → List Line) × (back : ℕ → List Line) × (act : Act) × (more : List Act) × RestsInAll columns g limit front act ×
    AreBeatActsInAll columns g limit clocks places back more × ((column : ℕ) → column < columns → lines column ≡ front column ++ back column) ×
    (acts ≡ acts_of_clocks g clocks place ++ act ∷ more)

-- the acts behind the build of a command, with its lines
abbrev pub AreRunActsInAll : ℕ → SessionData → Run → (ℕ → List Line) → List Act → Type 0
AreRunActsInAll columns mid Step lines acts = acts ≡ Stepped mid.circuit.graph ∷ []
AreRunActsInAll columns mid Phase lines acts = (act : Act) × RestsInAll columns mid.circuit.graph mid.limit lines act × (acts ≡ act ∷ [])
AreRunActsInAll columns mid (Cycle times) lines acts =
    AreBeatActsInAll columns mid.circuit.graph mid.limit mid.clocks (places_in (places_of mid.clocks) times) lines acts
AreRunActsInAll columns mid Report lines acts = acts ≡ []

-- ---- what is done in all columns

-- in each column this was done, with lines whose rows were heard, and by acts of this sort
pub record DoesInAll {H M : Type 0} (hear : H → Told → H) (columns : M → ℕ) (states : M → ℕ → List Tern) (did : Act → M → M → Type 0)
    (Done : SessionData → SessionData → List Line → Type 0) (Acts : (ℕ → List Line) → List Act → Type 0) (old new : HeldSession M) (before after : H) : Type 0 where
  pub lines : ℕ → List Line
  pub each : (column : ℕ) → column < columns old.stage → Done (column_of states old column) (column_of states new column) (lines column)
  pub told : List Told
  pub rows : AreRows (columns old.stage) lines told
  pub heard : after ≡ hear_all hear before told
  pub acts : List Act
  pub are : Acts lines acts
  pub leads : Leads did old.stage acts new.stage

-- a whole part of it was done in each column, and of the rows of all of it a part was heard, from the start
pub record DoesInPart {H M : Type 0} (hear : H → Told → H) (part : H → Told → H → Type 0) (columns : M → ℕ) (states : M → ℕ → List Tern)
    (Done : SessionData → SessionData → List Line → Type 0) (Part : SessionData → SessionData → Type 0) (old new : HeldSession M) (before after : H) : Type 0 where
  pub end : ℕ → SessionData
  pub lines : ℕ → List Line
  pub each : (column : ℕ) → column < columns old.stage → Done (column_of states old column) (end column) (lines column)
  pub told : List Told
  pub rows : AreRows (columns old.stage) lines told
  pub heard : HearsPart hear part before after told
  pub done : (column : ℕ) → column < columns old.stage → Part (column_of states old column) (column_of states new column)

-- the effect of a command behind its build was done in each column, or a whole part of it and a part of the rows
abbrev pub MovesInAll : {H M : Type 0} → (H → Told → H) → (H → Told → H → Type 0) → (M → ℕ) → (M → ℕ → List Tern) → (Act → M → M → Type 0) → Run →
    HeldSession M → HeldSession M → H → H → Result (Unit {0}) ApplyFault → Type 0
MovesInAll hear part columns states did run old new before after (Ok _) =
    DoesInAll hear columns states did (λ core next lines. RunEffect core run next lines) (AreRunActsInAll (columns old.stage) old.core run) old new before after
MovesInAll hear part columns states did run old new before after (Err fault) =
    DoesInPart hear part columns states (λ core next lines. RunEffect core run next lines) (λ core next. DoesPart core (family.Run run) next) old new before after

-- in each column phases at these places were done, and their rows heard
abbrev pub BeatsInAll : {H M : Type 0} → (H → Told → H) → (M → ℕ) → (M → ℕ → List Tern) → (Act → M → M → Type 0) → List ℕ → HeldSession M → HeldSession M →
    H → H → Type 0
BeatsInAll hear columns states did places old new before after =
    DoesInAll hear columns states did (λ core next lines. AreBeats core places next lines)
    (AreBeatActsInAll (columns old.stage) old.core.circuit.graph old.core.limit old.core.clocks places) old new before after

-- or those at a prefix of them, and a part of the rows
abbrev pub BeatsBegunInAll : {H M : Type 0} → (H → Told → H) → (H → Told → H → Type 0) → (M → ℕ) → (M → ℕ → List Tern) → List ℕ → HeldSession M →
    HeldSession M → H → H → Type 0
BeatsBegunInAll hear part columns states places old new before after =
    DoesInPart hear part columns states (λ core next lines. AreBeats core places next lines) (λ core next. FrontDone places core next) old new before after

abbrev pub TakesBeatsInAll : {H M : Type 0} → (H → Told → H) → (H → Told → H → Type 0) → (M → ℕ) → (M → ℕ → List Tern) → (Act → M → M → Type 0) → List ℕ →
    HeldSession M → HeldSession M → H → H → Result (Unit {0}) ApplyFault → Type 0
TakesBeatsInAll hear part columns states did places old new before after (Ok _) = BeatsInAll hear columns states did places old new before after
TakesBeatsInAll hear part columns states did places old new before after (Err fault) = BeatsBegunInAll hear part columns states places old new before after

-- ---- what becomes of the stage

-- the circuit was built, which leaves the states, and then the command had its effect in each column, by its acts
pub record RunsOnInAll {M : Type 0} (columns : M → ℕ) (states : M → ℕ → List Tern) (did : Act → M → M → Type 0) (old : HeldSession M) (run : Run)
    (new : HeldSession M) : Type 0 where
  pub mid : HeldSession M
  pub same : mid.core ≡ record old.core { kept = mid.core.kept; fresh = mid.core.fresh }
  pub count : columns mid.stage ≡ columns old.stage
  pub still : (column : ℕ) → column < columns old.stage → states mid.stage column ≡ states old.stage column
  pub built : did (Built old.core.large old.core.circuit.graph) old.stage mid.stage
  pub lines : ℕ → List Line
  pub each : (column : ℕ) → column < columns mid.stage → RunEffect (column_of states mid column) run (column_of states new column) (lines column)
  pub acts : List Act
  pub are : AreRunActsInAll (columns mid.stage) mid.core run lines acts
  pub leads : Leads did mid.stage acts new.stage

-- what an accepted command for columns does to the stage, by what one act does
abbrev pub IsStageAfterInAll : {M : Type 0} → (M → ℕ) → (M → ℕ → List Tern) → (Act → M → M → Type 0) → HeldSession M → ColumnCommand → HeldSession M → Type 0
IsStageAfterInAll columns states did old (Values kind list) new = Leads did old.stage (acts_of_letters old.core.circuit list) new.stage
IsStageAfterInAll columns states did old (Shared (family.Run run)) new = RunsOnInAll columns states did old run new
IsStageAfterInAll columns states did old (Shared command) new = IsStageAfter did old command new

-- what a command comes to in columns, and what becomes of the stage: where the command is refused, and where it wants memory itself, the stage is as
-- before
abbrev pub ObeysInAllOn : {H M : Type 0} → Cuts → (H → Told → H) → (H → Told → H → Type 0) → (M → ℕ) → (M → ℕ → List Tern) → (Act → M → M → Type 0) →
    HeldSession M → ColumnCommand → HeldSession M → H → H → List GroupTextData → List GroupTextData → ℕ → ℕ → Result (Unit {0}) ApplyFault → Type 0
ObeysInAllOn cuts hear part columns states did old command new before after asked known refusals now result =
    Outcome
    (AcceptsInAll hear (columns old.stage) (column_of states old) command (column_of states new) before after asked known
    × IsStageAfterInAll columns states did old command new)
    (λ refusal. ((column : ℕ) → column < columns old.stage →
    Refuses (column_of states old column) (in_column column command) (column_of states new column) before after asked known refusal) × IsStill did old.stage new.stage)
    (λ fault. ((column : ℕ) → column < columns old.stage →
    RefusesSize (column_of states old column) (in_column column command) (column_of states new column) before after asked known fault) × IsStill did old.stage new.stage)
    (((column : ℕ) → column < columns old.stage → StaysBy cuts (column_of states old column) (column_of states new column) before after asked known)
    × IsStill did old.stage new.stage)
    (BeginsInAll hear part (columns old.stage) (column_of states old) command (column_of states new) before after asked known) refusals now result
