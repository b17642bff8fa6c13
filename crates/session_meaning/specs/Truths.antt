-- A session in columns that may be too many to be counted, over a stage whose moves may run out: what is done in all columns at once, line by line.
-- As in columns that have numbers, the definitions are over any data of the columns, and each column is the session of a plain script.
use Rattle.std.specs.Prelude.{◌≡◌, ℕ, ◌<◌, ◌≤◌, true, List, ◌++◌, map, Result, Ok, Err}
use Rattle.ternary.specs.declared.tern.Tern.{Tern}
use Rattle.settling.specs.declared.settling.Settled.{Settled}
use Rattle.group_text.specs.Texts.{GroupTextData}
use Rattle.circuit_texts.specs.declared.texts.BuildFault.{BuildFault}
use Rattle.circuit_texts.specs.declared.texts.BuildFault.TheVariants as build
use Rattle.circuit_texts.specs.Sizes.{TellsRefused}
use Rattle.script_lang.specs.declared.value.Value.{Value}
use Rattle.script_lang.specs.declared.command.Command.{Command}
use Rattle.script_lang.specs.declared.command.Command.TheVariants as family
use Rattle.script_lang.specs.declared.command.Give.TheVariants as plain
use Rattle.column_script.specs.declared.command.ValueCommand.{ValueCommand}
use Rattle.column_script.specs.declared.command.ValueCommand.TheVariants as value
use Rattle.session_meaning.specs.declared.fault.ApplyFault.{ApplyFault}
use Rattle.session_meaning.specs.declared.fault.ApplyFault.TheVariants.{Refused, GroupNodes, GroupSwitches, WriteFault, NoMemory}
use Rattle.session_meaning.specs.Sessions.{SessionData}
use Rattle.session_meaning.specs.Preparing.{IsBuild}
use Rattle.session_meaning.specs.Effects.{assigned}
use Rattle.session_meaning.specs.Outcomes.{Quietly}
use Rattle.session_meaning.specs.Columns.{Cuts, SettledInAll}

-- in each column the column's own command comes to this, and tells nothing
abbrev pub QuietlyInEach : ℕ → (ℕ → SessionData) → (ℕ → Command) → (ℕ → SessionData) → Result (Unit {0}) ApplyFault → Type 0
QuietlyInEach columns old commands new result = (column : ℕ) → column < columns → Quietly (old column) (commands column) (new column) result

-- ---- builds

-- the circuit was built in each column, for which the same texts are analysed in all
pub record BuiltInAll (columns : ℕ) (old new : ℕ → SessionData) (asked known : List GroupTextData) : Type 0 where
  pub texts : List GroupTextData
  pub each : (column : ℕ) → column < columns → IsBuild (old column) (new column) texts
  pub analysed : known ≡ asked ++ texts

-- the circuit can't be built: the first group that is too large is told, and each column is as before
pub record TooLargeInAll (columns : ℕ) (old new : ℕ → SessionData) (asked known : List GroupTextData) (fault : BuildFault) : Type 0 where
  pub first : (column : ℕ) → column < columns → TellsRefused (old column).large (old column).circuit.graph fault
  pub same : (column : ℕ) → column < columns → new column ≡ old column
  pub unasked : known ≡ asked

-- a build ran out of memory: each column is as before, but for what is kept, as the stage says
pub record CutOffInAll (cuts : Cuts) (columns : ℕ) (old new : ℕ → SessionData) (asked known : List GroupTextData) : Type 0 where
  pub core : (column : ℕ) → column < columns → new column ≡ record (old column) { kept = (new column).kept }
  pub cut_off : (column : ℕ) → column < columns →
      cuts (old column).large (old column).circuit.graph (old column).bound (old column).kept (new column).kept asked known

-- what making all columns ready for unit steps comes to
abbrev pub ReadiesInAll : Cuts → ℕ → (ℕ → SessionData) → (ℕ → SessionData) → List GroupTextData → List GroupTextData → Result (Unit {0}) ApplyFault → Type 0
ReadiesInAll cuts columns old new asked known (Ok _) = BuiltInAll columns old new asked known
ReadiesInAll cuts columns old new asked known (Err (Refused refusal)) = ⊥
ReadiesInAll cuts columns old new asked known (Err (GroupNodes node count)) = TooLargeInAll columns old new asked known (build.GroupNodes node count)
ReadiesInAll cuts columns old new asked known (Err (GroupSwitches node count)) = TooLargeInAll columns old new asked known (build.GroupSwitches node count)
ReadiesInAll cuts columns old new asked known (Err WriteFault) = ⊥
ReadiesInAll cuts columns old new asked known (Err NoMemory) = CutOffInAll cuts columns old new asked known

-- ---- letters

-- the plain command that gives nodes values
abbrev pub give_of : ValueCommand → List (List ℕ × Value) → Command
give_of value.Set list = family.Give (plain.Set list)
give_of value.Charge list = family.Give (plain.Charge list)

-- the letters that nodes are given in a column, by what a stage gives them
abbrev pub letters_in_column : {M A : Type 0} → (M → A → ℕ → Tern) → M → List (ℕ × A) → ℕ → List (ℕ × Tern)
letters_in_column letter_of stage pairs column = map (λ pair. (pair.0, letter_of stage pair.1 column)) pairs

-- in each column nodes were given their letters, from left to right
pub record GivenInAll (columns : ℕ) (old new : ℕ → SessionData) (pairs : ℕ → List (ℕ × Tern)) : Type 0 where
  pub each : (column : ℕ) → column < columns → new column ≡ record (old column) { state = assigned (old column).state (pairs column) }

-- ---- steps and phases

-- all columns settled, with counts of which none has more steps than are told, and none a mark if none is told; and some column has what is told
pub record SettledTogether (columns : ℕ) (old new : ℕ → SessionData) (told : Settled) : Type 0 where
  pub count : ℕ → Settled
  pub settled : SettledInAll columns old new count
  pub few : (column : ℕ) → column < columns → (count column).steps ≤ told.steps
  pub joined : (column : ℕ) → column < columns → (count column).joined ≡ true → told.joined ≡ true
  pub greatest : (column : ℕ) × (column < columns) × (count column ≡ told)

-- the stage ran out: each column is as before, but for its states, and no line more is counted
pub record RanOut (columns : ℕ) (old new : ℕ → SessionData) : Type 0 where
  pub each : (column : ℕ) → column < columns → new column ≡ record (old column) { state = (new column).state }

-- it ran out before anything moved: each column is as before
pub record StaysInAll (columns : ℕ) (old new : ℕ → SessionData) : Type 0 where
  pub each : (column : ℕ) → column < columns → new column ≡ old column
