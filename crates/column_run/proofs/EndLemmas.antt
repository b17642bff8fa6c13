-- How a command ends in columns that are alike: it is refused in each, or a group is too large for it in each, or it is performed in each,
-- with the same texts analysed and equally many lines.
use Rattle.std.proofs.Common.{◌≡◌, ℕ, ◌<◌, ◌⊎◌, inl, inr, Bool, true, false, List, [], length, Option, None, Some, refl, sym, ap, ap₂, subst, ◌∙◌}
use Rattle.group_text.specs.Texts.{GroupTextData}
use Rattle.group_text.specs.FirstTexts.{new_texts}
use Rattle.circuit_texts.specs.declared.texts.BuildFault.{BuildFault}
use Rattle.circuit_texts.specs.Sizes.{TellsRefused}
use Rattle.circuit_texts.specs.Building.{HasTexts}
use Rattle.column_script.specs.declared.command.ColumnCommand.{ColumnCommand}
use Rattle.column_script.specs.Commands.{in_column}
use Rattle.column_script.specs.Forms.{IsFormed}
use Rattle.session_meaning.specs.declared.fault.Refusal.{Refusal}
use Rattle.session_meaning.specs.Sessions.{SessionData, IsReady, places_of}
use Rattle.session_meaning.specs.Refusals.{refusal_of}
use Rattle.session_meaning.specs.Preparing.{builds, IsBuild, BuildsIf}
use Rattle.told_lines.specs.Lines.{Line, Told}
use Rattle.session_meaning.specs.Outcomes.{Performs}
use Rattle.session_meaning.proofs.EffectLemmas as effects
use Rattle.session_meaning.proofs.SizeLemmas.{texts_or_size}
use Rattle.session_meaning.proofs.UniqueBuilds.{HasTexts-unique}
use Rattle.run_ends.proofs.SizeLemmas.{not_both}
use Rattle.script_meaning.proofs.LowerLemmas.{command_ends, ready-performs}
use Rattle.session_meaning.specs.Columns.{PerformsInAll}
use Rattle.session_meaning.proofs.LetterLemmas.{builds_alike}
use Rattle.session_meaning.proofs.RowLemmas.{choose, rows_exist}
use Rattle.column_run.proofs.FormLemmas.{formed_in}
use Rattle.column_run.proofs.AlikeLemmas.{AreAlike, beside, alike-effect, alike-built, alike-refused, lines_told, length-effect}

-- columns that are alike and ready
pub record AreReady (columns : ℕ) (sessions : ℕ → SessionData) : Type 0 where
  pub some : 0 < columns
  pub alike : (column : ℕ) → column < columns → AreAlike (sessions 0) (sessions column)
  pub ready : (column : ℕ) → column < columns → IsReady (sessions column)

-- how a command ends in columns
pub data EndsInAll (columns : ℕ) (sessions : ℕ → SessionData) (command : ColumnCommand) : Type 0 where
  all_refused : (refusal : Refusal) → ((column : ℕ) → column < columns → refusal_of (sessions column) (in_column column command) ≡ Some refusal) → EndsInAll columns sessions command
  all_large : (fault : BuildFault) → ((column : ℕ) → column < columns → refusal_of (sessions column) (in_column column command) ≡ None) →
      ((column : ℕ) → builds (in_column column command) ≡ true) → TellsRefused (sessions 0).large (sessions 0).circuit.graph fault → EndsInAll columns sessions command
  all_performed : (new : ℕ → SessionData) (rows : List Told) (texts : List GroupTextData) → PerformsInAll columns sessions command new rows texts →
      EndsInAll columns sessions command

module _ (columns : ℕ) (sessions : ℕ → SessionData) (are : AreReady columns sessions) (command : ColumnCommand)
    (formed : IsFormed columns command) where
  -- each column has the circuit of the first
  same_circuit : (column : ℕ) → column < columns → (sessions column).circuit ≡ (sessions 0).circuit
  same_circuit column inside = ap (λ (s : SessionData). s.circuit) (beside (sessions 0) (sessions column) (are.alike column inside))

  -- and its refusals
  same_refusal : (found : Option Refusal) → refusal_of (sessions 0) (in_column 0 command) ≡ found → (column : ℕ) → column < columns → refusal_of (sessions column) (in_column column command) ≡ found
  same_refusal found is column inside = alike-refused (sessions 0) (sessions column) command 0 column (are.alike column inside) ∙ is

  -- what a column's command comes to
  record ComesTo (fresh : List GroupTextData) (column : ℕ) (end : SessionData × List Line) : Type 0 where
    pub performs : Performs (sessions column) (in_column column command) end.0 end.1 fresh
    pub counted : length end.1 ≡ lines_told command (places_of (sessions 0).clocks)

  -- what stands before an effect keeps the clocks
  same_clocks : (building : Bool) (old mid : SessionData) (texts : List GroupTextData) → BuildsIf building old mid texts → mid.clocks ≡ old.clocks
  same_clocks true old mid texts build = ap (λ (s : SessionData). s.clocks) build.used
  same_clocks false old mid texts still = ap (λ (s : SessionData). s.clocks) (still.0)

  -- a command that is performed in a column
  told : (fresh : List GroupTextData) (column : ℕ) → column < columns → (new : SessionData) (lines : List Line) (texts : List GroupTextData) → texts ≡ fresh →
      Performs (sessions column) (in_column column command) new lines texts → (end : SessionData × List Line) × ComesTo fresh column end
  told fresh column inside new lines texts same performs = (
    (new, lines),
    record {
      performs = record {
        mid = performs.mid;
        prepares = subst (BuildsIf (builds (in_column column command)) (sessions column) performs.mid) same performs.prepares;
        does = performs.does;
      };
      counted = length-effect columns command formed column performs.mid new lines performs.does.effect
          ∙ ap (λ clocks. lines_told command (places_of clocks))
          (same_clocks (builds (in_column column command)) (sessions column) performs.mid texts performs.prepares
          ∙ ap (λ (s : SessionData). s.clocks) (beside (sessions 0) (sessions column) (are.alike column inside)));
    },
  )

  -- what is performed in each column is performed in all
  performed : (fresh : List GroupTextData) → ((column : ℕ) → column < columns → (end : SessionData × List Line) × ComesTo fresh column end) → EndsInAll columns sessions command
  performed fresh each =
      let all : (f : ℕ → SessionData × List Line) × ((column : ℕ) → column < columns → ComesTo fresh column (f column)) =
      choose columns (ComesTo fresh) (λ column. (sessions column, [])) each in
      let rows = rows_exist columns (lines_told command (places_of (sessions 0).clocks)) (λ column. (all.0 column).1) (λ column inside. (all.1 column inside).counted) in
      all_performed (λ column. (all.0 column).0) rows.0 fresh
      (record { lines = λ column. (all.0 column).1; each = λ column inside. (all.1 column inside).performs; rows = rows.1 })

  -- a command that builds nothing
  still_end : builds (in_column 0 command) ≡ false → refusal_of (sessions 0) (in_column 0 command) ≡ None → EndsInAll columns sessions command
  still_end still allowed = performed [] each
    where
      none : (column : ℕ) → builds (in_column column command) ≡ false
      none column = builds_alike command column 0 ∙ still

      each : (column : ℕ) → column < columns → (end : SessionData × List Line) × ComesTo [] column end
      each column inside =
          elim (command_ends (sessions column) (in_column column command) (are.ready column inside) (formed_in columns column command formed)) [
            | effects.refused refusal is ↦ let no : None ≡ Some refusal = sym (same_refusal None allowed column inside) ∙ is in absurd (cc)
            | effects.too_large fault allows building first ↦ let no : true ≡ false = sym building ∙ none column in absurd (cc)
            | effects.performed new wrote texts performs ↦
                told [] column inside new wrote texts
                (subst (λ (does : Bool). BuildsIf does (sessions column) performs.mid texts) (none column) performs.prepares).1 performs
          ]

  -- one that builds, if the circuit has texts
  built_end : builds (in_column 0 command) ≡ true → refusal_of (sessions 0) (in_column 0 command) ≡ None → (texts : List GroupTextData) → HasTexts (sessions 0).large (sessions 0).circuit.graph texts →
      EndsInAll columns sessions command
  built_end building allowed texts has = performed (new_texts (sessions 0).kept texts) each
    where
      fresh : List GroupTextData
      fresh = new_texts (sessions 0).kept texts

      some : (column : ℕ) → builds (in_column column command) ≡ true
      some column = builds_alike command column 0 ∙ building

      same_bound : (column : ℕ) → column < columns → (sessions column).large ≡ (sessions 0).large
      same_bound column inside = ap (λ (s : SessionData). s.large) (beside (sessions 0) (sessions column) (are.alike column inside))

      has_in : (column : ℕ) → column < columns → HasTexts (sessions column).large (sessions column).circuit.graph texts
      has_in column inside =
          subst (λ (large : ℕ). HasTexts large (sessions column).circuit.graph texts) (sym (same_bound column inside))
          (subst (λ c. HasTexts (sessions 0).large c.graph texts) (sym (same_circuit column inside)) has)

      same_fresh : (column : ℕ) → column < columns → (mid : SessionData) (others : List GroupTextData) → IsBuild (sessions column) mid others → others ≡ new_texts (sessions 0).kept texts
      same_fresh column inside mid others build =
          build.news
          ∙ ap₂ new_texts (ap (λ (s : SessionData). s.kept) (beside (sessions 0) (sessions column) (are.alike column inside)))
          (HasTexts-unique (sessions column).large (sessions column).circuit.graph build.present texts build.has (has_in column inside))

      each : (column : ℕ) → column < columns → (end : SessionData × List Line) × ComesTo (new_texts (sessions 0).kept texts) column end
      each column inside =
          elim (command_ends (sessions column) (in_column column command) (are.ready column inside) (formed_in columns column command formed)) [
            | effects.refused refusal is ↦ let no : None ≡ Some refusal = sym (same_refusal None allowed column inside) ∙ is in absurd (cc)
            | effects.too_large fault allows does first ↦ absurd (not_both (sessions column).large (sessions column).circuit.graph fault texts first (has_in column inside))
            | effects.performed new wrote others performs ↦
                told (new_texts (sessions 0).kept texts) column inside new wrote others
                (same_fresh column inside performs.mid others (subst (λ (does : Bool). BuildsIf does (sessions column) performs.mid others) (some column) performs.prepares)) performs
          ]

  -- any command
  pub ends_in_all : EndsInAll columns sessions command
  ends_in_all =
      by (refusal_of (sessions 0) (in_column 0 command)) (builds (in_column 0 command)) refl refl
      (texts_or_size (sessions 0).large (sessions 0).circuit.graph (are.ready 0 are.some).netlist.wired)
    where
      by : (found : Option Refusal) (building : Bool) → refusal_of (sessions 0) (in_column 0 command) ≡ found → builds (in_column 0 command) ≡ building →
          ((texts : List GroupTextData) × HasTexts (sessions 0).large (sessions 0).circuit.graph texts) ⊎ ((fault : BuildFault) × TellsRefused (sessions 0).large (sessions 0).circuit.graph fault) →
          EndsInAll columns sessions command
      by (Some refusal) building is does size = all_refused refusal (same_refusal (Some refusal) is)
      by None false is does size = still_end does is
      by None true is does (inl has) = built_end does is has.0 has.1
      by None true is does (inr large) = all_large large.0 (same_refusal None is) (λ column. builds_alike command column 0 ∙ does) large.1

-- what is performed in columns that are alike and ready leaves them so
pub ready_in_all : (columns : ℕ) (sessions new : ℕ → SessionData) (command : ColumnCommand) → IsFormed columns command → (rows : List Told) (texts : List GroupTextData) → AreReady columns sessions →
    PerformsInAll columns sessions command new rows texts → AreReady columns new
ready_in_all columns sessions new command formed rows texts are performs = record {
  some = are.some;
  alike = λ column inside.
      let first = performs.each 0 are.some in
      let other = performs.each column inside in
      alike-effect columns command formed 0 column first.mid other.mid (new 0) (new column) (performs.lines 0) (performs.lines column)
      (alike-built (builds (in_column 0 command)) (sessions 0) (sessions column) first.mid other.mid texts texts
      (are.alike column inside) first.prepares
      (subst (λ (does : Bool). BuildsIf does (sessions column) other.mid texts) (builds_alike command column 0) other.prepares))
      first.does.effect other.does.effect;
  ready = λ column inside.
      ready-performs (sessions column) (new column) (in_column column command) (performs.lines column) texts (are.ready column inside) (performs.each column inside);
}
