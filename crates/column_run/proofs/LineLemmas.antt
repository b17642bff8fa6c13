-- A line of a script for columns: in each of them it is refused alike, or asks for nothing, or for what the column is given of one command.
use Rattle.std.proofs.Common.{◌≡◌, ◌≢◌, ℕ, ◌<◌, Bool, true, false, List, [], ◌∷◌, Option, Some, None, Result, Ok, Err, refl, sym, ap, ◌∙◌, if◌then◌else◌}
use Rattle.std.specs.Prelude.{codes, bytes_eq}
use Rattle.std.specs.Option.{ok_or}
use Rattle.std.proofs.lemmas.Slice.Eq.{bytes_eq-Decides}
use Rattle.ternary.specs.declared.tern.Tern.{Tern}
use Rattle.line_words.specs.declared.line_check.LineFault.{LineFault}
use Rattle.line_words.specs.declared.line_check.LineFault.TheVariants as of_line
use Rattle.line_words.specs.LineFaults.{line_fault, is_comment}
use Rattle.line_words.specs.Words.{words_of}
use Rattle.script_lang.specs.declared.command.Command.{Command}
use Rattle.script_lang.specs.declared.command.Give.{Give}
use Rattle.script_lang.specs.declared.command.ScriptFault.{ScriptFault}
use Rattle.script_lang.specs.declared.command.ScriptFault.TheVariants as fault
use Rattle.script_lang.specs.Commands.{reading_of}
use Rattle.script_lang.specs.Parts.{all_of}
use Rattle.script_lang.proofs.ReadingLemmas.{reading-named, reading-formed}
use Rattle.column_script.specs.declared.command.ColumnCommand.{ColumnCommand}
use Rattle.column_script.specs.declared.command.ColumnCommand.TheVariants.{Values, Shared}
use Rattle.column_script.specs.declared.command.ValueCommand.TheVariants as value
use Rattle.column_script.specs.Columns.{column_reading, column_reading_by, column_reading_of, is_left_out}
use Rattle.column_script.specs.Commands.{in_column, plain_of, IsShared}
use Rattle.column_script.specs.Forms.{AreColumnValues, IsFormed}
use Rattle.column_script.specs.Values.{column_value_of, values_given}
use Rattle.column_script.proofs.ColumnLemmas.{column_words, line_words, values_asked, set_words, charge_words, out_words, values_formed, shared_line, shared_command}

-- what a line is in all columns
pub data LineReads (columns : ℕ) (line : List ℕ) : Type 0 where
  fails : (what : ScriptFault) → what ≢ fault.NoMemory → ((column : ℕ) → column < columns → column_reading_of columns column line ≡ Err what) → LineReads columns line
  idles : ((column : ℕ) → column < columns → column_reading_of columns column line ≡ Ok None) → LineReads columns line
  commands : (command : ColumnCommand) → IsFormed columns command → ((column : ℕ) → column < columns → column_reading_of columns column line ≡ Ok (Some (in_column column command))) →
      LineReads columns line

-- values that aren't given have a cause
given-named : (columns : ℕ) (words : List (List ℕ)) (what : ScriptFault) → values_given columns words ≡ Err what → what ≢ fault.NoMemory
given-named columns [] what is same = cc
given-named columns (word ∷ words) what is same = by (all_of (column_value_of columns) (word ∷ words)) is
  where
    by : (found : Option (List (List ℕ × List Tern))) → ok_or found fault.BadValue ≡ Err what → ⊥
    by None is = cc
    by (Some list) is = cc

module _ (columns : ℕ) (line : List ℕ) where
  -- a line of a shared command
  shared_reads : ((column : ℕ) → column_reading_of columns column line ≡ reading_of line) → ((made : Command) → reading_of line ≡ Ok (Some made) → IsShared made) →
      (read : Result (Option Command) ScriptFault) → reading_of line ≡ read → LineReads columns line
  shared_reads same shared (Ok None) is = idles (λ column inside. same column ∙ is)
  shared_reads same shared (Ok (Some made)) is =
      commands (Shared made) (reading-formed line made is, shared made is) (λ column inside. same column ∙ is)
  shared_reads same shared (Err what) is = fails what (λ want. reading-named line (is ∙ ap Err want)) (λ column inside. same column ∙ is)

  module _ (word : List ℕ) (rest : List (List ℕ)) (sound : line_fault line ≡ None) (other : is_comment line ≡ false) (cut : words_of line ≡ word ∷ rest) where
    -- a line with values, whose first word asks for this
    values_read : (asked : List (List ℕ × Tern) → Give) →
        ((column : ℕ) → column < columns → column_reading columns column (word ∷ rest) ≡ values_asked asked column (values_given columns rest)) →
        ((list : List (List ℕ × List Tern)) → AreColumnValues columns list →
        ((column : ℕ) → column < columns → column_reading_of columns column line ≡ values_asked asked column (Ok list)) → LineReads columns line) →
        (given : Result (List (List ℕ × List Tern)) ScriptFault) → values_given columns rest ≡ given → LineReads columns line
    values_read asked words obeys (Ok list) is =
        obeys list (values_formed columns line word rest sound other cut list (sym is))
        (λ column inside. line_words columns line word rest sound other cut column ∙ words column inside ∙ ap (values_asked asked column) is)
    values_read asked words obeys (Err what) is =
        fails what (given-named columns rest what is)
        (λ column inside. line_words columns line word rest sound other cut column ∙ words column inside ∙ ap (values_asked asked column) is)

    -- a line by its first word
    word_reads : (set charge out : Bool) → bytes_eq word (codes "set") ≡ set → bytes_eq word (codes "charge") ≡ charge → is_left_out word ≡ out → LineReads columns line
    word_reads true charge out is_set is_charge is_out =
        values_read (plain_of value.Set) (λ column inside. set_words columns column word rest inside ((bytes_eq-Decides word (codes "set")).0 is_set))
        (λ list formed reads. commands (Values value.Set list) formed reads) (values_given columns rest) refl
    word_reads false true out is_set is_charge is_out =
        values_read (plain_of value.Charge)
        (λ column inside. charge_words columns column word rest inside ((bytes_eq-Decides word (codes "charge")).0 is_charge))
        (λ list formed reads. commands (Values value.Charge list) formed reads) (values_given columns rest) refl
    word_reads false false true is_set is_charge is_out =
        fails fault.BadCommand (λ same. cc) (λ column inside. line_words columns line word rest sound other cut column ∙ out_words columns column word rest is_out)
    word_reads false false false is_set is_charge is_out =
        shared_reads (shared_line columns line word rest sound other cut (rw (is_set, is_charge, is_out) refl))
        (shared_command columns line word rest sound other cut (rw (is_set, is_charge, is_out) refl)) (reading_of line) refl

  -- a line without a fault that is no comment
  words_read : line_fault line ≡ None → is_comment line ≡ false → (words : List (List ℕ)) → words_of line ≡ words → LineReads columns line
  words_read sound other [] is = idles (λ column inside. column_words columns column line sound other ∙ ap (column_reading columns column) is)
  words_read sound other (word ∷ rest) is =
      word_reads word rest sound other is (bytes_eq word (codes "set")) (bytes_eq word (codes "charge")) (is_left_out word) refl refl refl

  uncommented : line_fault line ≡ None → (comment : Bool) → is_comment line ≡ comment → LineReads columns line
  uncommented sound true is =
      idles (λ column inside.
      ap (column_reading_by columns column line) sound
      ∙ ap (λ (comment : Bool). if comment then Ok None else column_reading columns column (words_of line)) is)
  uncommented sound false is = words_read sound is (words_of line) refl

  unfaulty : (found : Option LineFault) → line_fault line ≡ found → LineReads columns line
  unfaulty (Some of_line.TooLong) is = fails fault.LineTooLong (λ same. cc) (λ column inside. ap (column_reading_by columns column line) is)
  unfaulty (Some of_line.BadByte) is = fails fault.BadByte (λ same. cc) (λ column inside. ap (column_reading_by columns column line) is)
  unfaulty None is = uncommented is (is_comment line) refl

  -- any line
  pub line_reads : LineReads columns line
  line_reads = unfaulty (line_fault line) refl
