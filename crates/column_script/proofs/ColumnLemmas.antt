-- A line in its columns: what it asks for, or why it is refused, is found for all columns at once.
use Rattle.std.proofs.Common.{◌≡◌, ℕ, ◌<◌, Bool, true, false, ◌||◌, List, [], ◌∷◌, length, map, All, Option, Some, None, IfSome, Result, Ok, Err, refl, sym, ap, ◌∙◌, subst, ◌⊎◌, inl, inr, arith, if◌then◌else◌, eqb-true}
use Rattle.std.specs.Prelude.{codes, bytes_eq, ◌==◌, MatchOption, IsSomeAnd}
use Rattle.std.specs.Option.{option_and_then}
use Rattle.std.proofs.lemmas.Slice.Eq.{bytes_eq-Decides}
use Rattle.std.proofs.lemmas.List.Elements.{All-tail}
use Rattle.ternary.specs.declared.tern.Tern.{Tern}
use Rattle.line_words.specs.declared.line_check.LineFault.{LineFault}
use Rattle.line_words.specs.declared.line_check.LineFault.TheVariants as of_line
use Rattle.line_words.specs.LineFaults.{line_fault, is_comment}
use Rattle.line_words.specs.Visible.{IsVisibleName}
use Rattle.line_words.specs.Words.{words_of}
use Rattle.line_words.proofs.VisibleLemmas.{words_of-visible}
use Rattle.script_lang.specs.declared.command.Command.{Command}
use Rattle.script_lang.specs.declared.command.Command.TheVariants as family
use Rattle.script_lang.specs.declared.command.Give.{Give}
use Rattle.script_lang.specs.declared.command.ScriptFault.{ScriptFault}
use Rattle.script_lang.specs.declared.command.ScriptFault.TheVariants as fault
use Rattle.script_lang.specs.Parts.{all_of, beats_of}
use Rattle.script_lang.specs.Commands.{commanded, reading_by, reading_of, reading_of_words, some_command}
use Rattle.script_lang.specs.Forms as form
use Rattle.script_lang.proofs.FormLemmas.{all_given, given_some, named_beats}
use Rattle.column_script.specs.declared.command.ValueCommand.{ValueCommand}
use Rattle.column_script.specs.declared.command.ValueCommand.TheVariants as value
use Rattle.column_script.specs.declared.command.ColumnCommand.{ColumnCommand}
use Rattle.column_script.specs.declared.command.ColumnCommand.TheVariants.{Shared}
use Rattle.column_script.specs.declared.reader.Sort.{Sort}
use Rattle.column_script.specs.declared.reader.Sort.TheVariants as sort
use Rattle.column_script.specs.Columns.{column_reading, column_reading_by, column_reading_of, words_by_verb, is_left_out, letters_given, value_verb, word_in}
use Rattle.column_script.specs.Commands.{plain_of, IsShared}
use Rattle.column_script.specs.Forms.{AreColumnValues, IsFormed, IsColumnValue}
use Rattle.column_script.specs.Values.{are_fit, column_value_of, sort_of, values_given}
use Rattle.column_script.specs.Laws.{ColumnsAreRefusedAlike, ColumnsPassAlike}
use Rattle.column_script.proofs.ValueLemmas.{given_in, given_in_column}
use Rattle.column_script.proofs.SharedLemmas.{IsOther, other_sort, shared_words}

-- ---- a line without a fault that is no comment

pub column_words : (columns column : ℕ) (line : List ℕ) → line_fault line ≡ None → is_comment line ≡ false →
    column_reading_of columns column line ≡ column_reading columns column (words_of line)
column_words columns column line sound other =
    ap (column_reading_by columns column line) sound
    ∙ ap (λ (comment : Bool). if comment then Ok None else column_reading columns column (words_of line)) other

-- ---- words

-- what values ask for in a column
abbrev pub values_asked : (List (List ℕ × Tern) → Give) → ℕ → Result (List (List ℕ × List Tern)) ScriptFault → Result (Option Command) ScriptFault
values_asked give column given = some_command (commanded family.Give (commanded give (given_in column given)))

-- the verb of a command that gives values
abbrev pub verb_of_values : ValueCommand → List ℕ
verb_of_values value.Set = codes "set"
verb_of_values value.Charge = codes "charge"

-- its words in a column
pub valued_words : (command : ValueCommand) (columns column : ℕ) (word : List ℕ) (words : List (List ℕ)) → column < columns →
    word ≡ verb_of_values command →
    column_reading columns column (word ∷ words) ≡ values_asked (plain_of command) column (values_given columns words)
valued_words command columns column word words inside is =
    ap (λ (verb : List ℕ). column_reading columns column (verb ∷ words)) is ∙ by command
    ∙ ap (λ given. some_command (commanded family.Give (commanded (plain_of command) given))) (given_in_column columns column words inside)
  where
    by : (command : ValueCommand) → column_reading columns column (verb_of_values command ∷ words)
        ≡ some_command (commanded family.Give (commanded (plain_of command) (letters_given (map (word_in columns column) words))))
    by value.Set = refl
    by value.Charge = refl

pub set_words : (columns column : ℕ) (word : List ℕ) (words : List (List ℕ)) → column < columns → word ≡ codes "set" →
    column_reading columns column (word ∷ words) ≡ values_asked (plain_of value.Set) column (values_given columns words)
set_words = valued_words value.Set

pub charge_words : (columns column : ℕ) (word : List ℕ) (words : List (List ℕ)) → column < columns → word ≡ codes "charge" →
    column_reading columns column (word ∷ words) ≡ values_asked (plain_of value.Charge) column (values_given columns words)
charge_words = valued_words value.Charge

-- what is left out is no command
pub out_words : (columns column : ℕ) (word : List ℕ) (words : List (List ℕ)) → is_left_out word ≡ true →
    column_reading columns column (word ∷ words) ≡ Err fault.BadCommand
out_words columns column word words is =
    ap (λ (out : Bool). if out then Err fault.BadCommand else words_by_verb columns column word words (value_verb word)) is

-- all else is in each column as in a plain script
pub other_words : (columns column : ℕ) (word : List ℕ) (words : List (List ℕ)) → IsOther word →
    column_reading columns column (word ∷ words) ≡ reading_of_words (word ∷ words)
other_words columns column word words other =
    ap (λ (out : Bool). if out then Err fault.BadCommand else words_by_verb columns column word words (value_verb word)) other.out
    ∙ ap (λ (first : Bool). words_by_verb columns column word words
    (if first then Some value.Set else (if bytes_eq word (codes "charge") then Some value.Charge else None))) other.set
    ∙ ap (λ (second : Bool). words_by_verb columns column word words (if second then Some value.Charge else None)) other.charge

-- ---- the sorts of words

pub valued_sort : (command : ValueCommand) (word : List ℕ) → sort_of word ≡ sort.Valued command → word ≡ verb_of_values command
valued_sort command word is = by (bytes_eq word (codes "set")) (bytes_eq word (codes "charge")) (is_left_out word) refl refl is
  where
    by : (set charge out : Bool) → bytes_eq word (codes "set") ≡ set → bytes_eq word (codes "charge") ≡ charge →
        (if set then sort.Valued value.Set else (if charge then sort.Valued value.Charge else (if out then sort.LeftOut else sort.Shared))) ≡ sort.Valued command →
        word ≡ verb_of_values command
    by true charge out a b is = (bytes_eq-Decides word (codes "set")).0 a ∙ ap verb_of_values (let same : value.Set ≡ command = cc in same)
    by false true out a b is = (bytes_eq-Decides word (codes "charge")).0 b ∙ ap verb_of_values (let same : value.Charge ≡ command = cc in same)
    by false false true a b is = cc
    by false false false a b is = cc

pub out_sort : (word : List ℕ) → sort_of word ≡ sort.LeftOut → is_left_out word ≡ true
out_sort word is = by (bytes_eq word (codes "set")) (bytes_eq word (codes "charge")) (is_left_out word) is
  where
    by : (set charge out : Bool) →
        (if set then sort.Valued value.Set else (if charge then sort.Valued value.Charge else (if out then sort.LeftOut else sort.Shared))) ≡ sort.LeftOut → out ≡ true
    by true charge out is = cc
    by false true out is = cc
    by false false true is = refl
    by false false false is = cc

-- ---- values are well formed

-- a value of a visible word has a visible name, and states that fit
formed_value : (columns : ℕ) (word : List ℕ) (value : List ℕ × List Tern) → IsVisibleName word → column_value_of columns word ≡ Some value → IsColumnValue columns value
formed_value columns word value visible is = by (beats_of word) refl is
  where
    fit : (states : List Tern) → are_fit columns states ≡ true → (length states ≡ 1) ⊎ (length states ≡ columns)
    fit states held = cases (length states == 1) (length states == columns) refl refl held
      where
        cases : (one all : Bool) → (length states == 1) ≡ one → (length states == columns) ≡ all → (one || all) ≡ true → (length states ≡ 1) ⊎ (length states ≡ columns)
        cases true all a b held = inl (eqb-true _ _ a)
        cases false true a b held = inr (eqb-true _ _ b)
        cases false false a b held = cc

    by : (found : Option (List ℕ × List Tern)) → beats_of word ≡ found →
        option_and_then (λ value. if are_fit columns value.1 then Some value else None) found ≡ Some value → IsColumnValue columns value
    by None from is = cc
    by (Some item) from is = tested (are_fit columns item.1) refl is
      where
        tested : (held : Bool) → are_fit columns item.1 ≡ held → (if held then Some item else None) ≡ Some value → IsColumnValue columns value
        tested false fails is = cc
        tested true held is =
            subst (IsColumnValue columns) (let same : item ≡ value = cc in same)
            (record { named = (named_beats word item visible from).0; states = fit item.1 held })

-- values that are given are one or more, and well formed
pub formed_values : (columns : ℕ) (words : List (List ℕ)) (list : List (List ℕ × List Tern)) → All IsVisibleName words → values_given columns words ≡ Ok list → AreColumnValues columns list
formed_values columns [] list are is = cc
formed_values columns (word ∷ words) list are is =
    let all = all_given (column_value_of columns) IsVisibleName (IsColumnValue columns) (formed_value columns) (word ∷ words) list are (given_some (all_of (column_value_of columns) (word ∷ words)) fault.BadValue list is) in
    (omega (arith, all.0), all.1)

-- the words after the first of a line without a fault that is no comment are visible
pub rest_visible : (line word : List ℕ) (words : List (List ℕ)) → line_fault line ≡ None → is_comment line ≡ false → words_of line ≡ word ∷ words → All IsVisibleName words
rest_visible line word words sound other is =
    All-tail IsVisibleName word words (subst (All IsVisibleName) is (words_of-visible line sound other))

-- ---- lines with values

-- what a line that gives values is in a column, by the values that are given
module _ (columns : ℕ) (line word : List ℕ) (rest : List (List ℕ)) (sound : line_fault line ≡ None) (other : is_comment line ≡ false)
    (cut : words_of line ≡ word ∷ rest) where
  pub line_words : (column : ℕ) → column_reading_of columns column line ≡ column_reading columns column (word ∷ rest)
  line_words column = column_words columns column line sound other ∙ ap (column_reading columns column) cut

  pub valued_line : (command : ValueCommand) → sort_of word ≡ sort.Valued command → (given : Result (List (List ℕ × List Tern)) ScriptFault) →
      given ≡ values_given columns rest → (column : ℕ) → column < columns →
      column_reading_of columns column line ≡ values_asked (plain_of command) column given
  valued_line command kind given is column inside =
      line_words column ∙ valued_words command columns column word rest inside (valued_sort command word kind) ∙ ap (values_asked (plain_of command) column) (sym is)

  pub values_formed : (list : List (List ℕ × List Tern)) → Ok list ≡ values_given columns rest → AreColumnValues columns list
  values_formed list is = formed_values columns rest list (rest_visible line word rest sound other cut) (sym is)

  -- a line of a shared command is in each column what it is in a plain script
  pub shared_line : sort_of word ≡ sort.Shared → (column : ℕ) → column_reading_of columns column line ≡ reading_of line
  shared_line kind column =
      line_words column ∙ other_words columns column word rest (other_sort word kind) ∙ ap reading_of_words (sym cut)
      ∙ sym (ap (reading_by line) sound ∙ ap (λ (comment : Bool). if comment then Ok None else reading_of_words (words_of line)) other)

  pub shared_command : sort_of word ≡ sort.Shared → (made : Command) → reading_of line ≡ Ok (Some made) → IsShared made
  shared_command kind made is =
      shared_words word rest made (other_sort word kind) (sym (other_words columns 0 word rest (other_sort word kind)) ∙ sym (line_words 0) ∙ shared_line kind 0 ∙ is)

  -- and what is made of it is well formed
  pub shared_formed : sort_of word ≡ sort.Shared → (read : Option Command) (made : Option ColumnCommand) → reading_of line ≡ Ok read → IfSome read form.IsFormed →
      MatchOption read (made ≡ None) (λ command. IsSomeAnd made (λ whole. whole ≡ Shared command)) → IfSome made (IsFormed columns)
  shared_formed kind None made is formed none = subst (λ (m : Option ColumnCommand). IfSome m (IsFormed columns)) (sym none) tt
  shared_formed kind (Some command) None is formed some = absurd some
  shared_formed kind (Some command) (Some whole) is formed some = subst (IsFormed columns) (sym some) (formed, shared_command kind command is)

-- ---- columns are alike

-- the answer of two columns is the same refusal, or both are no refusals and ask for something or both for nothing
abbrev AreAlike : Result (Option Command) ScriptFault → Result (Option Command) ScriptFault → Type 0
AreAlike (Err one) other = other ≡ Err one
AreAlike (Ok None) other = other ≡ Ok None
AreAlike (Ok (Some command)) other = Unit {0}

same-alike : (answer : Result (Option Command) ScriptFault) → AreAlike answer answer
same-alike (Err fault) = refl
same-alike (Ok None) = refl
same-alike (Ok (Some command)) = tt

asked-alike : (give : List (List ℕ × Tern) → Give) (column other : ℕ) (given : Result (List (List ℕ × List Tern)) ScriptFault) →
    AreAlike (values_asked give column given) (values_asked give other given)
asked-alike give column other (Ok list) = tt
asked-alike give column other (Err fault) = refl

words-alike : (columns column other : ℕ) (words : List (List ℕ)) → column < columns → other < columns →
    AreAlike (column_reading columns column words) (column_reading columns other words)
words-alike columns column other [] inside within = refl
words-alike columns column other (word ∷ words) inside within = by (sort_of word) refl
  where
    pair : {a b c d : Result (Option Command) ScriptFault} → a ≡ c → b ≡ d → AreAlike c d → AreAlike a b
    pair {a} {b} {c} {d} one two alike = subst (λ (x : Result (Option Command) ScriptFault). AreAlike x b) (sym one) (subst (λ (y : Result (Option Command) ScriptFault). AreAlike c y) (sym two) alike)

    by : (kind : Sort) → sort_of word ≡ kind → AreAlike (column_reading columns column (word ∷ words)) (column_reading columns other (word ∷ words))
    by (sort.Valued command) is =
        pair (valued_words command columns column word words inside (valued_sort command word is))
        (valued_words command columns other word words within (valued_sort command word is)) (asked-alike (plain_of command) column other (values_given columns words))
    by sort.LeftOut is = pair (out_words columns column word words (out_sort word is)) (out_words columns other word words (out_sort word is)) refl
    by sort.Shared is = pair (other_words columns column word words (other_sort word is)) (other_words columns other word words (other_sort word is)) (same-alike (reading_of_words (word ∷ words)))

line-alike : (columns column other : ℕ) (line : List ℕ) → column < columns → other < columns →
    AreAlike (column_reading_of columns column line) (column_reading_of columns other line)
line-alike columns column other line inside within = by (line_fault line)
  where
    commented : (comment : Bool) → AreAlike (if comment then Ok None else column_reading columns column (words_of line)) (if comment then Ok None else column_reading columns other (words_of line))
    commented true = refl
    commented false = words-alike columns column other (words_of line) inside within

    by : (found : Option LineFault) → AreAlike (column_reading_by columns column line found) (column_reading_by columns other line found)
    by (Some of_line.TooLong) = refl
    by (Some of_line.BadByte) = refl
    by None = commented (is_comment line)

pub refused-alike : ColumnsAreRefusedAlike
refused-alike columns column other line fault inside within is =
    subst (λ (answer : Result (Option Command) ScriptFault). AreAlike answer (column_reading_of columns other line)) is (line-alike columns column other line inside within)

pub passed-alike : ColumnsPassAlike
passed-alike columns column other line inside within is =
    subst (λ (answer : Result (Option Command) ScriptFault). AreAlike answer (column_reading_of columns other line)) is (line-alike columns column other line inside within)
