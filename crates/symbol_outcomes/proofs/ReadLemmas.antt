-- What a line of a symbolic script is read as: no fault is lack of memory, and the command of a plain line is well formed and tells its lines together.
use Rattle.std.proofs.Common.{◌≡◌, ◌≢◌, ℕ, Bool, true, false, List, [], ◌∷◌, Option, Some, None, Result, Ok, Err, refl, sym, ap, ◌∙◌, if◌then◌else◌, true≢false}
use Rattle.std.specs.Prelude.{◌||◌, ◌&&◌, codes, bytes_eq, option_map}
use Rattle.std.specs.Option.{ok_or, option_and_then}
use Rattle.std.proofs.lemmas.Slice.Eq.{bytes_eq-Decides}
use Rattle.line_words.specs.declared.line_check.LineFault.{LineFault}
use Rattle.line_words.specs.declared.line_check.LineFault.TheVariants as of_line
use Rattle.line_words.specs.LineFaults.{line_fault, is_comment}
use Rattle.line_words.specs.Words.{words_of}
use Rattle.script_lang.specs.declared.command.Command.{Command}
use Rattle.script_lang.specs.declared.command.Command.TheVariants as family
use Rattle.script_lang.specs.declared.command.Run.TheVariants.{Report}
use Rattle.script_lang.specs.declared.command.Tell.TheVariants as tell
use Rattle.script_lang.specs.declared.command.ScriptFault.{ScriptFault}
use Rattle.script_lang.specs.declared.command.ScriptFault.TheVariants.{NoMemory, BadCommand, BadNumber, BadValue}
use Rattle.script_lang.specs.Parts.{all_of}
use Rattle.script_lang.specs.Commands.{reading_of, reading_of_words}
use Rattle.script_lang.specs.Forms.{IsFormed}
use Rattle.script_lang.proofs.ReadingLemmas.{reading-named, reading-formed}
use Rattle.script_lang.proofs.VerbLemmas.{first_word}
use Rattle.formulas.specs.declared.formula.Part.{Part}
use Rattle.formulas.specs.Reading.{formula_of}
use Rattle.symbol_lines.specs.declared.commands.SymbolCommand.{SymbolCommand}
use Rattle.symbol_lines.specs.declared.commands.SymbolCommand.TheVariants.{Variables, Let, Vertices}
use Rattle.symbol_lines.specs.Commands.{bound_of, let_given, names_of_words, symbol_command_of, variable_of, variables_given, vertices_given}
use Rattle.symbol_script.specs.declared.line.Assignment.{Assignment}
use Rattle.symbol_script.specs.declared.line.SymbolLine.{SymbolLine}
use Rattle.symbol_script.specs.declared.line.SymbolLine.TheVariants as asks
use Rattle.symbol_script.specs.declared.line.ValueVerb.{ValueVerb}
use Rattle.symbol_script.specs.declared.line.ValueVerb.TheVariants.{Set, Charge, Expect}
use Rattle.symbol_script.specs.Lines.{asked_by, asked_by_line, asked_by_words, asked_plain, assignment_of, assignments_given, by_names, by_verb, has_dashes, is_left_out, is_telling, symbol_reading_of, value_verb}
use Rattle.symbol_script.proofs.ReadingLemmas.{reading-words}

-- the lines that a plain command writes in columns are told together: it is no `expect` and no `report`
abbrev pub IsToldTogether : Command → Type 0
IsToldTogether (family.Run Report) = ⊥
IsToldTogether (family.Tell (tell.Expect list)) = ⊥
IsToldTogether other = Unit {0}

-- what is known of what a line asks for
abbrev pub IsReadWell : Result (Option SymbolLine) ScriptFault → Type 0
IsReadWell (Ok None) = Unit {0}
IsReadWell (Ok (Some (asks.Values verb list))) = Unit {0}
IsReadWell (Ok (Some (asks.Names command))) = Unit {0}
IsReadWell (Ok (Some (asks.Plain command))) = IsFormed command × IsToldTogether command
IsReadWell (Err fault) = fault ≢ NoMemory

-- ---- what is given

-- a fault of a missing part is that fault
missing : {X : Type 0} (found : Option X) (fault : ScriptFault) → fault ≢ NoMemory → ok_or found fault ≢ Err NoMemory
missing None fault other same = other (let e : fault ≡ NoMemory = cc in e)
missing (Some x) fault other same = cc

assignments-named : (dashes : Bool) (words : List (List ℕ)) → assignments_given dashes words ≢ Err NoMemory
assignments-named dashes [] same = cc
assignments-named dashes (word ∷ words) same = missing (all_of (assignment_of dashes) (word ∷ words)) BadValue (λ e. cc) same

variables-named : (words : List (List ℕ)) → variables_given words ≢ Err NoMemory
variables-named [] same = cc
variables-named (word ∷ words) same = missing (option_map Variables (names_of_words (word ∷ words))) BadValue (λ e. cc) same

let-named : (words : List (List ℕ)) → let_given words ≢ Err NoMemory
let-named [] same = cc
let-named (word ∷ []) same = cc
let-named (word ∷ text ∷ []) same =
    missing (option_and_then (λ (name : List ℕ). option_map (λ (formula : List Part). Let name formula) (formula_of text)) (variable_of word)) BadValue (λ e. cc) same
let-named (word ∷ text ∷ other ∷ words) same = cc

vertices-named : (words : List (List ℕ)) → vertices_given words ≢ Err NoMemory
vertices-named [] same = cc
vertices-named (number ∷ []) same = missing (option_map Vertices (bound_of number)) BadNumber (λ e. cc) same
vertices-named (number ∷ other ∷ words) same = cc

command-named : (word : List ℕ) (words : List (List ℕ)) (made : Result SymbolCommand ScriptFault) → symbol_command_of word words ≡ Some made → made ≢ Err NoMemory
command-named word words made is want =
    by (bytes_eq word (codes "variables")) (bytes_eq word (codes "let")) (bytes_eq word (codes "vertices")) is
  where
    by : (first second third : Bool) →
        (if first then Some (variables_given words) else (if second then Some (let_given words) else (if third then Some (vertices_given words) else None))) ≡ Some made → ⊥
    by true second third is = variables-named words (let e : variables_given words ≡ made = cc is in e ∙ want)
    by false true third is = let-named words (let e : let_given words ≡ made = cc is in e ∙ want)
    by false false true is = vertices-named words (let e : vertices_given words ≡ made = cc is in e ∙ want)
    by false false false is = cc is

-- ---- plain commands

-- a command of another word than these two tells its lines together
other_word : (verb : List ℕ) (words : List (List ℕ)) (command : Command) → bytes_eq verb (codes "report") ≡ false → bytes_eq verb (codes "expect") ≡ false →
    reading_of_words (verb ∷ words) ≡ Ok (Some command) → IsToldTogether command
other_word verb words (family.Run Report) report expect is =
    let word : verb ≡ codes "report" = first_word verb words (family.Run Report) is in
    true≢false (sym ((bytes_eq-Decides verb (codes "report")).1 word) ∙ report)
other_word verb words (family.Tell (tell.Expect list)) report expect is =
    let word : verb ≡ codes "expect" = first_word verb words (family.Tell (tell.Expect list)) is in
    true≢false (sym ((bytes_eq-Decides verb (codes "expect")).1 word) ∙ expect)
other_word verb words other report expect is = tt

plain_well : (bytes : List ℕ) (answer : Result (Option Command) ScriptFault) → reading_of bytes ≡ answer →
    ((command : Command) → answer ≡ Ok (Some command) → IsToldTogether command) → IsReadWell (asked_plain answer)
plain_well bytes (Ok None) is together = tt
plain_well bytes (Ok (Some command)) is together = (reading-formed bytes command is, together command refl)
plain_well bytes (Err fault) is together = λ want. reading-named bytes (is ∙ ap Err want)

values_well : (verb : ValueVerb) (given : Result (List Assignment) ScriptFault) → given ≢ Err NoMemory → IsReadWell (asked_by (asks.Values verb) given)
values_well verb (Ok list) named = tt
values_well verb (Err fault) named = λ want. named (ap Err want)

-- ---- words

-- a verb that isn't left out is no `report`
not_report : (quiet : Bool) (verb : List ℕ) → is_left_out quiet verb ≡ false → bytes_eq verb (codes "report") ≡ false
not_report quiet verb is =
    by (bytes_eq verb (codes "report")) (bytes_eq verb (codes "keep")) (bytes_eq verb (codes "wide")) (quiet && is_telling verb) is
  where
    by : (first second third fourth : Bool) → (first || second || third || fourth) ≡ false → first ≡ false
    by true second third fourth is = cc is
    by false second third fourth is = refl

-- one that isn't given values is no `expect`
not_expect : (verb : List ℕ) → value_verb verb ≡ None → bytes_eq verb (codes "expect") ≡ false
not_expect verb is = by (bytes_eq verb (codes "set")) (bytes_eq verb (codes "charge")) (bytes_eq verb (codes "expect")) is
  where
    by : (first second third : Bool) → (if first then Some Set else (if second then Some Charge else (if third then Some Expect else None))) ≡ None → third ≡ false
    by true second third is = absurd (cc is)
    by false true third is = absurd (cc is)
    by false false true is = absurd (cc is)
    by false false false is = refl

words_well : (quiet : Bool) (bytes : List ℕ) (words : List (List ℕ)) → reading_of bytes ≡ reading_of_words words → IsReadWell (asked_by_words quiet words)
words_well quiet bytes [] same = tt
words_well quiet bytes (verb ∷ words) same = by (is_left_out quiet verb) refl
  where
    by_names_well : (found : Option (Result SymbolCommand ScriptFault)) → symbol_command_of verb words ≡ found → bytes_eq verb (codes "report") ≡ false →
        bytes_eq verb (codes "expect") ≡ false → IsReadWell (by_names verb words found)
    by_names_well (Some (Ok command)) is report expect = tt
    by_names_well (Some (Err fault)) is report expect = λ want. command-named verb words (Err fault) is (ap Err want)
    by_names_well None is report expect =
        plain_well bytes (reading_of_words (verb ∷ words)) same (λ command asked. other_word verb words command report expect asked)

    by_verb_well : (found : Option ValueVerb) → value_verb verb ≡ found → bytes_eq verb (codes "report") ≡ false → IsReadWell (by_verb verb words found)
    by_verb_well (Some own) is report = values_well own (assignments_given (has_dashes own) words) (assignments-named (has_dashes own) words)
    by_verb_well None is report = by_names_well (symbol_command_of verb words) refl report (not_expect verb is)

    by : (out : Bool) → is_left_out quiet verb ≡ out → IsReadWell (if out then Err BadCommand else by_verb verb words (value_verb verb))
    by true is = λ want. cc
    by false is = by_verb_well (value_verb verb) refl (not_report quiet verb is)

-- so it is of every line
pub read_well : (quiet : Bool) (bytes : List ℕ) → IsReadWell (symbol_reading_of quiet bytes)
read_well quiet bytes = by (line_fault bytes) refl
  where
    commented : (comment : Bool) → line_fault bytes ≡ None → is_comment bytes ≡ comment →
        IsReadWell (if comment then Ok None else asked_by_words quiet (words_of bytes))
    commented true sound is = tt
    commented false sound is = words_well quiet bytes (words_of bytes) (reading-words bytes sound is)

    by : (fault : Option LineFault) → line_fault bytes ≡ fault → IsReadWell (asked_by_line quiet bytes fault)
    by (Some of_line.TooLong) is = λ want. cc
    by (Some of_line.BadByte) is = λ want. cc
    by None is = commented (is_comment bytes) is refl
