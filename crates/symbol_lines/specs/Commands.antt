-- The commands of a symbolic script that a plain one doesn't have.
use Rattle.std.specs.Prelude.{ℕ, ◌==◌, ◌&&◌, List, [], ◌∷◌, ◌++◌, codes, bytes_eq, nat_le, Option, Some, None, option_map, Result, Err, if◌then◌else◌}
use Rattle.std.specs.Option.{option_and_then, ok_or}
use Rattle.line_words.specs.Decimals.{decimal_of}
use Rattle.script_lang.specs.Parts.{all_of}
use Rattle.script_lang.specs.declared.command.ScriptFault.{ScriptFault}
use Rattle.script_lang.specs.declared.command.ScriptFault.TheVariants.{FewWords, ManyWords, BadValue, BadNumber}
use Rattle.formulas.specs.Bytes.{dollar, is_name}
use Rattle.formulas.specs.Reading.{formula_of}
use Rattle.symbol_lines.specs.declared.TheConstants.{LEAST_VERTICES, MOST_VERTICES}
use Rattle.symbol_lines.specs.declared.commands.SymbolCommand.{SymbolCommand}
use Rattle.symbol_lines.specs.declared.commands.SymbolCommand.TheVariants.{Variables, Let, Vertices}
use Rattle.symbol_lines.specs.Items.{few, words_of_part}

-- the name of a word `$name`
abbrev pub variable_of : List ℕ → Option (List ℕ)
variable_of [] = None
variable_of (byte ∷ name) = if byte == dollar && is_name name then Some name else None

-- items before others, if these are there
abbrev pub with_front : {A : Type 0} → List A → Option (List A) → Option (List A)
with_front front found = option_map (λ more. front ++ more) found

-- the names that a word of `variables` stands for: of up to 65,536 words, each `$name`
abbrev pub names_of_word : List ℕ → Option (List (List ℕ))
names_of_word word = option_and_then (all_of variable_of) (few (words_of_part word))

-- those of all words, in order
abbrev pub names_of_words : List (List ℕ) → Option (List (List ℕ))
names_of_words [] = Some []
names_of_words (word ∷ words) = option_and_then (λ names. with_front names (names_of_words words)) (names_of_word word)

-- `variables`, which is given one word or more
abbrev pub variables_given : List (List ℕ) → Result SymbolCommand ScriptFault
variables_given [] = Err FewWords
variables_given (word ∷ words) = ok_or (option_map Variables (names_of_words (word ∷ words))) BadValue

-- `let`, which is given a name and a formula
abbrev pub let_given : List (List ℕ) → Result SymbolCommand ScriptFault
let_given [] = Err FewWords
let_given (word ∷ []) = Err FewWords
let_given (word ∷ text ∷ []) =
    ok_or (option_and_then (λ name. option_map (λ formula. Let name formula) (formula_of text)) (variable_of word)) BadValue
let_given (word ∷ text ∷ other ∷ words) = Err ManyWords

-- a number of vertices that there may be
abbrev pub bound_within : ℕ → Option ℕ
bound_within number = if nat_le LEAST_VERTICES number && nat_le number MOST_VERTICES then Some number else None

abbrev pub bound_of : List ℕ → Option ℕ
bound_of word = option_and_then bound_within (decimal_of word)

-- `vertices`, which is given a number
abbrev pub vertices_given : List (List ℕ) → Result SymbolCommand ScriptFault
vertices_given [] = Err FewWords
vertices_given (number ∷ []) = ok_or (option_map Vertices (bound_of number)) BadNumber
vertices_given (number ∷ other ∷ words) = Err ManyWords

-- the command of a first word with the words after it, if it is one of these
abbrev pub symbol_command_of : List ℕ → List (List ℕ) → Option (Result SymbolCommand ScriptFault)
symbol_command_of word words =
    if bytes_eq word (codes "variables") then Some (variables_given words)
    else (if bytes_eq word (codes "let") then Some (let_given words)
    else (if bytes_eq word (codes "vertices") then Some (vertices_given words) else None))
