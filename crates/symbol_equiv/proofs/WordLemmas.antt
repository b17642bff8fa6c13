-- The words that a line watches are those that are read of it, each with as many nodes as it stands for.
use Rattle.std.proofs.Common.{◌≡◌, ℕ, Bool, List, [], ◌∷◌, ◌++◌, length, Option, None, Some, Result, Ok, Err, refl, sym, ap, ap₂, ◌∙◌, append_assoc}
use Rattle.std.proofs.lemmas.List.{map-append}
use Rattle.netlist.specs.Circuits.{CircuitData}
use Rattle.script_lang.specs.declared.command.Command.{Command}
use Rattle.script_lang.specs.declared.command.Command.TheVariants as family
use Rattle.script_lang.specs.declared.command.Setup.TheVariants.{Watch, Limit, Clock, Keep, Widen, Save, Vector}
use Rattle.script_lang.specs.declared.command.ScriptFault.{ScriptFault}
use Rattle.session_meaning.specs.Refusals.{nodes_named}
use Rattle.session_meaning.specs.Sessions.{SessionData}
use Rattle.symbol_script.specs.declared.line.SymbolLine.{SymbolLine}
use Rattle.symbol_script.specs.declared.line.SymbolLine.TheVariants as asks
use Rattle.symbol_script.specs.declared.line.ValueVerb.TheVariants.{Set, Charge, Expect}
use Rattle.symbol_script.specs.Lines.{symbol_reading_of}
use Rattle.symbol_meaning.specs.Readings.{command_under, reading_under}
use Rattle.symbol_meaning.specs.Comparing.{Watched, words_of_command, words_of_line, words_of_reading}
use Rattle.symbol_comparing.specs.Notes.{names_of}
use Rattle.symbol_equiv.specs.Words.{counted_words, names_in_command, names_read, names_watched}

-- the words of a command
words_in_command : (c : CircuitData) (vectors : List (List ℕ × List ℕ)) (command : Command) →
    words_of_command c vectors command ≡ counted_words c vectors (names_in_command command)
words_in_command c vectors (family.Edit edit) = refl
words_in_command c vectors (family.Give give) = refl
words_in_command c vectors (family.Setup (Watch names)) = refl
words_in_command c vectors (family.Setup (Limit number)) = refl
words_in_command c vectors (family.Setup (Clock list)) = refl
words_in_command c vectors (family.Setup (Keep number)) = refl
words_in_command c vectors (family.Setup (Widen number)) = refl
words_in_command c vectors (family.Setup (Save name)) = refl
words_in_command c vectors (family.Setup (Vector name words)) = refl
words_in_command c vectors (family.Run run) = refl
words_in_command c vectors (family.Tell tell) = refl

-- and of a line that is read so, under any valuation
words_in_reading : (values : List ℕ → Bool) (c : CircuitData) (vectors : List (List ℕ × List ℕ)) (reading : Result (Option SymbolLine) ScriptFault) →
    words_of_reading c vectors (command_under values c vectors reading) ≡ counted_words c vectors (names_read reading)
words_in_reading values c vectors (Err fault) = refl
words_in_reading values c vectors (Ok None) = refl
words_in_reading values c vectors (Ok (Some (asks.Values Set list))) = refl
words_in_reading values c vectors (Ok (Some (asks.Values Charge list))) = refl
words_in_reading values c vectors (Ok (Some (asks.Values Expect list))) = refl
words_in_reading values c vectors (Ok (Some (asks.Names command))) = refl
words_in_reading values c vectors (Ok (Some (asks.Plain command))) = words_in_command c vectors command

-- so those of a line are the same in each column that has this circuit and these vectors
pub words_in_line : (quiet : Bool) (values : List ℕ → Bool) (session : SessionData) (line : ℕ × List ℕ) (c : CircuitData) (vectors : List (List ℕ × List ℕ)) →
    session.circuit ≡ c → session.vectors ≡ vectors →
    words_of_line (reading_under quiet values) session line ≡ counted_words c vectors (names_watched quiet line)
words_in_line quiet values session line c vectors circuit own =
    words_in_reading values session.circuit session.vectors (symbol_reading_of quiet line.1)
    ∙ ap₂ (λ (has : CircuitData) (lists : List (List ℕ × List ℕ)). counted_words has lists (names_watched quiet line)) circuit own

-- their names
pub names_counted : (c : CircuitData) (vectors : List (List ℕ × List ℕ)) (names : List (List ℕ)) → names_of (counted_words c vectors names) ≡ names
names_counted c vectors [] = refl
names_counted c vectors (name ∷ names) = ap (λ (rest : List (List ℕ)). name ∷ rest) (names_counted c vectors names)

pub names_behind : (words : List Watched) (c : CircuitData) (vectors : List (List ℕ × List ℕ)) (names : List (List ℕ)) →
    names_of (words ++ counted_words c vectors names) ≡ names_of words ++ names
names_behind words c vectors names =
    map-append (λ (own : Watched). own.0) words (counted_words c vectors names)
    ∙ ap (λ (rest : List (List ℕ)). names_of words ++ rest) (names_counted c vectors names)

-- the loop: one word more is counted
pub counted_on : (c : CircuitData) (vectors : List (List ℕ × List ℕ)) (words : List Watched) (name : List ℕ) (rest : List (List ℕ)) →
    words ++ counted_words c vectors (name ∷ rest)
    ≡ (words ++ (name, length (nodes_named c vectors name)) ∷ []) ++ counted_words c vectors rest
counted_on c vectors words name rest =
    sym (append_assoc words ((name, length (nodes_named c vectors name)) ∷ []) (counted_words c vectors rest))
