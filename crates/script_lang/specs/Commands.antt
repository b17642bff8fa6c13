-- The commands of a script: which command a line is, if any, and why it is refused.
-- The script language is this project's own.
use Rattle.std.specs.Prelude.{ℕ, Bool, true, false, List, [], ◌∷◌, codes, bytes_eq, Option, Some, None, option_map, Result, Ok, Err, if◌then◌else◌}
use Rattle.std.specs.Option.{ok_or}
use Rattle.ternary.specs.declared.tern.Tern.{Tern}
use Rattle.switch_paths.specs.declared.switching.SwitchKind.{SwitchKind}
use Rattle.line_words.specs.declared.line_check.LineFault.{LineFault}
use Rattle.line_words.specs.declared.line_check.LineFault.TheVariants as of_line
use Rattle.line_words.specs.Decimals.{decimal_of}
use Rattle.line_words.specs.LineFaults.{line_fault, is_comment}
use Rattle.line_words.specs.Words.{words_of}
use Rattle.script_lang.specs.declared.TheConstants.{LEAST_WIDE}
use Rattle.script_lang.specs.declared.value.Value.{Value}
use Rattle.script_lang.specs.declared.verb.Verb.{Verb}
use Rattle.script_lang.specs.declared.verb.Verb.TheVariants as verb
use Rattle.script_lang.specs.declared.command.Command.{Command}
use Rattle.script_lang.specs.declared.command.Command.TheVariants as family
use Rattle.script_lang.specs.declared.command.Edit.{Edit}
use Rattle.script_lang.specs.declared.command.Edit.TheVariants.{Input, Store, Add, Del, Strength, Kind, Wire}
use Rattle.script_lang.specs.declared.command.Give.{Give}
use Rattle.script_lang.specs.declared.command.Give.TheVariants.{Set, Charge, Back}
use Rattle.script_lang.specs.declared.command.Setup.{Setup}
use Rattle.script_lang.specs.declared.command.Setup.TheVariants.{Watch, Limit, Clock, Keep, Widen, Save, Vector}
use Rattle.script_lang.specs.declared.command.Run.{Run}
use Rattle.script_lang.specs.declared.command.Run.TheVariants.{Step, Phase, Cycle, Report}
use Rattle.script_lang.specs.declared.command.Tell.{Tell}
use Rattle.script_lang.specs.declared.command.Tell.TheVariants.{Expect, Show, Look}
use Rattle.script_lang.specs.declared.command.ScriptFault.{ScriptFault}
use Rattle.script_lang.specs.declared.command.ScriptFault.TheVariants.{LineTooLong, BadByte, BadCommand, FewWords, ManyWords, BadValue, BadNumber}
use Rattle.script_lang.specs.Parts.{all_of, assignment_of, beats_of, kind_of, ranged_of}

-- the verb that a word is, compared byte by byte
abbrev pub verb_of : List ℕ → Option Verb
verb_of word =
    if bytes_eq word (codes "input") then Some verb.Input
    else (if bytes_eq word (codes "store") then Some verb.Store
    else (if bytes_eq word (codes "set") then Some verb.Set
    else (if bytes_eq word (codes "charge") then Some verb.Charge
    else (if bytes_eq word (codes "watch") then Some verb.Watch
    else (if bytes_eq word (codes "limit") then Some verb.Limit
    else (if bytes_eq word (codes "step") then Some verb.Step
    else (if bytes_eq word (codes "phase") then Some verb.Phase
    else (if bytes_eq word (codes "clock") then Some verb.Clock
    else (if bytes_eq word (codes "cycle") then Some verb.Cycle
    else (if bytes_eq word (codes "expect") then Some verb.Expect
    else (if bytes_eq word (codes "show") then Some verb.Show
    else (if bytes_eq word (codes "look") then Some verb.Look
    else (if bytes_eq word (codes "add") then Some verb.Add
    else (if bytes_eq word (codes "del") then Some verb.Del
    else (if bytes_eq word (codes "strength") then Some verb.Strength
    else (if bytes_eq word (codes "type") then Some verb.Kind
    else (if bytes_eq word (codes "wire") then Some verb.Wire
    else (if bytes_eq word (codes "report") then Some verb.Report
    else (if bytes_eq word (codes "keep") then Some verb.Keep
    else (if bytes_eq word (codes "wide") then Some verb.Wide
    else (if bytes_eq word (codes "save") then Some verb.Save
    else (if bytes_eq word (codes "back") then Some verb.Back
    else (if bytes_eq word (codes "vector") then Some verb.Vector else None)))))))))))))))))))))))

-- one name alone
abbrev pub name_given : List (List ℕ) → Result (List ℕ) ScriptFault
name_given [] = Err FewWords
name_given (name ∷ []) = Ok name
name_given (name ∷ other ∷ words) = Err ManyWords

-- one name or more
abbrev pub names_given : List (List ℕ) → Result (List (List ℕ)) ScriptFault
names_given [] = Err FewWords
names_given (name ∷ names) = Ok (name ∷ names)

-- one assignment or more, in which `-` may stand or not
abbrev pub assignments_given : Bool → List (List ℕ) → Result (List (List ℕ × Value)) ScriptFault
assignments_given dashes [] = Err FewWords
assignments_given dashes (word ∷ words) = ok_or (all_of (assignment_of dashes) (word ∷ words)) BadValue

-- the letters of one clock or more
abbrev pub clocks_given : List (List ℕ) → Result (List (List ℕ × List Tern)) ScriptFault
clocks_given [] = Err FewWords
clocks_given (word ∷ words) = ok_or (all_of beats_of (word ∷ words)) BadValue

-- a number from the least one to `MOST_TIMES`
abbrev pub ranged_given : ℕ → List (List ℕ) → Result ℕ ScriptFault
ranged_given least [] = Err FewWords
ranged_given least (word ∷ []) = ok_or (ranged_of least word) BadNumber
ranged_given least (word ∷ other ∷ words) = Err ManyWords

-- a word that is a transistor's kind
abbrev pub kind_given : List ℕ → Result SwitchKind ScriptFault
kind_given word = ok_or (kind_of word) BadValue

-- a word that is a number
abbrev pub number_given : List ℕ → Result ℕ ScriptFault
number_given word = ok_or (decimal_of word) BadNumber

-- the command of what was given, or the fault
abbrev pub commanded : {X Y : Type 0} → (X → Y) → Result X ScriptFault → Result Y ScriptFault
commanded command (Ok given) = Ok (command given)
commanded command (Err fault) = Err fault

-- the command of two things that were given, or the fault of the first that wasn't
abbrev pub commanded_by : {X Y Z : Type 0} → (X → Y → Z) → Result X ScriptFault → Result Y ScriptFault → Result Z ScriptFault
commanded_by command (Ok first) (Ok second) = Ok (command first second)
commanded_by command (Ok first) (Err fault) = Err fault
commanded_by command (Err fault) second = Err fault

-- a command that is given nothing
abbrev pub alone : Command → List (List ℕ) → Result Command ScriptFault
alone command [] = Ok command
alone command (word ∷ words) = Err ManyWords

-- `vector`, which is given a name and one word or more
abbrev pub vector_by : List (List ℕ) → Result Setup ScriptFault
vector_by [] = Err FewWords
vector_by (name ∷ words) = commanded (Vector name) (names_given words)

-- an edit that is given two words
abbrev pub by_pair : (List ℕ → List ℕ → Result Edit ScriptFault) → List (List ℕ) → Result Edit ScriptFault
by_pair command [] = Err FewWords
by_pair command (one ∷ []) = Err FewWords
by_pair command (one ∷ other ∷ []) = command one other
by_pair command (one ∷ other ∷ more ∷ words) = Err ManyWords

-- `store`, which is given a name and a size
abbrev pub store_by : List (List ℕ) → Result Edit ScriptFault
store_by words = by_pair (λ name size. ok_or (option_map (Store name) (decimal_of size)) BadNumber) words

-- an edit that is given a word, the names of a transistor's gate, source and drain, and perhaps more
abbrev pub by_terminals : (List ℕ → List ℕ → List ℕ → List ℕ → List (List ℕ) → Result Edit ScriptFault) → List (List ℕ) → Result Edit ScriptFault
by_terminals command [] = Err FewWords
by_terminals command (word ∷ []) = Err FewWords
by_terminals command (word ∷ gate ∷ []) = Err FewWords
by_terminals command (word ∷ gate ∷ source ∷ []) = Err FewWords
by_terminals command (word ∷ gate ∷ source ∷ drain ∷ words) = command word gate source drain words

-- `add`, which is given a kind, three names and perhaps a strength
abbrev pub add_with : List ℕ → List ℕ → List ℕ → List ℕ → List (List ℕ) → Result Edit ScriptFault
add_with kind gate source drain [] = commanded (λ kind. Add kind gate source drain None) (kind_given kind)
add_with kind gate source drain (strength ∷ []) =
    commanded_by (λ kind strength. Add kind gate source drain (Some strength)) (kind_given kind) (number_given strength)
add_with kind gate source drain (strength ∷ other ∷ words) = Err ManyWords

abbrev pub add_by : List (List ℕ) → Result Edit ScriptFault
add_by words = by_terminals add_with words

-- `del`, which is given a number
abbrev pub del_by : List (List ℕ) → Result Edit ScriptFault
del_by [] = Err FewWords
del_by (number ∷ []) = commanded Del (number_given number)
del_by (number ∷ other ∷ words) = Err ManyWords

-- `strength`, which is given a number and a strength
abbrev pub strength_by : List (List ℕ) → Result Edit ScriptFault
strength_by words = by_pair (λ number strength. commanded_by Strength (number_given number) (number_given strength)) words

-- `type`, which is given a number and a kind
abbrev pub kind_by : List (List ℕ) → Result Edit ScriptFault
kind_by words = by_pair (λ number kind. commanded_by Kind (number_given number) (kind_given kind)) words

-- `wire`, which is given a number and three names
abbrev pub wire_with : List ℕ → List ℕ → List ℕ → List ℕ → List (List ℕ) → Result Edit ScriptFault
wire_with number gate source drain [] = commanded (λ number. Wire number gate source drain) (number_given number)
wire_with number gate source drain (other ∷ words) = Err ManyWords

abbrev pub wire_by : List (List ℕ) → Result Edit ScriptFault
wire_by words = by_terminals wire_with words

-- the command of a verb with the words after it
abbrev pub command_by : Option Verb → List (List ℕ) → Result Command ScriptFault
command_by None words = Err BadCommand
command_by (Some verb.Input) words = commanded family.Edit (commanded Input (names_given words))
command_by (Some verb.Store) words = commanded family.Edit (store_by words)
command_by (Some verb.Set) words = commanded family.Give (commanded Set (assignments_given false words))
command_by (Some verb.Charge) words = commanded family.Give (commanded Charge (assignments_given false words))
command_by (Some verb.Watch) words = commanded family.Setup (commanded Watch (names_given words))
command_by (Some verb.Limit) words = commanded family.Setup (commanded Limit (ranged_given 1 words))
command_by (Some verb.Step) words = alone (family.Run Step) words
command_by (Some verb.Phase) words = alone (family.Run Phase) words
command_by (Some verb.Clock) words = commanded family.Setup (commanded Clock (clocks_given words))
command_by (Some verb.Cycle) words = commanded family.Run (commanded Cycle (ranged_given 1 words))
command_by (Some verb.Expect) words = commanded family.Tell (commanded Expect (assignments_given true words))
command_by (Some verb.Show) words = commanded family.Tell (commanded Show (names_given words))
command_by (Some verb.Look) words = commanded family.Tell (commanded Look (names_given words))
command_by (Some verb.Add) words = commanded family.Edit (add_by words)
command_by (Some verb.Del) words = commanded family.Edit (del_by words)
command_by (Some verb.Strength) words = commanded family.Edit (strength_by words)
command_by (Some verb.Kind) words = commanded family.Edit (kind_by words)
command_by (Some verb.Wire) words = commanded family.Edit (wire_by words)
command_by (Some verb.Report) words = alone (family.Run Report) words
command_by (Some verb.Keep) words = commanded family.Setup (commanded Keep (ranged_given 1 words))
command_by (Some verb.Wide) words = commanded family.Setup (commanded Widen (ranged_given LEAST_WIDE words))
command_by (Some verb.Save) words = commanded family.Setup (commanded Save (name_given words))
command_by (Some verb.Vector) words = commanded family.Setup (vector_by words)
command_by (Some verb.Back) words = commanded family.Give (commanded Back (name_given words))

-- a line's command, if it has words
abbrev pub some_command : Result Command ScriptFault → Result (Option Command) ScriptFault
some_command (Ok command) = Ok (Some command)
some_command (Err fault) = Err fault

-- the words of a line: none ask for nothing, else the first is the verb
abbrev pub reading_of_words : List (List ℕ) → Result (Option Command) ScriptFault
reading_of_words [] = Ok None
reading_of_words (word ∷ words) = some_command (command_by (verb_of word) words)

-- a line, by its fault as a line of any text; a comment asks for nothing
abbrev pub reading_by : List ℕ → Option LineFault → Result (Option Command) ScriptFault
reading_by line (Some of_line.TooLong) = Err LineTooLong
reading_by line (Some of_line.BadByte) = Err BadByte
reading_by line None = if is_comment line then Ok None else reading_of_words (words_of line)

-- what a line of a script is: a command, nothing to do, or refused. The cases stand in the order in which one refusal wins
abbrev pub reading_of : List ℕ → Result (Option Command) ScriptFault
reading_of line = reading_by line (line_fault line)

-- the first word of a line that asks for the edit
abbrev pub word_of_edit : Edit → List ℕ
word_of_edit (Input names) = codes "input"
word_of_edit (Store name size) = codes "store"
word_of_edit (Add kind gate source drain strength) = codes "add"
word_of_edit (Del number) = codes "del"
word_of_edit (Strength number strength) = codes "strength"
word_of_edit (Kind number kind) = codes "type"
word_of_edit (Wire number gate source drain) = codes "wire"

-- of one that gives states
abbrev pub word_of_give : Give → List ℕ
word_of_give (Set list) = codes "set"
word_of_give (Charge list) = codes "charge"
word_of_give (Back name) = codes "back"

-- of one that sets what others go by
abbrev pub word_of_setup : Setup → List ℕ
word_of_setup (Watch names) = codes "watch"
word_of_setup (Limit number) = codes "limit"
word_of_setup (Clock list) = codes "clock"
word_of_setup (Keep number) = codes "keep"
word_of_setup (Widen number) = codes "wide"
word_of_setup (Save name) = codes "save"
word_of_setup (Vector name words) = codes "vector"

-- of one that has the circuit built
abbrev pub word_of_run : Run → List ℕ
word_of_run Step = codes "step"
word_of_run Phase = codes "phase"
word_of_run (Cycle number) = codes "cycle"
word_of_run Report = codes "report"

-- of one that tells
abbrev pub word_of_tell : Tell → List ℕ
word_of_tell (Expect list) = codes "expect"
word_of_tell (Show names) = codes "show"
word_of_tell (Look names) = codes "look"

-- of any command
abbrev pub word_of : Command → List ℕ
word_of (family.Edit edit) = word_of_edit edit
word_of (family.Give give) = word_of_give give
word_of (family.Setup setup) = word_of_setup setup
word_of (family.Run run) = word_of_run run
word_of (family.Tell tell) = word_of_tell tell
