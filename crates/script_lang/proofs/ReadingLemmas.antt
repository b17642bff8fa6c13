-- What the reading of a line is, whatever the line: a well-formed command, nothing to do, or a refusal that has a cause.
use Rattle.std.proofs.Common.{◌≡◌, ◌≢◌, ℕ, Bool, true, false, List, [], ◌∷◌, Option, Some, None, Result, Ok, Err, refl, ap}
use Rattle.std.specs.Prelude.{option_map, if◌then◌else◌}
use Rattle.std.specs.Option.{ok_or}
use Rattle.line_words.specs.declared.line_check.LineFault.{LineFault}
use Rattle.line_words.specs.declared.line_check.LineFault.TheVariants as of_line
use Rattle.line_words.specs.LineFaults.{line_fault, is_comment}
use Rattle.line_words.specs.Words.{words_of}
use Rattle.line_words.specs.Decimals.{decimal_of}
use Rattle.script_lang.specs.declared.verb.Verb.{Verb}
use Rattle.script_lang.specs.declared.verb.Verb.TheVariants as verb
use Rattle.script_lang.specs.declared.command.Command.{Command}
use Rattle.script_lang.specs.declared.command.Command.TheVariants as family
use Rattle.script_lang.specs.declared.command.Edit.{Edit}
use Rattle.script_lang.specs.declared.command.Edit.TheVariants.{Input, Store, Add, Del, Strength, Kind, Wire}
use Rattle.script_lang.specs.declared.command.Give.TheVariants.{Set, Charge, Back}
use Rattle.script_lang.specs.declared.command.Setup.TheVariants.{Watch, Limit, Clock, Keep, Widen, Save, Vector}
use Rattle.script_lang.specs.declared.command.Run.TheVariants.{Step, Phase, Cycle, Report}
use Rattle.script_lang.specs.declared.command.Tell.TheVariants.{Expect, Show, Look}
use Rattle.script_lang.specs.declared.command.ScriptFault.{ScriptFault}
use Rattle.script_lang.specs.declared.command.ScriptFault.TheVariants.{NoMemory, BadValue, BadNumber}
use Rattle.script_lang.specs.declared.TheConstants.{LEAST_WIDE}
use Rattle.script_lang.specs.Parts.{all_of, assignment_of, beats_of, kind_of, ranged_of}
use Rattle.script_lang.specs.Commands.{verb_of, name_given, names_given, assignments_given, clocks_given, ranged_given, kind_given, number_given, commanded, commanded_by, alone, by_pair, by_terminals, store_by, add_by, add_with, del_by, strength_by, kind_by, wire_by, wire_with, vector_by, command_by, some_command, reading_of_words, reading_by, reading_of}
use Rattle.script_lang.specs.Forms.{IsFormed}
use Rattle.script_lang.proofs.FormLemmas.{formed_words}

-- a fault of a missing part is that fault
missing : {X : Type 0} (found : Option X) (fault : ScriptFault) → fault ≢ NoMemory → ok_or found fault ≢ Err NoMemory
missing None fault other same = other (let e : fault ≡ NoMemory = cc in e)
missing (Some x) fault other same = cc

-- a command's fault is that of what was given
commanded-named : {X Y : Type 0} (command : X → Y) (given : Result X ScriptFault) → given ≢ Err NoMemory → commanded command given ≢ Err NoMemory
commanded-named command (Ok x) named same = cc
commanded-named command (Err fault) named same = named (let e : fault ≡ NoMemory = cc in ap Err e)

-- so is that of a command of a family
family-named : {X Y : Type 0} (whole : Y → Command) (command : X → Y) (given : Result X ScriptFault) → given ≢ Err NoMemory →
    commanded whole (commanded command given) ≢ Err NoMemory
family-named whole command given named = commanded-named whole (commanded command given) (commanded-named command given named)

name-named : (words : List (List ℕ)) → name_given words ≢ Err NoMemory
name-named [] same = cc
name-named (name ∷ []) same = cc
name-named (name ∷ other ∷ words) same = cc

names-named : (words : List (List ℕ)) → names_given words ≢ Err NoMemory
names-named [] same = cc
names-named (name ∷ names) same = cc

assignments-named : (dashes : Bool) (words : List (List ℕ)) → assignments_given dashes words ≢ Err NoMemory
assignments-named dashes [] same = cc
assignments-named dashes (word ∷ words) same = missing (all_of (assignment_of dashes) (word ∷ words)) BadValue (λ e. cc) same

vector-named : (words : List (List ℕ)) → vector_by words ≢ Err NoMemory
vector-named [] same = cc
vector-named (name ∷ words) same = commanded-named (Vector name) (names_given words) (names-named words) same

clocks-named : (words : List (List ℕ)) → clocks_given words ≢ Err NoMemory
clocks-named [] same = cc
clocks-named (word ∷ words) same = missing (all_of beats_of (word ∷ words)) BadValue (λ e. cc) same

ranged-named : (least : ℕ) (words : List (List ℕ)) → ranged_given least words ≢ Err NoMemory
ranged-named least [] same = cc
ranged-named least (word ∷ []) same = missing (ranged_of least word) BadNumber (λ e. cc) same
ranged-named least (word ∷ other ∷ words) same = cc

alone-named : (command : Command) (words : List (List ℕ)) → alone command words ≢ Err NoMemory
alone-named command [] same = cc
alone-named command (word ∷ words) same = cc

-- a command's fault is that of one of the two things that were given
two-named : {X Y Z : Type 0} (command : X → Y → Z) (first : Result X ScriptFault) (second : Result Y ScriptFault) →
    first ≢ Err NoMemory → second ≢ Err NoMemory → commanded_by command first second ≢ Err NoMemory
two-named command (Ok x) (Ok y) one other same = cc
two-named command (Ok x) (Err fault) one other same = other (let e : fault ≡ NoMemory = cc in ap Err e)
two-named command (Err fault) second one other same = one (let e : fault ≡ NoMemory = cc in ap Err e)

kind-named : (word : List ℕ) → kind_given word ≢ Err NoMemory
kind-named word same = missing (kind_of word) BadValue (λ e. cc) same

number-named : (word : List ℕ) → number_given word ≢ Err NoMemory
number-named word same = missing (decimal_of word) BadNumber (λ e. cc) same

-- so is that of two words
pair-named : (command : List ℕ → List ℕ → Result Edit ScriptFault) → ((one other : List ℕ) → command one other ≢ Err NoMemory) →
    (words : List (List ℕ)) → by_pair command words ≢ Err NoMemory
pair-named command each [] same = cc
pair-named command each (one ∷ []) same = cc
pair-named command each (one ∷ other ∷ []) same = each one other same
pair-named command each (one ∷ other ∷ more ∷ words) same = cc

store-named : (words : List (List ℕ)) → store_by words ≢ Err NoMemory
store-named words = pair-named _ (λ name size. missing (option_map (Store name) (decimal_of size)) BadNumber (λ e. cc)) words

strength-named : (words : List (List ℕ)) → strength_by words ≢ Err NoMemory
strength-named words =
    pair-named _ (λ number strength. two-named Strength (number_given number) (number_given strength) (number-named number) (number-named strength)) words

type-named : (words : List (List ℕ)) → kind_by words ≢ Err NoMemory
type-named words = pair-named _ (λ number kind. two-named Kind (number_given number) (kind_given kind) (number-named number) (kind-named kind)) words

-- and that of a word and three names
terminals-named : (command : List ℕ → List ℕ → List ℕ → List ℕ → List (List ℕ) → Result Edit ScriptFault) →
    ((word gate source drain : List ℕ) (rest : List (List ℕ)) → command word gate source drain rest ≢ Err NoMemory) →
    (words : List (List ℕ)) → by_terminals command words ≢ Err NoMemory
terminals-named command each [] same = cc
terminals-named command each (word ∷ []) same = cc
terminals-named command each (word ∷ gate ∷ []) same = cc
terminals-named command each (word ∷ gate ∷ source ∷ []) same = cc
terminals-named command each (word ∷ gate ∷ source ∷ drain ∷ rest) same = each word gate source drain rest same

add-named : (kind gate source drain : List ℕ) (rest : List (List ℕ)) → add_with kind gate source drain rest ≢ Err NoMemory
add-named kind gate source drain [] same =
    commanded-named (λ k. Add k gate source drain None) (kind_given kind) (kind-named kind) same
add-named kind gate source drain (strength ∷ []) same =
    two-named (λ k s. Add k gate source drain (Some s)) (kind_given kind) (number_given strength) (kind-named kind) (number-named strength) same
add-named kind gate source drain (strength ∷ other ∷ words) same = cc

wire-named : (number gate source drain : List ℕ) (rest : List (List ℕ)) → wire_with number gate source drain rest ≢ Err NoMemory
wire-named number gate source drain [] same =
    commanded-named (λ n. Wire n gate source drain) (number_given number) (number-named number) same
wire-named number gate source drain (other ∷ words) same = cc

del-named : (words : List (List ℕ)) → del_by words ≢ Err NoMemory
del-named [] same = cc
del-named (number ∷ []) same = commanded-named Del (number_given number) (number-named number) same
del-named (number ∷ other ∷ words) same = cc

command-named : (found : Option Verb) (words : List (List ℕ)) → command_by found words ≢ Err NoMemory
command-named None words same = cc
command-named (Some verb.Input) words same = family-named family.Edit Input (names_given words) (names-named words) same
command-named (Some verb.Store) words same = commanded-named family.Edit (store_by words) (store-named words) same
command-named (Some verb.Set) words same = family-named family.Give Set (assignments_given false words) (assignments-named false words) same
command-named (Some verb.Charge) words same = family-named family.Give Charge (assignments_given false words) (assignments-named false words) same
command-named (Some verb.Watch) words same = family-named family.Setup Watch (names_given words) (names-named words) same
command-named (Some verb.Limit) words same = family-named family.Setup Limit (ranged_given 1 words) (ranged-named 1 words) same
command-named (Some verb.Step) words same = alone-named (family.Run Step) words same
command-named (Some verb.Phase) words same = alone-named (family.Run Phase) words same
command-named (Some verb.Clock) words same = family-named family.Setup Clock (clocks_given words) (clocks-named words) same
command-named (Some verb.Cycle) words same = family-named family.Run Cycle (ranged_given 1 words) (ranged-named 1 words) same
command-named (Some verb.Expect) words same = family-named family.Tell Expect (assignments_given true words) (assignments-named true words) same
command-named (Some verb.Show) words same = family-named family.Tell Show (names_given words) (names-named words) same
command-named (Some verb.Look) words same = family-named family.Tell Look (names_given words) (names-named words) same
command-named (Some verb.Add) words same = commanded-named family.Edit (add_by words) (terminals-named add_with add-named words) same
command-named (Some verb.Del) words same = commanded-named family.Edit (del_by words) (del-named words) same
command-named (Some verb.Strength) words same = commanded-named family.Edit (strength_by words) (strength-named words) same
command-named (Some verb.Kind) words same = commanded-named family.Edit (kind_by words) (type-named words) same
command-named (Some verb.Wire) words same = commanded-named family.Edit (wire_by words) (terminals-named wire_with wire-named words) same
command-named (Some verb.Report) words same = alone-named (family.Run Report) words same
command-named (Some verb.Keep) words same = family-named family.Setup Keep (ranged_given 1 words) (ranged-named 1 words) same
command-named (Some verb.Wide) words same = family-named family.Setup Widen (ranged_given LEAST_WIDE words) (ranged-named LEAST_WIDE words) same
command-named (Some verb.Save) words same = family-named family.Setup Save (name_given words) (name-named words) same
command-named (Some verb.Vector) words same = commanded-named family.Setup (vector_by words) (vector-named words) same
command-named (Some verb.Back) words same = family-named family.Give Back (name_given words) (name-named words) same

some-named : (answer : Result Command ScriptFault) → answer ≢ Err NoMemory → some_command answer ≢ Err NoMemory
some-named (Ok command) named same = cc
some-named (Err fault) named same = named (let e : fault ≡ NoMemory = cc in ap Err e)

words-named : (words : List (List ℕ)) → reading_of_words words ≢ Err NoMemory
words-named [] same = cc
words-named (word ∷ words) same = some-named (command_by (verb_of word) words) (command-named (verb_of word) words) same

-- lack of memory is the reading of no line
pub reading-named : (line : List ℕ) → reading_of line ≢ Err NoMemory
reading-named line = by (line_fault line) (is_comment line)
  where
    commented : (comment : Bool) → (if comment then Ok None else reading_of_words (words_of line)) ≢ Err NoMemory
    commented true same = cc
    commented false same = words-named (words_of line) same

    by : (fault : Option LineFault) (comment : Bool) → reading_by line fault ≢ Err NoMemory
    by (Some of_line.TooLong) comment same = cc
    by (Some of_line.BadByte) comment same = cc
    by None comment same = commented (is_comment line) same

-- a command that a line asks for is well formed
pub reading-formed : (line : List ℕ) (command : Command) → reading_of line ≡ Ok (Some command) → IsFormed command
reading-formed line command asked = by (line_fault line) refl asked
  where
    commented : (comment : Bool) → line_fault line ≡ None → is_comment line ≡ comment →
        (if comment then Ok None else reading_of_words (words_of line)) ≡ Ok (Some command) → IsFormed command
    commented true sound is same = cc
    commented false sound is same = formed_words line (Ok (Some command)) sound is same

    by : (fault : Option LineFault) → line_fault line ≡ fault → reading_by line fault ≡ Ok (Some command) → IsFormed command
    by (Some of_line.TooLong) is same = cc
    by (Some of_line.BadByte) is same = cc
    by None is same = commented (is_comment line) is refl same
