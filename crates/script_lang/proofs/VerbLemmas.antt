-- A line that asks for a command begins with the command's word.
use Rattle.std.proofs.Common.{◌≡◌, ℕ, Bool, true, false, List, [], ◌∷◌, Option, Some, None, option_map, Result, Ok, Err, refl, sym, ◌∙◌, subst, if◌then◌else◌}
use Rattle.std.specs.Prelude.{codes, bytes_eq}
use Rattle.std.specs.Option.{ok_or}
use Rattle.std.proofs.lemmas.Slice.Eq.{bytes_eq-Decides}
use Rattle.line_words.specs.Decimals.{decimal_of}
use Rattle.script_lang.specs.declared.verb.Verb.{Verb}
use Rattle.script_lang.specs.declared.verb.Verb.TheVariants as verb
use Rattle.script_lang.specs.declared.command.Command.{Command}
use Rattle.script_lang.specs.declared.command.Command.TheVariants as family
use Rattle.script_lang.specs.declared.command.Edit.{Edit}
use Rattle.script_lang.specs.declared.command.Edit.TheVariants.{Input, Store, Add, Del, Strength, Kind, Wire}
use Rattle.script_lang.specs.declared.command.Give.TheVariants.{Set, Charge, Back}
use Rattle.script_lang.specs.declared.command.Setup.{Setup}
use Rattle.script_lang.specs.declared.command.Setup.TheVariants.{Watch, Limit, Clock, Keep, Widen, Save, Vector}
use Rattle.script_lang.specs.declared.command.Run.TheVariants.{Step, Phase, Cycle, Report}
use Rattle.script_lang.specs.declared.command.Tell.TheVariants.{Expect, Show, Look}
use Rattle.script_lang.specs.declared.command.ScriptFault.{ScriptFault}
use Rattle.script_lang.specs.declared.command.ScriptFault.TheVariants.{BadNumber}
use Rattle.script_lang.specs.declared.TheConstants.{LEAST_WIDE}
use Rattle.script_lang.specs.Commands.{add_by, add_with, by_terminals, assignments_given, clocks_given, command_by, commanded, commanded_by, del_by, kind_by, kind_given, name_given, names_given, number_given, reading_of_words, some_command, ranged_given, store_by, strength_by, vector_by, verb_of, wire_by, wire_with, word_of, word_of_edit, word_of_setup}
use Rattle.script_lang.proofs.GivenLemmas.{holds_alone, holds_in, holds_of, holds_of_two, pair_given, terminals_given}

-- the word of a verb
abbrev text_of : Verb → List ℕ
text_of verb.Input = codes "input"
text_of verb.Store = codes "store"
text_of verb.Set = codes "set"
text_of verb.Charge = codes "charge"
text_of verb.Watch = codes "watch"
text_of verb.Limit = codes "limit"
text_of verb.Step = codes "step"
text_of verb.Phase = codes "phase"
text_of verb.Clock = codes "clock"
text_of verb.Cycle = codes "cycle"
text_of verb.Expect = codes "expect"
text_of verb.Show = codes "show"
text_of verb.Look = codes "look"
text_of verb.Add = codes "add"
text_of verb.Del = codes "del"
text_of verb.Strength = codes "strength"
text_of verb.Kind = codes "type"
text_of verb.Wire = codes "wire"
text_of verb.Report = codes "report"
text_of verb.Keep = codes "keep"
text_of verb.Wide = codes "wide"
text_of verb.Save = codes "save"
text_of verb.Back = codes "back"
text_of verb.Vector = codes "vector"

-- the word is that of the verb, if there is one
abbrev IsWordOf : List ℕ → Option Verb → Type 0
IsWordOf word None = Unit {0}
IsWordOf word (Some v) = word ≡ text_of v

-- a verb is found by its word, or it is one of the others
found_by : (word : List ℕ) (v : Verb) (rest : Option Verb) → IsWordOf word rest → IsWordOf word (if bytes_eq word (text_of v) then Some v else rest)
found_by word v rest later = by (bytes_eq word (text_of v)) refl
  where
    by : (test : Bool) → bytes_eq word (text_of v) ≡ test → IsWordOf word (if test then Some v else rest)
    by true is = (bytes_eq-Decides word (text_of v)).0 is
    by false is = later

verb_word : (word : List ℕ) → IsWordOf word (verb_of word)
verb_word word =
    found_by word verb.Input _
    (found_by word verb.Store _
    (found_by word verb.Set _
    (found_by word verb.Charge _
    (found_by word verb.Watch _
    (found_by word verb.Limit _
    (found_by word verb.Step _
    (found_by word verb.Phase _
    (found_by word verb.Clock _
    (found_by word verb.Cycle _
    (found_by word verb.Expect _
    (found_by word verb.Show _
    (found_by word verb.Look _
    (found_by word verb.Add _
    (found_by word verb.Del _
    (found_by word verb.Strength _
    (found_by word verb.Kind _
    (found_by word verb.Wire _
    (found_by word verb.Report _
    (found_by word verb.Keep _
    (found_by word verb.Wide _
    (found_by word verb.Save _
    (found_by word verb.Back _
    (found_by word verb.Vector None tt)))))))))))))))))))))))

-- ---- the word of what was made

-- the command and the edit have this word
abbrev Has : List ℕ → Command → Type 0
Has text command = word_of command ≡ text

abbrev HasEdit : List ℕ → Edit → Type 0
HasEdit text edit = word_of_edit edit ≡ text

store_word : (words : List (List ℕ)) (made : Edit) → store_by words ≡ Ok made → HasEdit (codes "store") made
store_word words made is =
    let of = pair_given (λ name size. ok_or (option_map (Store name) (decimal_of size)) BadNumber) words made is in
    by of.one (decimal_of of.other) of.makes
  where
    by : (name : List ℕ) (found : Option ℕ) → ok_or (option_map (Store name) found) BadNumber ≡ Ok made → HasEdit (codes "store") made
    by name None is = cc
    by name (Some number) is = subst (HasEdit (codes "store")) (let same : Store name number ≡ made = cc in same) refl

vector_word : (words : List (List ℕ)) (setup : Setup) → vector_by words ≡ Ok setup → word_of_setup setup ≡ codes "vector"
vector_word [] setup is = cc
vector_word (name ∷ words) setup is = holds_of (λ one. word_of_setup one ≡ codes "vector") (Vector name) (names_given words) setup (λ _ _. refl) is

add_word : (made : Edit) (kind gate source drain : List ℕ) (rest : List (List ℕ)) → add_with kind gate source drain rest ≡ Ok made →
    HasEdit (codes "add") made
add_word made kind gate source drain [] is =
    holds_of (HasEdit (codes "add")) (λ k. Add k gate source drain None) (kind_given kind) made (λ _ _. refl) is
add_word made kind gate source drain (strength ∷ []) is =
    holds_of_two (HasEdit (codes "add")) (λ k s. Add k gate source drain (Some s)) (kind_given kind) (number_given strength) made (λ _ _. refl) is
add_word made kind gate source drain (strength ∷ other ∷ words) is = cc

del_word : (words : List (List ℕ)) (made : Edit) → del_by words ≡ Ok made → HasEdit (codes "del") made
del_word [] made is = cc
del_word (number ∷ []) made is = holds_of (HasEdit (codes "del")) Del (number_given number) made (λ _ _. refl) is
del_word (number ∷ other ∷ words) made is = cc

strength_word : (words : List (List ℕ)) (made : Edit) → strength_by words ≡ Ok made → HasEdit (codes "strength") made
strength_word words made is =
    let of = pair_given (λ number strength. commanded_by Strength (number_given number) (number_given strength)) words made is in
    holds_of_two (HasEdit (codes "strength")) Strength (number_given of.one) (number_given of.other) made (λ _ _. refl) of.makes

kind_word : (words : List (List ℕ)) (made : Edit) → kind_by words ≡ Ok made → HasEdit (codes "type") made
kind_word words made is =
    let of = pair_given (λ number kind. commanded_by Kind (number_given number) (kind_given kind)) words made is in
    holds_of_two (HasEdit (codes "type")) Kind (number_given of.one) (kind_given of.other) made (λ _ _. refl) of.makes

wire_word : (made : Edit) (number gate source drain : List ℕ) (rest : List (List ℕ)) → wire_with number gate source drain rest ≡ Ok made →
    HasEdit (codes "wire") made
wire_word made number gate source drain [] is =
    holds_of (HasEdit (codes "wire")) (λ n. Wire n gate source drain) (number_given number) made (λ _ _. refl) is
wire_word made number gate source drain (other ∷ words) is = cc

-- so has one that is given the names of terminals
terminals_word : (command : List ℕ → List ℕ → List ℕ → List ℕ → List (List ℕ) → Result Edit ScriptFault) (text : List ℕ) (words : List (List ℕ)) (made : Edit) →
    ((word gate source drain : List ℕ) (rest : List (List ℕ)) → command word gate source drain rest ≡ Ok made → HasEdit text made) →
    by_terminals command words ≡ Ok made → HasEdit text made
terminals_word command text words made each is =
    let of = terminals_given command words made is in each of.word of.gate of.source of.drain of.rest of.makes

-- the command of an edit has its word
edit_word : (text : List ℕ) (given : Result Edit ScriptFault) (made : Command) → ((edit : Edit) → given ≡ Ok edit → HasEdit text edit) →
    commanded family.Edit given ≡ Ok made → Has text made
edit_word text given made each is = holds_of (Has text) family.Edit given made each is

-- the command of a verb has the verb's word
command_word : (v : Verb) (words : List (List ℕ)) (made : Command) → command_by (Some v) words ≡ Ok made → Has (text_of v) made
command_word verb.Input words made is = holds_in (Has (codes "input")) family.Edit Input (names_given words) made (λ _ _. refl) is
command_word verb.Store words made is = edit_word (codes "store") (store_by words) made (store_word words) is
command_word verb.Set words made is = holds_in (Has (codes "set")) family.Give Set (assignments_given false words) made (λ _ _. refl) is
command_word verb.Charge words made is = holds_in (Has (codes "charge")) family.Give Charge (assignments_given false words) made (λ _ _. refl) is
command_word verb.Watch words made is = holds_in (Has (codes "watch")) family.Setup Watch (names_given words) made (λ _ _. refl) is
command_word verb.Limit words made is = holds_in (Has (codes "limit")) family.Setup Limit (ranged_given 1 words) made (λ _ _. refl) is
command_word verb.Step words made is = holds_alone (Has (codes "step")) (family.Run Step) words made refl is
command_word verb.Phase words made is = holds_alone (Has (codes "phase")) (family.Run Phase) words made refl is
command_word verb.Clock words made is = holds_in (Has (codes "clock")) family.Setup Clock (clocks_given words) made (λ _ _. refl) is
command_word verb.Cycle words made is = holds_in (Has (codes "cycle")) family.Run Cycle (ranged_given 1 words) made (λ _ _. refl) is
command_word verb.Expect words made is = holds_in (Has (codes "expect")) family.Tell Expect (assignments_given true words) made (λ _ _. refl) is
command_word verb.Show words made is = holds_in (Has (codes "show")) family.Tell Show (names_given words) made (λ _ _. refl) is
command_word verb.Look words made is = holds_in (Has (codes "look")) family.Tell Look (names_given words) made (λ _ _. refl) is
command_word verb.Add words made is =
    edit_word (codes "add") (add_by words) made (λ edit given. terminals_word add_with (codes "add") words edit (add_word edit) given) is
command_word verb.Del words made is = edit_word (codes "del") (del_by words) made (del_word words) is
command_word verb.Strength words made is = edit_word (codes "strength") (strength_by words) made (strength_word words) is
command_word verb.Kind words made is = edit_word (codes "type") (kind_by words) made (kind_word words) is
command_word verb.Wire words made is =
    edit_word (codes "wire") (wire_by words) made (λ edit given. terminals_word wire_with (codes "wire") words edit (wire_word edit) given) is
command_word verb.Report words made is = holds_alone (Has (codes "report")) (family.Run Report) words made refl is
command_word verb.Keep words made is = holds_in (Has (codes "keep")) family.Setup Keep (ranged_given 1 words) made (λ _ _. refl) is
command_word verb.Wide words made is = holds_in (Has (codes "wide")) family.Setup Widen (ranged_given LEAST_WIDE words) made (λ _ _. refl) is
command_word verb.Save words made is = holds_in (Has (codes "save")) family.Setup Save (name_given words) made (λ _ _. refl) is
command_word verb.Vector words made is = holds_of (Has (codes "vector")) family.Setup (vector_by words) made (vector_word words) is
command_word verb.Back words made is = holds_in (Has (codes "back")) family.Give Back (name_given words) made (λ _ _. refl) is

-- a line that asks for a command begins with the command's word
pub first_word : (word : List ℕ) (words : List (List ℕ)) (made : Command) → reading_of_words (word ∷ words) ≡ Ok (Some made) → word ≡ word_of made
first_word word words made is = by (verb_of word) (verb_word word) (asked (command_by (verb_of word) words) is)
  where
    asked : (answer : Result Command ScriptFault) → some_command answer ≡ Ok (Some made) → answer ≡ Ok made
    asked (Ok command) is = cc
    asked (Err fault) is = cc

    by : (v : Option Verb) → IsWordOf word v → command_by v words ≡ Ok made → word ≡ word_of made
    by None is made_is = cc
    by (Some v) is made_is = is ∙ sym (command_word v words made made_is)
