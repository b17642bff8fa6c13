-- What a line without a fault asks for is well formed: its words are visible names, and the names of assignments are fronts of words.
use Rattle.std.proofs.Common.{◌≡◌, ℕ, suc, ◌-◌, ◌<◌, ◌≤◌, Bool, true, false, not, ◌&&◌, List, [], ◌∷◌, length, All, Option, Some, None, IfSome, option_map, Result, Ok, Err, IfOk, nat_le, refl, ap, ◌∙◌, subst, arith}
use Rattle.std.specs.Prelude.{⊤}
use Rattle.std.specs.List.{before_last, after_last, suffix_len}
use Rattle.std.specs.Option.{ok_or, option_and_then}
use Rattle.std.proofs.lemmas.Option.{cond_some}
use Rattle.std.proofs.lemmas.Bool.{and_parts, leb-true}
use Rattle.std.proofs.lemmas.List.Elements.{All-nil, All-cons, All-head, All-tail, All-take}
use Rattle.ternary.specs.declared.tern.Tern.{Tern}
use Rattle.ternary.specs.Tern.{of_letter}
use Rattle.line_words.specs.Bytes.{first_visible, last_visible}
use Rattle.line_words.specs.Decimals.{decimal_of}
use Rattle.line_words.specs.LineFaults.{line_fault, is_comment}
use Rattle.line_words.specs.Words.{is_word, words_of}
use Rattle.line_words.proofs.VisibleLemmas.{words_of-visible}
use Rattle.script_lang.specs.declared.TheConstants.{LEAST_WIDE, MOST_TIMES}
use Rattle.script_lang.specs.declared.verb.Verb.{Verb}
use Rattle.script_lang.specs.declared.verb.Verb.TheVariants as verb
use Rattle.script_lang.specs.declared.command.Command.{Command}
use Rattle.script_lang.specs.declared.command.Command.TheVariants as family
use Rattle.script_lang.specs.declared.command.Edit.{Edit}
use Rattle.script_lang.specs.declared.command.Edit.TheVariants.{Input, Store, Add, Del, Strength, Kind, Wire}
use Rattle.script_lang.specs.declared.command.Give.TheVariants.{Set, Charge, Back}
use Rattle.script_lang.specs.declared.value.Value.{Value}
use Rattle.script_lang.specs.declared.command.Setup.{Setup}
use Rattle.script_lang.specs.declared.command.Setup.TheVariants.{Watch, Limit, Clock, Keep, Widen, Save, Vector}
use Rattle.script_lang.specs.declared.command.Run.TheVariants.{Step, Phase, Cycle, Report}
use Rattle.script_lang.specs.declared.command.Tell.TheVariants.{Expect, Show, Look}
use Rattle.script_lang.specs.declared.command.ScriptFault.{ScriptFault}
use Rattle.script_lang.specs.declared.command.ScriptFault.TheVariants.{BadValue, BadNumber}
use Rattle.script_lang.specs.Parts.{all_of, assignment_of, beats_of, is_equals, parts_of, states_of, ranged_of, value_read, within_from}
use Rattle.script_lang.specs.Commands.{add_by, add_with, by_terminals, assignments_given, clocks_given, command_by, commanded, commanded_by, del_by, kind_by, kind_given, name_given, names_given, number_given, reading_of_words, some_command, store_by, ranged_given, strength_by, vector_by, verb_of, wire_by, wire_with}
use Rattle.script_lang.specs.Forms.{AreAssignments, AreBeats, AreNames, AreTerminalNames, IsFormed, IsFormedEdit, IsFormedSetup}
use Rattle.line_words.specs.Visible.{IsVisibleName}
use Rattle.script_lang.proofs.GivenLemmas.{holds_alone, holds_in, holds_of, holds_of_two, pair_given, terminals_given}

-- ---- what words give

-- a part with a byte is not empty
has_byte : (part : List ℕ) → is_word part ≡ true → 0 < length part
has_byte [] some = cc
has_byte (byte ∷ part) some = omega arith

-- a word that is cut gives a name, and letters
IsVisibleName-part : (word name letters : List ℕ) → IsVisibleName word → parts_of word ≡ Some (name, letters) → IsVisibleName name × (0 < length letters)
IsVisibleName-part word name letters is cut =
    let parts = cond_some (is_word (before_last is_equals word) && is_word (after_last is_equals word)) (before_last is_equals word, after_last is_equals word) (name, letters) cut in
    let words = and_parts (is_word (before_last is_equals word)) (is_word (after_last is_equals word)) parts.0 in
    subst (λ (p : List ℕ × List ℕ). IsVisibleName p.0 × (0 < length p.1)) parts.1 (
      record {
        some = has_byte (before_last is_equals word) words.0;
        visible = All-take (λ byte. (first_visible ≤ byte) × (byte ≤ last_visible)) (length word - suffix_len (λ x. not (is_equals x)) word - 1) word is.visible;
      },
      has_byte (after_last is_equals word) words.1,
    )

-- what is made of a value, if something is
mapped : {X Y : Type 0} (f : X → Y) (from : Option X) (value : Y) → option_map f from ≡ Some value → (x : X) × (from ≡ Some x) × (f x ≡ value)
mapped f None value is = cc
mapped f (Some x) value is = (x, refl, cc)

-- if a word is cut and its letters give something, that stands with the name
given_parts : {X : Type 0} (f : List ℕ → Option X) (cut : Option (List ℕ × List ℕ)) (item : List ℕ × X) →
    option_and_then (λ parts. option_map (λ x. (parts.0, x)) (f parts.1)) cut ≡ Some item →
    (letters : List ℕ) × (cut ≡ Some (item.0, letters)) × (f letters ≡ Some item.1)
given_parts f None item found = cc
given_parts {X} f (Some (name, letters)) item found =
    let made = mapped (λ x. (name, x)) (f letters) item found in (
      letters,
      ap (λ (n : List ℕ). Some (n, letters)) (ap (λ (i : List ℕ × X). i.0) made.2),
      made.1 ∙ ap Some (ap (λ (i : List ℕ × X). i.1) made.2),
    )

-- what two steps give, if both give something
both_some : {X Y Z : Type 0} (f : X → Y → Z) (first : Option X) (rest : Option Y) (value : Z) →
    option_and_then (λ x. option_map (λ y. f x y) rest) first ≡ Some value → (x : X) × (y : Y) × (first ≡ Some x) × (rest ≡ Some y) × (f x y ≡ value)
both_some f None rest value is = cc
both_some f (Some x) None value is = cc
both_some f (Some x) (Some y) value is = (x, y, refl, refl, cc)

-- what all items give has an item for each, and each is as that item gives it
pub all_given : {X Y : Type 0} (f : X → Option Y) (P : X → Type 0) (Q : Y → Type 0) → ((x : X) (y : Y) → P x → f x ≡ Some y → Q y) →
    (items : List X) (given : List Y) → All P items → all_of f items ≡ Some given → (length given ≡ length items) × All Q given
all_given f P Q each [] given all is = subst (λ list. (length list ≡ 0) × All Q list) (let e : [] ≡ given = cc in e) (refl, All-nil Q)
all_given f P Q each (item ∷ items) given all is =
    let parts = both_some (λ first rest. first ∷ rest) (f item) (all_of f items) given is in
    let more = all_given f P Q each items parts.1 (All-tail P item items all) parts.3 in
    subst (λ list. (length list ≡ length (item ∷ items)) × All Q list) parts.4
    (ap suc more.0, All-cons Q parts.0 parts.1 (each item parts.0 (All-head P item items all) parts.2) more.1)

-- an assignment of a name has a name
named_assignment : (dashes : Bool) (word : List ℕ) (item : List ℕ × Value) → IsVisibleName word → assignment_of dashes word ≡ Some item →
    IsVisibleName item.0
named_assignment dashes word item is found =
    let parts = given_parts (value_read dashes) (parts_of word) item found in (IsVisibleName-part word item.0 parts.0 is parts.1).0

-- the letters of a clock have a name, and there is one at least
pub named_beats : (word : List ℕ) (item : List ℕ × List Tern) → IsVisibleName word → beats_of word ≡ Some item → IsVisibleName item.0 × (0 < length item.1)
named_beats word item is found =
    let parts = given_parts states_of (parts_of word) item found in
    let named = IsVisibleName-part word item.0 parts.0 is parts.1 in
    let long = all_given of_letter (λ _. ⊤) (λ _. ⊤) (λ _ _ _ _. tt) parts.0 item.1 (λ _ _ _. tt) parts.2 in
    (named.0, omega (arith, named.1, long.0))

-- ---- commands

-- what is there was there
pub given_some : {X : Type 0} (found : Option X) (fault : ScriptFault) (x : X) → ok_or found fault ≡ Ok x → found ≡ Some x
given_some None fault x is = cc
given_some (Some y) fault x is = cc

-- names that are given are one or more
formed_names : (words names : List (List ℕ)) → All IsVisibleName words → names_given words ≡ Ok names → AreNames names
formed_names [] names are is = cc
formed_names (word ∷ words) names are is = subst AreNames (let same : word ∷ words ≡ names = cc in same) (omega arith, are)

-- assignments that are given are one or more, and have names
formed_assignments : (dashes : Bool) (words : List (List ℕ)) (list : List (List ℕ × Value)) → All IsVisibleName words →
    assignments_given dashes words ≡ Ok list → AreAssignments list
formed_assignments dashes [] list are is = cc
formed_assignments dashes (word ∷ words) list are is =
    let all = all_given (assignment_of dashes) IsVisibleName (λ item. IsVisibleName item.0) (named_assignment dashes) (word ∷ words) list are
    (given_some (all_of (assignment_of dashes) (word ∷ words)) BadValue list is) in
    (omega (arith, all.0), all.1)

-- clocks that are given are one or more, and each has a name and a letter
formed_clocks : (words : List (List ℕ)) (list : List (List ℕ × List Tern)) → All IsVisibleName words → clocks_given words ≡ Ok list → AreBeats list
formed_clocks [] list are is = cc
formed_clocks (word ∷ words) list are is =
    let all = all_given beats_of IsVisibleName (λ item. IsVisibleName item.0 × (0 < length item.1)) named_beats (word ∷ words) list are (given_some (all_of beats_of (word ∷ words)) BadValue list is) in
    (omega (arith, all.0), all.1)

-- a number that is given is in its range
formed_ranged : (least : ℕ) (words : List (List ℕ)) (number : ℕ) → ranged_given least words ≡ Ok number → (least ≤ number) × (number ≤ MOST_TIMES)
formed_ranged least [] number is = cc
formed_ranged least (word ∷ other ∷ words) number is = cc
formed_ranged least (word ∷ []) number is = in_range (decimal_of word) (given_some (ranged_of least word) BadNumber number is)
  where
    in_range : (decimal : Option ℕ) → option_and_then (within_from least) decimal ≡ Some number → (least ≤ number) × (number ≤ MOST_TIMES)
    in_range None within = cc
    in_range (Some n) within =
        let both = cond_some (nat_le least n && nat_le n MOST_TIMES) n number within in
        let bounds = and_parts (nat_le least n) (nat_le n MOST_TIMES) both.0 in
        subst (λ it. (least ≤ it) × (it ≤ MOST_TIMES)) both.1 (leb-true least n bounds.0, leb-true n MOST_TIMES bounds.1)

-- a name alone is a word
formed_name : (words : List (List ℕ)) (name : List ℕ) → All IsVisibleName words → name_given words ≡ Ok name → IsVisibleName name
formed_name [] name are is = cc
formed_name (word ∷ []) name are is = subst IsVisibleName (let same : word ≡ name = cc in same) (All-head IsVisibleName word [] are)
formed_name (word ∷ other ∷ words) name are is = cc

-- so is that of `vector`, and its words are one or more
formed_vector : (words : List (List ℕ)) (made : Setup) → All IsVisibleName words → vector_by words ≡ Ok made → IsFormedSetup made
formed_vector [] made are is = cc
formed_vector (name ∷ words) made are is =
    holds_of IsFormedSetup (Vector name) (names_given words) made
    (λ names given. (All-head IsVisibleName name words are, formed_names words names (All-tail IsVisibleName name words are) given)) is

-- the name of `store` is a word
formed_store : (words : List (List ℕ)) (made : Edit) → All IsVisibleName words → store_by words ≡ Ok made → IsFormedEdit made
formed_store words made are is =
    let of = pair_given (λ name size. ok_or (option_map (Store name) (decimal_of size)) BadNumber) words made is in
    let stored = mapped (Store of.one) (decimal_of of.other) made (given_some (option_map (Store of.one) (decimal_of of.other)) BadNumber made of.makes) in
    subst IsFormedEdit stored.2 (All-head IsVisibleName of.one (of.other ∷ []) (subst (All IsVisibleName) of.are are))

-- three words are the names of terminals
terminals_of : (gate source drain : List ℕ) (words : List (List ℕ)) → All IsVisibleName (gate ∷ source ∷ drain ∷ words) →
    AreTerminalNames gate source drain
terminals_of gate source drain words are =
    let later = All-tail IsVisibleName gate (source ∷ drain ∷ words) are in (
      All-head IsVisibleName gate (source ∷ drain ∷ words) are,
      All-head IsVisibleName source (drain ∷ words) later,
      All-head IsVisibleName drain words (All-tail IsVisibleName source (drain ∷ words) later),
    )

-- so are the terminals of an edit
formed_terminals : (command : List ℕ → List ℕ → List ℕ → List ℕ → List (List ℕ) → Result Edit ScriptFault) (words : List (List ℕ)) (made : Edit) →
    ((word gate source drain : List ℕ) (rest : List (List ℕ)) → AreTerminalNames gate source drain → command word gate source drain rest ≡ Ok made → IsFormedEdit made) →
    All IsVisibleName words → by_terminals command words ≡ Ok made → IsFormedEdit made
formed_terminals command words made each are is =
    let of = terminals_given command words made is in
    let later = All-tail IsVisibleName of.word (of.gate ∷ of.source ∷ of.drain ∷ of.rest) (subst (All IsVisibleName) of.are are) in
    each of.word of.gate of.source of.drain of.rest (terminals_of of.gate of.source of.drain of.rest later) of.makes

formed_add : (made : Edit) (kind gate source drain : List ℕ) (rest : List (List ℕ)) → AreTerminalNames gate source drain →
    add_with kind gate source drain rest ≡ Ok made → IsFormedEdit made
formed_add made kind gate source drain [] names is =
    holds_of IsFormedEdit (λ k. Add k gate source drain None) (kind_given kind) made (λ _ _. names) is
formed_add made kind gate source drain (strength ∷ []) names is =
    holds_of_two IsFormedEdit (λ k s. Add k gate source drain (Some s)) (kind_given kind) (number_given strength) made (λ _ _. names) is
formed_add made kind gate source drain (strength ∷ other ∷ words) names is = cc

formed_wire : (made : Edit) (number gate source drain : List ℕ) (rest : List (List ℕ)) → AreTerminalNames gate source drain →
    wire_with number gate source drain rest ≡ Ok made → IsFormedEdit made
formed_wire made number gate source drain [] names is =
    holds_of IsFormedEdit (λ n. Wire n gate source drain) (number_given number) made (λ _ _. names) is
formed_wire made number gate source drain (other ∷ words) names is = cc

-- numbers and kinds are well formed, whatever they are
formed_del : (words : List (List ℕ)) (made : Edit) → del_by words ≡ Ok made → IsFormedEdit made
formed_del [] made is = cc
formed_del (number ∷ []) made is = holds_of IsFormedEdit Del (number_given number) made (λ _ _. tt) is
formed_del (number ∷ other ∷ words) made is = cc

formed_strength : (words : List (List ℕ)) (made : Edit) → strength_by words ≡ Ok made → IsFormedEdit made
formed_strength words made is =
    let of = pair_given (λ number strength. commanded_by Strength (number_given number) (number_given strength)) words made is in
    holds_of_two IsFormedEdit Strength (number_given of.one) (number_given of.other) made (λ _ _. tt) of.makes

formed_kind : (words : List (List ℕ)) (made : Edit) → kind_by words ≡ Ok made → IsFormedEdit made
formed_kind words made is =
    let of = pair_given (λ number kind. commanded_by Kind (number_given number) (kind_given kind)) words made is in
    holds_of_two IsFormedEdit Kind (number_given of.one) (kind_given of.other) made (λ _ _. tt) of.makes

-- a well-formed edit is a well-formed command
edit_formed : (given : Result Edit ScriptFault) (made : Command) → ((edit : Edit) → given ≡ Ok edit → IsFormedEdit edit) →
    commanded family.Edit given ≡ Ok made → IsFormed made
edit_formed given made each is = holds_of IsFormed family.Edit given made each is

-- the command of a verb with names after it is well formed
formed_by : (verb : Option Verb) (words : List (List ℕ)) (made : Command) → All IsVisibleName words → command_by verb words ≡ Ok made → IsFormed made
formed_by None words made are is = cc
formed_by (Some verb.Input) words made are is =
    holds_in IsFormed family.Edit Input (names_given words) made (λ names given. formed_names words names are given) is
formed_by (Some verb.Store) words made are is = edit_formed (store_by words) made (λ edit given. formed_store words edit are given) is
formed_by (Some verb.Set) words made are is =
    holds_in IsFormed family.Give Set (assignments_given false words) made (λ list given. formed_assignments false words list are given) is
formed_by (Some verb.Charge) words made are is =
    holds_in IsFormed family.Give Charge (assignments_given false words) made (λ list given. formed_assignments false words list are given) is
formed_by (Some verb.Watch) words made are is =
    holds_in IsFormed family.Setup Watch (names_given words) made (λ names given. formed_names words names are given) is
formed_by (Some verb.Limit) words made are is = holds_in IsFormed family.Setup Limit (ranged_given 1 words) made (formed_ranged 1 words) is
formed_by (Some verb.Step) words made are is = holds_alone IsFormed (family.Run Step) words made tt is
formed_by (Some verb.Phase) words made are is = holds_alone IsFormed (family.Run Phase) words made tt is
formed_by (Some verb.Clock) words made are is =
    holds_in IsFormed family.Setup Clock (clocks_given words) made (λ list given. formed_clocks words list are given) is
formed_by (Some verb.Cycle) words made are is = holds_in IsFormed family.Run Cycle (ranged_given 1 words) made (formed_ranged 1 words) is
formed_by (Some verb.Expect) words made are is =
    holds_in IsFormed family.Tell Expect (assignments_given true words) made (λ list given. formed_assignments true words list are given) is
formed_by (Some verb.Show) words made are is =
    holds_in IsFormed family.Tell Show (names_given words) made (λ names given. formed_names words names are given) is
formed_by (Some verb.Look) words made are is =
    holds_in IsFormed family.Tell Look (names_given words) made (λ names given. formed_names words names are given) is
formed_by (Some verb.Add) words made are is =
    edit_formed (add_by words) made (λ edit given. formed_terminals add_with words edit (formed_add edit) are given) is
formed_by (Some verb.Del) words made are is = edit_formed (del_by words) made (formed_del words) is
formed_by (Some verb.Strength) words made are is = edit_formed (strength_by words) made (formed_strength words) is
formed_by (Some verb.Kind) words made are is = edit_formed (kind_by words) made (formed_kind words) is
formed_by (Some verb.Wire) words made are is =
    edit_formed (wire_by words) made (λ edit given. formed_terminals wire_with words edit (formed_wire edit) are given) is
formed_by (Some verb.Report) words made are is = holds_alone IsFormed (family.Run Report) words made tt is
formed_by (Some verb.Keep) words made are is = holds_in IsFormed family.Setup Keep (ranged_given 1 words) made (formed_ranged 1 words) is
formed_by (Some verb.Wide) words made are is =
    holds_in IsFormed family.Setup Widen (ranged_given LEAST_WIDE words) made (formed_ranged LEAST_WIDE words) is
formed_by (Some verb.Save) words made are is =
    holds_in IsFormed family.Setup Save (name_given words) made (λ name given. formed_name words name are given) is
formed_by (Some verb.Vector) words made are is =
    holds_of IsFormed family.Setup (vector_by words) made (λ setup given. formed_vector words setup are given) is
formed_by (Some verb.Back) words made are is =
    holds_in IsFormed family.Give Back (name_given words) made (λ name given. formed_name words name are given) is

-- what the words of a line ask for is well formed, if they are names
formed_line : (words : List (List ℕ)) (found : Option Command) → All IsVisibleName words → reading_of_words words ≡ Ok found → IfSome found IsFormed
formed_line words None are is = tt
formed_line [] (Some command) are is = cc
formed_line (word ∷ words) (Some command) are is =
    formed_by (verb_of word) words command (All-tail IsVisibleName word words are) (asked (command_by (verb_of word) words) is)
  where
    asked : (answer : Result Command ScriptFault) → some_command answer ≡ Ok (Some command) → answer ≡ Ok command
    asked (Ok made) is = cc
    asked (Err fault) is = cc

-- what was read of the words of a line that has no fault and is no comment is well formed
pub formed_words : (line : List ℕ) (result : Result (Option Command) ScriptFault) → line_fault line ≡ None → is_comment line ≡ false →
    IfOk result (λ found. reading_of_words (words_of line) ≡ Ok found) → IfOk result (λ found. IfSome found IsFormed)
formed_words line (Ok found) sound other is = formed_line (words_of line) found (words_of-visible line sound other) is
formed_words line (Err fault) sound other is = tt
