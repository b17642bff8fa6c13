-- No refusal looks at a letter. Under two valuations a value gives letters to the same nodes, so it is refused alike; and a command is refused alike
-- by sessions that differ in states alone.
use Rattle.std.proofs.Common.{◌≡◌, ℕ, zero, suc, Bool, true, false, ◌==◌, List, [], ◌∷◌, length, map, Option, Some, None, Result, Ok, Err, inl, inr, refl, sym, ap, ap₂, ◌∙◌, subst, if◌then◌else◌}
use Rattle.std.specs.Prelude.{cond, find, is_some, nat_le, option_map, replicate, zip, ◌+◌, not}
use Rattle.std.proofs.lemmas.Bool.{cases_Bool}
use Rattle.std.proofs.lemmas.List.{length-map}
use Rattle.std.proofs.lemmas.List.Sums.{sum_by-cons}
use Rattle.ternary.specs.declared.tern.Tern.{Tern}
use Rattle.netlist.specs.Circuits.{CircuitData}
use Rattle.netlist.specs.Names.{node_of}
use Rattle.vector_values.specs.Values.{Letter, one_for_all, plain_value, spread}
use Rattle.node_words.specs.Words.{named}
use Rattle.node_words.specs.Vectors.{vector_fault}
use Rattle.node_values.specs.Givings.{letters_given, states_given, vector_named, with_letters, with_state, with_value_at}
use Rattle.script_lang.specs.declared.value.Value.{Value}
use Rattle.script_lang.specs.declared.command.Command.{Command}
use Rattle.script_lang.specs.declared.command.Command.TheVariants as family
use Rattle.script_lang.specs.declared.command.Give.{Give}
use Rattle.script_lang.specs.declared.command.Give.TheVariants.{Set, Charge, Back}
use Rattle.script_lang.specs.declared.command.Setup.{Setup}
use Rattle.script_lang.specs.declared.command.Setup.TheVariants.{Watch, Limit, Clock, Keep, Widen, Save, Vector}
use Rattle.script_lang.specs.declared.command.ScriptFault.{ScriptFault}
use Rattle.formula_functions.specs.Truths.{truth_of}
use Rattle.truth_makers.specs.Expecting.{state_of_truth}
use Rattle.symbol_lines.specs.declared.items.Item.{Item}
use Rattle.symbol_lines.specs.declared.items.Item.TheVariants as item
use Rattle.symbol_lines.specs.declared.values.SymbolValue.{SymbolValue}
use Rattle.symbol_lines.specs.declared.values.SymbolValue.TheVariants as value
use Rattle.symbol_script.specs.declared.line.Assignment.{Assignment}
use Rattle.symbol_script.specs.declared.line.SymbolLine.{SymbolLine}
use Rattle.symbol_script.specs.declared.line.SymbolLine.TheVariants as asks_for
use Rattle.symbol_script.specs.declared.line.ValueVerb.{ValueVerb}
use Rattle.symbol_script.specs.declared.line.ValueVerb.TheVariants as verb
use Rattle.symbol_script.specs.Lines.{symbol_reading_of}
use Rattle.circuit_texts.specs.Sizes.{TellsRefused}
use Rattle.run_ends.specs.Causes.{size_cause}
use Rattle.session_meaning.specs.declared.TheConstants.{MOST_SAVES}
use Rattle.session_meaning.specs.declared.fault.Refusal.{Refusal}
use Rattle.session_meaning.specs.declared.fault.Refusal.TheVariants.{TooManySaves}
use Rattle.session_meaning.specs.Saves.{is_under, kept_under, other_saves}
use Rattle.session_meaning.specs.Sessions.{ClockData, SessionData}
use Rattle.session_meaning.specs.Preparing.{builds}
use Rattle.session_meaning.specs.Refusals.{all_named, back_refusal, charge_at, first_refusal, given_refusal, givings_refusal, known_refusal, length_refusal, none_at, or_else, place_refusal, refusal_of, refusal_of_edit, refusal_of_give, refusal_of_run, refusal_of_setup, refusal_of_tell, set_at, set_refusal, values_refusal, vector_refusal, watch_refusal}
use Rattle.script_meaning.specs.Runs.{Asks}
use Rattle.script_meaning.specs.Runs.IsRefused.{too_long, unread, refused, too_large}
use Rattle.symbol_meaning.specs.Readings.{command_under, command_with, given_by_list, given_under, letter_under, plain_under, reading_under}
use Rattle.symbol_meaning.specs.Laws.{AlikeButStates, ValuationsRefuseAlike}

-- ---- letters of the same nodes

-- the letters give states to the same nodes
abbrev pub AreAlike : List Letter → List Letter → Type 0
AreAlike one other = map (λ (letter : Letter). is_some letter) one ≡ map (λ (letter : Letter). is_some letter) other

-- so the nodes that are given states are the same
states-alike : (at : ℕ → Option Refusal) (nodes : List ℕ) (one other : List Letter) → AreAlike one other →
    first_refusal (λ (pair : ℕ × Tern). at pair.0) (states_given (zip nodes one)) ≡ first_refusal (λ (pair : ℕ × Tern). at pair.0) (states_given (zip nodes other))
states-alike at [] one other same = refl
states-alike at (node ∷ nodes) [] [] same = refl
states-alike at (node ∷ nodes) [] (b ∷ other) same = absurd (cc)
states-alike at (node ∷ nodes) (a ∷ one) [] same = absurd (cc)
states-alike at (node ∷ nodes) (None ∷ one) (None ∷ other) same = states-alike at nodes one other (let e : AreAlike one other = cc in e)
states-alike at (node ∷ nodes) (None ∷ one) (Some t ∷ other) same = absurd (let e : false ≡ true = cc in cc)
states-alike at (node ∷ nodes) (Some s ∷ one) (None ∷ other) same = absurd (let e : true ≡ false = cc in cc)
states-alike at (node ∷ nodes) (Some s ∷ one) (Some t ∷ other) same =
    ap (or_else (at node)) (states-alike at nodes one other (let e : AreAlike one other = cc in e))

-- one state for all of them gives states to all
replicas-alike : (count : ℕ) (s t : Tern) → AreAlike (replicate count (Some s)) (replicate count (Some t))
replicas-alike zero s t = refl
replicas-alike (suc count) s t = ap (λ (rest : List Bool). true ∷ rest) (replicas-alike count s t)

-- a state for a name's nodes is refused as any other
pub state-alike : (at : ℕ → Option Refusal) (found : Option (List ℕ)) (s t : Tern) → given_refusal at (with_state s found) ≡ given_refusal at (with_state t found)
state-alike at None s t = refl
state-alike at (Some nodes) s t =
    states-alike at nodes (replicate (length nodes) (Some s)) (replicate (length nodes) (Some t)) (replicas-alike (length nodes) s t)

-- letters for a vector's nodes, if they are as many, else none
abbrev pub given_to : (ℕ → Option Refusal) → List ℕ → Bool → List Letter → Option Refusal
given_to at nodes fits letters = given_refusal at (with_letters nodes (spread (length nodes) (if fits then letters else [])))

pub given_to-alike : (at : ℕ → Option Refusal) (nodes : List ℕ) (one other : List Letter) → AreAlike one other → (fits : Bool) →
    (length one == length nodes) ≡ fits → (length other == length nodes) ≡ fits → given_to at nodes fits one ≡ given_to at nodes fits other
given_to-alike at nodes one other same false first second = refl
given_to-alike at nodes one other same true first second =
    ap (λ (test : Bool). given_refusal at (with_letters nodes (if test then Some one else one_for_all (length nodes) one))) first
    ∙ states-alike at nodes one other same
    ∙ sym (ap (λ (test : Bool). given_refusal at (with_letters nodes (if test then Some other else one_for_all (length nodes) other))) second)

-- letters that are alike are as many
lengths-alike : (one other : List Letter) → AreAlike one other → length one ≡ length other
lengths-alike one other same =
    sym (length-map one (λ (letter : Letter). is_some letter)) ∙ ap length same ∙ length-map other (λ (letter : Letter). is_some letter)

module _ (c : CircuitData) (vectors : List (List ℕ × List ℕ)) (values others : List ℕ → Bool) where
  -- the letters of a list are alike under two valuations
  letters-alike : (items : List Item) → AreAlike (map (letter_under values) items) (map (letter_under others) items)
  letters-alike [] = refl
  letters-alike (item.Letter letter ∷ items) = ap (λ (rest : List Bool). is_some letter ∷ rest) (letters-alike items)
  letters-alike (item.Formula parts ∷ items) = ap (λ (rest : List Bool). true ∷ rest) (letters-alike items)

  -- so a list is refused alike where it is given
  list-alike : (at : ℕ → Option Refusal) (name : List ℕ) (found : Option (List ℕ)) → vector_named c vectors name ≡ found → (items : List Item) →
      given_refusal at (letters_given c vectors (name, given_by_list found (map (letter_under values) items)))
      ≡ given_refusal at (letters_given c vectors (name, given_by_list found (map (letter_under others) items)))
  list-alike at name (Some nodes) is items =
      let one = map (letter_under values) items in
      let other = map (letter_under others) items in
      let same = letters-alike items in
      let even : (length other == length nodes) ≡ (length one == length nodes) = ap (λ n. n == length nodes) (sym (lengths-alike one other same)) in
      let fitted = λ (letters : List Letter). plain_value (if length letters == length nodes then letters else []) in
      ap (λ (list : Option (List ℕ)). given_refusal at (with_value_at (fitted one) list)) is
      ∙ given_to-alike at nodes one other same (length one == length nodes) refl even
      ∙ ap (λ (test : Bool). given_to at nodes test other) (sym even)
      ∙ sym (ap (λ (list : Option (List ℕ)). given_refusal at (with_value_at (fitted other) list)) is)
  list-alike at name None is [] = refl
  list-alike at name None is (item.Letter letter ∷ []) = refl
  list-alike at name None is (item.Formula parts ∷ []) = state-alike at (named c vectors name) (state_of_truth (truth_of values parts)) (state_of_truth (truth_of others parts))
  list-alike at name None is (own ∷ second ∷ items) =
      ap (λ (list : Option (List ℕ)). given_refusal at (with_value_at (plain_value (map (letter_under values) (own ∷ second ∷ items))) list)) is
      ∙ sym (ap (λ (list : Option (List ℕ)). given_refusal at (with_value_at (plain_value (map (letter_under others) (own ∷ second ∷ items))) list)) is)

  -- and where it may not stand
  list-placed : (name : List ℕ) (found : Option (List ℕ)) (items : List Item) →
      place_refusal c vectors (name, given_by_list found (map (letter_under values) items))
      ≡ place_refusal c vectors (name, given_by_list found (map (letter_under others) items))
  list-placed name (Some nodes) items = refl
  list-placed name None [] = refl
  list-placed name None (item.Letter letter ∷ []) = refl
  list-placed name None (item.Formula parts ∷ []) = refl
  list-placed name None (own ∷ second ∷ items) = refl

  -- so is any value
  value-alike : (at : ℕ → Option Refusal) (name : List ℕ) (own : SymbolValue) →
      given_refusal at (letters_given c vectors (name, given_under values (vector_named c vectors name) own))
      ≡ given_refusal at (letters_given c vectors (name, given_under others (vector_named c vectors name) own))
  value-alike at name (value.Plain plain) = refl
  value-alike at name (value.List items) = list-alike at name (vector_named c vectors name) refl items

  value-placed : (name : List ℕ) (own : SymbolValue) →
      place_refusal c vectors (name, given_under values (vector_named c vectors name) own)
      ≡ place_refusal c vectors (name, given_under others (vector_named c vectors name) own)
  value-placed name (value.Plain plain) = refl
  value-placed name (value.List items) = list-placed name (vector_named c vectors name) items

  -- and all assignments of a line
  all-placed : (list : List Assignment) →
      first_refusal (place_refusal c vectors) (map (plain_under values c vectors) list) ≡ first_refusal (place_refusal c vectors) (map (plain_under others c vectors) list)
  all-placed [] = refl
  all-placed (own ∷ list) = ap₂ or_else (value-placed own.name own.value) (all-placed list)

  all-given : (at : ℕ → Option Refusal) (list : List Assignment) →
      givings_refusal at c vectors (map (plain_under values c vectors) list) ≡ givings_refusal at c vectors (map (plain_under others c vectors) list)
  all-given at [] = refl
  all-given at (own ∷ list) = ap₂ or_else (value-alike at own.name own.value) (all-given at list)

  values-alike : (at : ℕ → Option Refusal) (list : List Assignment) →
      values_refusal at c vectors (map (plain_under values c vectors) list) ≡ values_refusal at c vectors (map (plain_under others c vectors) list)
  values-alike at list = ap₂ or_else (all-placed list) (all-given at list)

-- ---- commands

-- a command that is given values is refused alike
command-alike : (session : SessionData) (values others : List ℕ → Bool) (own : ValueVerb) (list : List Assignment) →
    refusal_of session (command_with own (map (plain_under others session.circuit session.vectors) list))
    ≡ refusal_of session (command_with own (map (plain_under values session.circuit session.vectors) list))
command-alike session values others verb.Set list = values-alike session.circuit session.vectors others values (set_at session.circuit) list
command-alike session values others verb.Charge list = values-alike session.circuit session.vectors others values (charge_at session.circuit) list
command-alike session values others verb.Expect list = values-alike session.circuit session.vectors others values none_at list

-- and builds nothing
builds-alike : (own : ValueVerb) (list more : List (List ℕ × Value)) → builds (command_with own list) ≡ builds (command_with own more)
builds-alike verb.Set list more = refl
builds-alike verb.Charge list more = refl
builds-alike verb.Expect list more = refl

-- a line that asks for a command under one valuation asks under another for one that is refused alike and builds alike
record AsksToo (others : List ℕ → Bool) (session : SessionData) (read : Result (Option SymbolLine) ScriptFault) (command : Command) : Type 0 where
  other : Command
  asked : command_under others session.circuit session.vectors read ≡ Ok (Some other)
  refusal_is : refusal_of session other ≡ refusal_of session command
  builds_is : builds other ≡ builds command

asks_too : (values others : List ℕ → Bool) (session : SessionData) (read : Result (Option SymbolLine) ScriptFault) (command : Command) →
    command_under values session.circuit session.vectors read ≡ Ok (Some command) → AsksToo others session read command
asks_too values others session (Err fault) command is = absurd (cc)
asks_too values others session (Ok None) command is = absurd (cc)
asks_too values others session (Ok (Some (asks_for.Names own))) command is = absurd (cc)
asks_too values others session (Ok (Some (asks_for.Plain own))) command is =
    let same : own ≡ command = cc in
    record { other = own; asked = refl; refusal_is = ap (refusal_of session) same; builds_is = ap builds same }
asks_too values others session (Ok (Some (asks_for.Values own list))) command is =
    let first = map (plain_under values session.circuit session.vectors) list in
    let second = map (plain_under others session.circuit session.vectors) list in
    let same : command_with own first ≡ command = cc in
    record {
      other = command_with own second;
      asked = refl;
      refusal_is = command-alike session values others own list ∙ ap (refusal_of session) same;
      builds_is = builds-alike own second first ∙ ap builds same;
    }

-- a line that is no command under one valuation is none under another
unread-alike : (values others : List ℕ → Bool) (c d : CircuitData) (vectors more : List (List ℕ × List ℕ)) (read : Result (Option SymbolLine) ScriptFault)
    (fault : ScriptFault) → command_under values c vectors read ≡ Err fault → command_under others d more read ≡ Err fault
unread-alike values others c d vectors more (Err own) fault is = is
unread-alike values others c d vectors more (Ok None) fault is = absurd (cc)
unread-alike values others c d vectors more (Ok (Some asked)) fault is = absurd (cc)

-- ---- sessions

abbrev KeptStates : Type 0
KeptStates = List (List ℕ × List Tern)

abbrev names_of : KeptStates → List (List ℕ)
names_of saves = map (λ (save : List ℕ × List Tern). save.0) saves

-- states are kept under the same names
back-alike : (one other : KeptStates) (name : List ℕ) → names_of other ≡ names_of one →
    back_refusal (kept_under other name) ≡ back_refusal (kept_under one name)
back-alike [] [] name same = refl
back-alike [] (save ∷ other) name same = absurd (cc)
back-alike (save ∷ one) [] name same = absurd (cc)
back-alike (save ∷ one) (more ∷ other) name same =
    let first : more.0 ≡ save.0 = cc in
    let rest : names_of other ≡ names_of one = cc in
    elim (cases_Bool (is_under name save)) [
      | inl here ↦
          ap (λ (test : Bool). back_refusal (option_map (λ (own : List ℕ × List Tern). own.1) (cond test (Some more) (find (is_under name) other))))
          (ap (λ (own : List ℕ). is_under name (own, save.1)) first ∙ here)
          ∙ sym (ap (λ (test : Bool). back_refusal (option_map (λ (own : List ℕ × List Tern). own.1) (cond test (Some save) (find (is_under name) one)))) here)
      | inr not_here ↦
          ap (λ (test : Bool). back_refusal (option_map (λ (own : List ℕ × List Tern). own.1) (cond test (Some more) (find (is_under name) other))))
          (ap (λ (own : List ℕ). is_under name (own, save.1)) first ∙ not_here)
          ∙ back-alike one other name rest
          ∙ sym (ap (λ (test : Bool). back_refusal (option_map (λ (own : List ℕ × List Tern). own.1) (cond test (Some save) (find (is_under name) one)))) not_here)
    ]

-- and under as many others
saves-alike : (one other : KeptStates) (name : List ℕ) → names_of other ≡ names_of one → other_saves other name ≡ other_saves one name
saves-alike [] [] name same = refl
saves-alike [] (save ∷ other) name same = absurd (cc)
saves-alike (save ∷ one) [] name same = absurd (cc)
saves-alike (save ∷ one) (more ∷ other) name same =
    let first : more.0 ≡ save.0 = cc in
    let rest : names_of other ≡ names_of one = cc in
    let test = λ (own : List ℕ × List Tern). cond (not (is_under name own)) 1 0 in
    sum_by-cons test more other
    ∙ ap₂ (λ (n m : ℕ). n + m) (ap (λ (own : List ℕ). test (own, save.1)) first) (saves-alike one other name rest)
    ∙ sym (sum_by-cons test save one)

module _ (one other : SessionData) (alike : AlikeButStates one other) where
  give-alike : (give : Give) → refusal_of_give other give ≡ refusal_of_give one give
  give-alike (Set list) = ap₂ (λ (c : CircuitData) (vectors : List (List ℕ × List ℕ)). values_refusal (set_at c) c vectors list) alike.circuit alike.vectors
  give-alike (Charge list) = ap₂ (λ (c : CircuitData) (vectors : List (List ℕ × List ℕ)). values_refusal (charge_at c) c vectors list) alike.circuit alike.vectors
  give-alike (Back name) = back-alike one.saves other.saves name alike.saves

  setup-alike : (setup : Setup) → refusal_of_setup other setup ≡ refusal_of_setup one setup
  setup-alike (Watch names) =
      let refusal = λ (count : ℕ) (c : CircuitData) (vectors : List (List ℕ × List ℕ)).
      or_else (first_refusal (λ (name : List ℕ). known_refusal (named c vectors name)) names) (watch_refusal (count + length (all_named c vectors names))) in
      ap (λ (list : List ℕ). refusal (length list) other.circuit other.vectors) alike.watched
      ∙ ap₂ (refusal (length one.watched)) alike.circuit alike.vectors
  setup-alike (Limit number) = refl
  setup-alike (Clock list) =
      ap (λ (c : CircuitData). or_else (length_refusal list) (first_refusal (λ (own : List ℕ × List Tern). set_refusal c (node_of c.names own.0)) list)) alike.circuit
  setup-alike (Keep number) = refl
  setup-alike (Widen number) = refl
  setup-alike (Save name) =
      ap (λ (count : ℕ). if nat_le MOST_SAVES count then Some TooManySaves else None) (saves-alike one.saves other.saves name alike.saves)
  setup-alike (Vector name words) =
      ap₂ (λ (c : CircuitData) (vectors : List (List ℕ × List ℕ)). vector_refusal (vector_fault c vectors name words)) alike.circuit alike.vectors

  -- no command's refusal looks at a state
  command-refused : (command : Command) → refusal_of other command ≡ refusal_of one command
  command-refused (family.Edit edit) =
      ap₂ (λ (c : CircuitData) (vectors : List (List ℕ × List ℕ)). refusal_of_edit c vectors edit) alike.circuit alike.vectors
  command-refused (family.Give give) = give-alike give
  command-refused (family.Setup setup) = setup-alike setup
  command-refused (family.Run run) = ap₂ (λ (c : CircuitData) (clocks : List ClockData). refusal_of_run c clocks run) alike.circuit alike.clocks
  command-refused (family.Tell tell) =
      ap₂ (λ (c : CircuitData) (vectors : List (List ℕ × List ℕ)). refusal_of_tell c vectors tell) alike.circuit alike.vectors

-- ---- lines

-- a line that asks for a command by one session asks for one that is refused alike by another
asks_alike : (quiet : Bool) (values others : List ℕ → Bool) (cut : Option ℕ) (one other : SessionData) (line : ℕ × List ℕ) (command : Command) →
    AlikeButStates one other → Asks (reading_under quiet values) cut one line command →
    (own : Command) × Asks (reading_under quiet others) cut other line own × (refusal_of other own ≡ refusal_of one command) × (builds own ≡ builds command)
asks_alike quiet values others cut one other line command alike asks =
    let too = asks_too values others one (symbol_reading_of quiet line.1) command asks.asked in (
      too.other,
      record {
        inside = asks.inside;
        asked = ap₂ (λ (c : CircuitData) (vectors : List (List ℕ × List ℕ)). reading_under quiet others c vectors line.1) alike.circuit alike.vectors ∙ too.asked;
      },
      command-refused one other alike too.other ∙ too.refusal_is,
      too.builds_is,
    )

pub refused_alike : ValuationsRefuseAlike
refused_alike quiet values others cut one other line cause alike (too_long past why) = too_long past why
refused_alike quiet values others cut one other line cause alike (unread fault code inside read is_code why) =
    unread fault code inside
    (unread-alike values others one.circuit other.circuit one.vectors other.vectors (symbol_reading_of quiet line.1) fault read) is_code why
refused_alike quiet values others cut one other line cause alike (refused command refusal asks is why) =
    let (own, own_asks, own_is, own_builds) = asks_alike quiet values others cut one other line command alike asks in
    refused own refusal own_asks (own_is ∙ is) why
refused_alike quiet values others cut one other line cause alike (too_large command fault asks allowed built tells sized) =
    let (own, own_asks, own_is, own_builds) = asks_alike quiet values others cut one other line command alike asks in
    too_large own fault own_asks (own_is ∙ allowed) (own_builds ∙ built)
    (subst (λ (n : ℕ). TellsRefused n other.circuit.graph fault) (sym alike.large)
    (subst (λ (c : CircuitData). TellsRefused one.large c.graph fault) (sym alike.circuit) tells))
    (ap (λ (c : CircuitData). size_cause c fault) alike.circuit ∙ sized)
