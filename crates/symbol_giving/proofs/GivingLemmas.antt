-- What an assignment gives, by what was made of it; what all give, one after the other; and what giving comes to in each column.
use Rattle.std.proofs.Common.{◌≡◌, ℕ, ◌+◌, ◌<◌, ◌≤◌, Bool, List, [], ◌∷◌, ◌++◌, length, map, get_or, drop, All, Option, None, Some, option_map, Result, Ok, Err, refl, sym, ap, ap₂, subst, ◌∙◌, append-nil}
use Rattle.std.specs.Prelude.{zip}
use Rattle.std.proofs.lemmas.List.{drop_more, map-append}
use Rattle.std.proofs.lemmas.List.Elements.{All-cons, All-head, All-nil, All-tail}
use Rattle.std.proofs.lemmas.Nat.{pow_pos}
use Rattle.ternary.specs.declared.tern.Tern.{Tern}
use Rattle.switch_paths.specs.Graphs.{nodes}
use Rattle.switch_paths.specs.declared.TheConstants.{RAILS}
use Rattle.netlist.specs.Circuits.{CircuitData, IsCircuit}
use Rattle.vector_values.specs.Values.{Letter, ValueData}
use Rattle.script_lang.specs.Parts.{value_by}
use Rattle.column_script.specs.declared.command.ValueCommand.{ValueCommand}
use Rattle.column_script.specs.declared.command.ValueCommand.TheVariants as kind_of
use Rattle.node_words.specs.Vectors.{AreWithin}
use Rattle.node_values.specs.declared.fault.GivenFault.{GivenFault}
use Rattle.node_values.specs.Givings.{letters_given, states_given, vector_named}
use Rattle.decision_graph.specs.declared.graph.GraphFault.{GraphFault}
use Rattle.decision_graph.specs.declared.graph.GraphFault.TheVariants as graph
use Rattle.formula_functions.specs.Tables.{TableData}
use Rattle.truth_makers.specs.Makers.{IsSpent}
use Rattle.symbol_lines.specs.declared.items.Item.{Item}
use Rattle.symbol_lines.specs.declared.values.SymbolValue.{SymbolValue}
use Rattle.symbol_lines.specs.declared.values.SymbolValue.TheVariants as value
use Rattle.symbol_script.specs.declared.line.Assignment.{Assignment}
use Rattle.symbol_stage.specs.declared.given.Letters.{Letters}
use Rattle.symbol_stage.specs.Given.{GivesLetters, letter_given}
use Rattle.symbol_stage.specs.Stages.{StageData, columns_on}
use Rattle.session_meaning.specs.declared.fault.ApplyFault.{ApplyFault}
use Rattle.session_meaning.specs.declared.fault.ApplyFault.TheVariants as apply
use Rattle.session_meaning.specs.declared.fault.Refusal.{Refusal}
use Rattle.session_meaning.specs.Effects.{assigned, letters_in, states_by}
use Rattle.session_meaning.specs.Preparing.{IsFaultFor}
use Rattle.session_meaning.specs.Refusals.{charge_at, nodes_named, refusal_of, set_at}
use Rattle.session_meaning.specs.Sessions.{HeldSession, SessionData}
use Rattle.session_meaning.specs.Truths.{GivenInAll, QuietlyInEach, StaysInAll, letters_in_column}
use Rattle.session_meaning.proofs.ItemLemmas.{given-next}
use Rattle.session_meaning.proofs.TruthLemmas.{gives_in_each, past_allowed}
use Rattle.session_meaning.proofs.ValueLemmas.{given-within, states-within}
use Rattle.symbol_meaning.specs.Readings.{given_under, letter_under, plain_under}
use Rattle.symbol_giving.specs.declared.letters.SymbolLetter.{SymbolLetter}
use Rattle.symbol_giving.specs.StandIns.{IsGiven, given_with, stand_letter}
use Rattle.symbol_giving.specs.Letters.{AreGivenBy, IsTableOf, OnlyMakes, letter_in, named_in, pairs_in, same_pair}
use Rattle.symbol_giving.specs.declared.fault.GivingFault.{GivingFault}
use Rattle.symbol_giving.specs.declared.fault.GivingFault.TheVariants.{Refused, Full, NoMemory}
use Rattle.symbol_giving.specs.Giving.{GivesInAll, IsFaultGiving, IsLack, IsRefusedBy, IsSpentBy, StaysAllowed, command_in, data_of, fault_of_graph, fault_of_values, stand_command, states_in_column}
use Rattle.symbol_giving.proofs.LetterLemmas.{given_stay, named_more, only_columns, only_keeps, only_none, same_pairs}
use Rattle.symbol_giving.proofs.StandLemmas.{all_given, list_zipped, stand_refused}

-- ---- an assignment

-- what isn't refused gives letters by its value, if that is the same under all valuations
pub plain_is_given : (c : CircuitData) (vectors : List (List ℕ × List ℕ)) (own : Assignment) (name : List ℕ) (plain : ValueData) → own.value ≡ value.Plain plain →
    name ≡ own.name → IsGiven c vectors own → (pairs : List (ℕ × Letter)) × (letters_given c vectors (name, value_by plain) ≡ Ok pairs)
plain_is_given c vectors own name plain is named (pairs, given) = (
  pairs,
  ap (λ (one : List ℕ). letters_given c vectors (one, value_by plain)) named
      ∙ sym (ap (λ (one : SymbolValue). letters_given c vectors (own.name, given_with stand_letter (vector_named c vectors own.name) one)) is) ∙ given,
)

-- they are those of each column
pub plain_given : (session : HeldSession StageData) (table : TableData) (own : Assignment) (stage : StageData) (name : List ℕ) (plain : ValueData)
    (letters : List (ℕ × SymbolLetter)) (pairs : List (ℕ × Letter)) → own.value ≡ value.Plain plain → name ≡ own.name → letters ≡ map same_pair pairs →
    letters_given session.core.circuit session.core.vectors (name, value_by plain) ≡ Ok pairs → AreGivenBy session table own stage letters
plain_given session table own stage name plain letters pairs is named same given = λ column inside.
    let c = session.core.circuit in
    let vectors = session.core.vectors in
    let values = named_in session.stage table column in
    ap (λ (one : SymbolValue). letters_given c vectors (own.name, given_under values (vector_named c vectors own.name) one)) is
    ∙ sym (ap (λ (one : List ℕ). letters_given c vectors (one, value_by plain)) named) ∙ given
    ∙ ap Ok (sym (ap (λ (list : List (ℕ × SymbolLetter)). pairs_in stage list column) same ∙ same_pairs stage column pairs))

-- a list gives those of its items to the nodes of its name
pub list_given : (session : HeldSession StageData) (table : TableData) (own : Assignment) (stage : StageData) (found : List ℕ) (items : List Item)
    (letters : List (ℕ × SymbolLetter)) → own.value ≡ value.List items → found ≡ nodes_named session.core.circuit session.core.vectors own.name →
    IsGiven session.core.circuit session.core.vectors own →
    ((column : ℕ) → column < columns_on session.stage →
    pairs_in stage letters column ≡ zip found (map (letter_under (named_in session.stage table column)) items)) →
    AreGivenBy session table own stage letters
list_given session table own stage found items letters is named (pairs, given) are = λ column inside.
    let c = session.core.circuit in
    let vectors = session.core.vectors in
    let values = named_in session.stage table column in
    let stands = sym (ap (λ (one : SymbolValue). letters_given c vectors (own.name, given_with stand_letter (vector_named c vectors own.name) one)) is) ∙ given in
    ap (λ (one : SymbolValue). letters_given c vectors (own.name, given_under values (vector_named c vectors own.name) one)) is
    ∙ list_zipped values c vectors own.name items pairs stands
    ∙ ap Ok (sym (are column inside ∙ ap (λ (list : List ℕ). zip list (map (letter_under values) items)) named))

-- what holds of the nodes that have letters in a column holds of the nodes
nodes_of_pairs : (P : ℕ → Type 0) (stage : StageData) (column : ℕ) (pairs : List (ℕ × SymbolLetter)) → All (λ pair. P pair.0) (pairs_in stage pairs column) →
    All (λ pair. P pair.0) pairs
nodes_of_pairs P stage column [] all = All-nil (λ (pair : ℕ × SymbolLetter). P pair.0)
nodes_of_pairs P stage column (pair ∷ pairs) all =
    let one : ℕ × Letter = (pair.0, letter_in stage column pair.1) in
    All-cons (λ (own : ℕ × SymbolLetter). P own.0) pair pairs
    (All-head (λ (own : ℕ × Letter). P own.0) one (pairs_in stage pairs column) all)
    (nodes_of_pairs P stage column pairs (All-tail (λ (own : ℕ × Letter). P own.0) one (pairs_in stage pairs column) all))

nodes_of_given : (P : ℕ → Type 0) (stage : StageData) (column : ℕ) (given : List (ℕ × Letters)) →
    All (λ pair. P pair.0) (letters_in_column letter_given stage given column) → All (λ pair. P pair.0) given
nodes_of_given P stage column [] all = All-nil (λ (pair : ℕ × Letters). P pair.0)
nodes_of_given P stage column (pair ∷ given) all =
    let one : ℕ × Tern = (pair.0, letter_given stage pair.1 column) in
    All-cons (λ (own : ℕ × Letters). P own.0) pair given
    (All-head (λ (own : ℕ × Tern). P own.0) one (letters_in_column letter_given stage given column) all)
    (nodes_of_given P stage column given (All-tail (λ (own : ℕ × Tern). P own.0) one (letters_in_column letter_given stage given column) all))

-- the nodes are those of the circuit
pub pairs_within : (session : HeldSession StageData) (table : TableData) (own : Assignment) (stage : StageData) (pairs : List (ℕ × SymbolLetter)) →
    IsCircuit session.core.circuit → AreWithin (nodes session.core.circuit.graph) session.core.vectors → AreGivenBy session table own stage pairs →
    All (λ pair. pair.0 < nodes session.core.circuit.graph) pairs
pairs_within session table own stage pairs is within given =
    let c = session.core.circuit in
    let vectors = session.core.vectors in
    nodes_of_pairs (λ node. node < nodes c.graph) stage 0 pairs
    (given-within c is vectors within (plain_under (named_in session.stage table 0) c vectors own) (pairs_in stage pairs 0)
    (given 0 (pow_pos session.stage.machine.maker.graph.variables)))

-- ---- what nodes are given

-- the states of letters from one on are its own, if it is one of a state, and those of the letters behind it
pub states_next : (stage : StageData) (column : ℕ) (pairs : List (ℕ × SymbolLetter)) (place : ℕ) (pair : ℕ × SymbolLetter) → place < length pairs →
    pair ≡ get_or pairs place pair →
    states_given (pairs_in stage (drop place pairs) column)
    ≡ states_given ((pair.0, letter_in stage column pair.1) ∷ []) ++ states_given (pairs_in stage (drop (place + 1) pairs) column)
states_next stage column pairs place pair inside is =
    ap (λ (left : List (ℕ × SymbolLetter)). states_given (pairs_in stage left column)) (drop_more pairs place pair inside)
    ∙ ap (λ (one : ℕ × SymbolLetter). states_given (pairs_in stage (one ∷ drop (place + 1) pairs) column)) (sym is)
    ∙ by pair.0 (letter_in stage column pair.1) (pairs_in stage (drop (place + 1) pairs) column)
  where
    by : (node : ℕ) (letter : Letter) (rest : List (ℕ × Letter)) → states_given ((node, letter) ∷ rest) ≡ states_given ((node, letter) ∷ []) ++ states_given rest
    by node None rest = refl
    by node (Some state) rest = refl

-- a node whose letter is any isn't given one
pub letter_left : (stage : StageData) (node : ℕ) (letter : SymbolLetter) (column : ℕ) (found : Option Letters) (given : List (ℕ × Letters)) → found ≡ None →
    option_map (λ own. letter_given stage own column) found ≡ letter_in stage column letter →
    letters_in_column letter_given stage given column
    ≡ letters_in_column letter_given stage given column ++ states_given ((node, letter_in stage column letter) ∷ [])
letter_left stage node letter column found given none is =
    let any : letter_in stage column letter ≡ None = sym is ∙ ap (option_map (λ own. letter_given stage own column)) none in
    sym (append-nil (letters_in_column letter_given stage given column))
    ∙ ap (λ (own : Letter). letters_in_column letter_given stage given column ++ states_given ((node, own) ∷ [])) (sym any)

-- one whose letter is one of a state is given it
pub letter_added : (stage : StageData) (node : ℕ) (letter : SymbolLetter) (column : ℕ) (found : Option Letters) (own : Letters) (given more : List (ℕ × Letters)) →
    found ≡ Some own → option_map (λ one. letter_given stage one column) found ≡ letter_in stage column letter → more ≡ given ++ (node, own) ∷ [] →
    letters_in_column letter_given stage more column
    ≡ letters_in_column letter_given stage given column ++ states_given ((node, letter_in stage column letter) ∷ [])
letter_added stage node letter column found own given more some is grown =
    let state : letter_in stage column letter ≡ Some (letter_given stage own column) =
    sym is ∙ ap (option_map (λ one. letter_given stage one column)) some in
    ap (λ (list : List (ℕ × Letters)). letters_in_column letter_given stage list column) grown
    ∙ map-append (λ (pair : ℕ × Letters). (pair.0, letter_given stage pair.1 column)) given ((node, own) ∷ [])
    ∙ ap (λ (one : Letter). letters_in_column letter_given stage given column ++ states_given ((node, one) ∷ [])) (sym state)

-- ---- all assignments, one after the other

-- what an assignment gives by the session as it is gives it by the session as it was, before more was made
given_before : (first now : HeldSession StageData) (table : TableData) (own : Assignment) (stage : StageData) (pairs : List (ℕ × SymbolLetter)) → OnlyMakes first now →
    IsTableOf first.stage table → AreGivenBy now table own stage pairs → AreGivenBy first table own stage pairs
given_before first now table own stage pairs only is given = λ column inside.
    let within : column < columns_on now.stage = subst (λ (n : ℕ). column < n) (sym (only_columns first now only)) inside in
    ap (λ (core : SessionData). letters_given core.circuit core.vectors (plain_under (named_in first.stage table column) core.circuit core.vectors own)) (sym only.core)
    ∙ ap (λ (values : List ℕ → Bool). letters_given now.core.circuit now.core.vectors (plain_under values now.core.circuit now.core.vectors own))
    (sym (named_more first.stage now.stage table only.makes is column inside)) ∙ given column within

-- one that gives letters gives them still
pub is_given_still : (first now : HeldSession StageData) (list : List Assignment) (place : ℕ) (own : Assignment) → OnlyMakes first now → place < length list →
    own ≡ get_or list place own → All (IsGiven first.core.circuit first.core.vectors) list → IsGiven now.core.circuit now.core.vectors own
is_given_still first now list place own only inside here are =
    subst (λ (core : SessionData). IsGiven core.circuit core.vectors own) (sym only.core)
    (subst (IsGiven first.core.circuit first.core.vectors) (sym here) (are place own inside))

-- the states that assignments give from one on
abbrev pub states_from : TableData → List Assignment → HeldSession StageData → ℕ → ℕ → List (ℕ × Tern)
states_from table list session column place = states_in_column table (drop place list) session column

module _ (first now later : HeldSession StageData) (table : TableData) (list : List Assignment) (place : ℕ) (own : Assignment) (before : OnlyMakes first now)
    (behind : OnlyMakes now later) (is : IsTableOf first.stage table) (inside : place < length list) (here : own ≡ get_or list place own) (given more : List (ℕ × Letters))
    (pairs : List (ℕ × SymbolLetter)) (letters : AreGivenBy now table own later.stage pairs) (are : All (λ pair. GivesLetters now.stage pair.1) given) where
  -- they are its own, and those of the assignments behind it
  states_parted : (column : ℕ) → column < columns_on first.stage →
      states_from table list first column place ≡ states_given (pairs_in later.stage pairs column) ++ states_from table list first column (place + 1)
  states_parted column within =
      let c = first.core.circuit in
      let vectors = first.core.vectors in
      let plain = plain_under (named_in first.stage table column) c vectors in
      ap (λ (left : List Assignment). states_by c vectors (map plain left)) (drop_more list place own inside)
      ∙ ap (λ (one : Assignment). states_by c vectors (map plain (one ∷ drop (place + 1) list))) (sym here)
      ∙ ap (λ (found : Result (List (ℕ × Letter)) GivenFault). states_given (letters_in found) ++ states_from table list first column (place + 1))
      (given_before first now table own later.stage pairs before is letters column within)

  -- one assignment more
  pub given_on : ((column : ℕ) → column < columns_on later.stage →
      letters_in_column letter_given later.stage more column
      ≡ letters_in_column letter_given later.stage given column ++ states_given (pairs_in later.stage pairs column)) →
      ((column : ℕ) → column < columns_on first.stage →
      letters_in_column letter_given now.stage given column ++ states_from table list first column place ≡ states_in_column table list first column) →
      (column : ℕ) → column < columns_on first.stage →
      letters_in_column letter_given later.stage more column ++ states_from table list first column (place + 1) ≡ states_in_column table list first column
  given_on grown so_far column within =
      let there : column < columns_on now.stage = subst (λ (n : ℕ). column < n) (sym (only_columns first now before)) within in
      let still : column < columns_on later.stage = subst (λ (n : ℕ). column < n) (sym (only_columns now later behind)) there in
      given-next (letters_in_column letter_given now.stage given column) (states_given (pairs_in later.stage pairs column))
      (letters_in_column letter_given later.stage more column) (states_from table list first column place) (states_from table list first column (place + 1))
      (states_in_column table list first column) (so_far column within) (states_parted column within)
      (grown column still
      ∙ ap (λ (front : List (ℕ × Tern)). front ++ states_given (pairs_in later.stage pairs column))
      (given_stay now.stage later.stage (only_columns now later behind) (only_keeps now later behind) given column are there))

-- ---- refusals

-- in each column the command is refused as the one that stands for it
pub command_refused : (kind : ValueCommand) (table : TableData) (list : List Assignment) (session : HeldSession StageData) (column : ℕ) →
    refusal_of (data_of session column) (command_in kind table list session column) ≡ refusal_of session.core (stand_command kind list session.core)
command_refused kind_of.Set table list session column =
    stand_refused session.core.circuit session.core.vectors (named_in session.stage table column) (set_at session.core.circuit) list
command_refused kind_of.Charge table list session column =
    stand_refused session.core.circuit session.core.vectors (named_in session.stage table column) (charge_at session.core.circuit) list

-- if it isn't refused, each assignment gives letters
pub command_given : (kind : ValueCommand) (list : List Assignment) (core : SessionData) → refusal_of core (stand_command kind list core) ≡ None →
    All (IsGiven core.circuit core.vectors) list
command_given kind_of.Set list core none = all_given (set_at core.circuit) core.circuit core.vectors list none
command_given kind_of.Charge list core none = all_given (charge_at core.circuit) core.circuit core.vectors list none

-- a refusal changes nothing
pub refused_quietly : (kind : ValueCommand) (table : TableData) (list : List Assignment) (session : HeldSession StageData) (refusal : Refusal) →
    refusal_of session.core (stand_command kind list session.core) ≡ Some refusal →
    QuietlyInEach (columns_on session.stage) (data_of session) (command_in kind table list session) (data_of session) (Err (apply.Refused refusal))
refused_quietly kind table list session refusal is = λ column inside. (command_refused kind table list session column ∙ is, refl)

-- ---- in each column

-- where functions alone were made, each column is as before
same_data : (old new : HeldSession StageData) → OnlyMakes old new → (column : ℕ) → column < columns_on old.stage → data_of new column ≡ data_of old column
same_data old new only column inside =
    ap₂ (λ (core : SessionData) (state : List Tern). record core { state = state }) only.core (only.makes.states column inside)

pub stays_made : (old new : HeldSession StageData) → OnlyMakes old new → StaysInAll (columns_on old.stage) (data_of old) (data_of new)
stays_made old new only = record { each = same_data old new only }

pub allowed_made : (kind : ValueCommand) (table : TableData) (list : List Assignment) (old new : HeldSession StageData) → OnlyMakes old new →
    refusal_of old.core (stand_command kind list old.core) ≡ None → StaysAllowed (columns_on old.stage) (command_in kind table list old) (data_of old) (data_of new)
allowed_made kind table list old new only none = record {
  allowed = λ column inside. command_refused kind table list old column ∙ none;
  stays = stays_made old new only;
}

-- what ends it by its refusal
pub fault_gives : (kind : ValueCommand) (table : TableData) (list : List Assignment) (session : HeldSession StageData) (fault : GivingFault) →
    IsFaultGiving (refusal_of session.core (stand_command kind list session.core)) fault →
    GivesInAll (columns_on session.stage) (command_in kind table list session) (data_of session) (data_of session) (Err fault)
fault_gives kind table list session (Refused refusal) is = refused_quietly kind table list session refusal is
fault_gives kind table list session Full none = absurd none
fault_gives kind table list session NoMemory lacks = stays_made session session (only_none session)

pub fault_refused : (session : HeldSession StageData) (fault : GivingFault) → IsRefusedBy session session fault
fault_refused session (Refused refusal) = refl
fault_refused session Full = tt
fault_refused session NoMemory = tt

pub fault_spent : (found : Option Refusal) (stage : StageData) (fault : GivingFault) → IsFaultGiving found fault → IsSpentBy stage fault
fault_spent found stage (Refused refusal) is = λ full. absurd (cc)
fault_spent found stage Full none = absurd none
fault_spent found stage NoMemory lacks = λ full. absurd (cc)

-- a fault that is no refusal may change something
pub lack_refused : (old new : HeldSession StageData) (fault : GivingFault) → IsLack fault → IsRefusedBy old new fault
lack_refused old new (Refused refusal) none = absurd none
lack_refused old new Full lacks = tt
lack_refused old new NoMemory lacks = tt

-- what ends the plain assignments that stand for it
pub values_stop : (found : Option Refusal) (fault : ApplyFault) → IsFaultFor found fault → IsFaultGiving found (fault_of_values fault)
values_stop found (apply.Refused refusal) is = is
values_stop found (apply.GroupNodes node count) none = absurd none
values_stop found (apply.GroupSwitches node count) none = absurd none
values_stop found apply.WriteFault none = absurd none
values_stop found apply.NoMemory lacks = tt

-- and what ends it for want of vertices or memory
pub graph_gives : (kind : ValueCommand) (table : TableData) (list : List Assignment) (old new : HeldSession StageData) (why : GraphFault) → OnlyMakes old new →
    refusal_of old.core (stand_command kind list old.core) ≡ None →
    GivesInAll (columns_on old.stage) (command_in kind table list old) (data_of old) (data_of new) (Err (fault_of_graph why))
graph_gives kind table list old new graph.Full only none = allowed_made kind table list old new only none
graph_gives kind table list old new graph.NoMemory only none = stays_made old new only

pub graph_lacks : (why : GraphFault) → IsLack (fault_of_graph why)
graph_lacks graph.Full = tt
graph_lacks graph.NoMemory = tt

pub graph_spent : (stage : StageData) (why : GraphFault) → IsSpent stage.machine.maker why → IsSpentBy stage (fault_of_graph why)
graph_spent stage graph.Full spent = λ full. spent refl
graph_spent stage graph.NoMemory spent = λ full. absurd (cc)

module _ (kind : ValueCommand) (table : TableData) (list : List Assignment) (old mid : HeldSession StageData) (only : OnlyMakes old mid)
    (none : refusal_of old.core (stand_command kind list old.core) ≡ None) (given : List (ℕ × Letters))
    (are : (column : ℕ) → column < columns_on old.stage →
    letters_in_column letter_given mid.stage given column ≡ states_in_column table list old column) where
  -- the nodes are those of the circuit, and none is a rail
  pub given_within : IsCircuit old.core.circuit → AreWithin (nodes old.core.circuit.graph) old.core.vectors →
      All (λ pair. pair.0 < nodes old.core.circuit.graph) given
  given_within is within =
      let c = old.core.circuit in
      let vectors = old.core.vectors in
      nodes_of_given (λ node. node < nodes c.graph) mid.stage 0 given
      (subst (λ (states : List (ℕ × Tern)). All (λ (pair : ℕ × Tern). pair.0 < nodes c.graph) states)
      (sym (are 0 (pow_pos old.stage.machine.maker.graph.variables)))
      (states-within c is vectors within (map (plain_under (named_in old.stage table 0) c vectors) list)))

  pub given_past : All (λ pair. RAILS ≤ pair.0) given
  given_past =
      let c = old.core.circuit in
      let vectors = old.core.vectors in
      nodes_of_given (λ node. RAILS ≤ node) mid.stage 0 given
      (subst (λ (states : List (ℕ × Tern)). All (λ (pair : ℕ × Tern). RAILS ≤ pair.0) states) (sym (are 0 (pow_pos old.stage.machine.maker.graph.variables)))
      (past_allowed (data_of old 0) kind (map (plain_under (named_in old.stage table 0) c vectors) list) (command_refused kind table list old 0 ∙ none)))

  -- and in each column the plain command was obeyed
  pub given_quietly : (new : HeldSession StageData) →
      GivenInAll (columns_on mid.stage) (data_of mid) (data_of new) (letters_in_column letter_given mid.stage given) →
      QuietlyInEach (columns_on old.stage) (data_of old) (command_in kind table list old) (data_of new) (Ok tt)
  given_quietly new done =
      let columns = columns_on old.stage in
      let pairs = letters_in_column letter_given mid.stage given in
      let c = old.core.circuit in
      let vectors = old.core.vectors in
      let each : GivenInAll columns (data_of old) (data_of new) pairs = record {
        each = λ column inside.
            let there : column < columns_on mid.stage = subst (λ (n : ℕ). column < n) (sym (only_columns old mid only)) inside in
            subst (λ (own : SessionData). data_of new column ≡ record own { state = assigned own.state (pairs column) }) (same_data old mid only column inside)
            (done.each column there);
      } in
      gives_in_each columns (data_of old) (data_of new) kind (λ column. map (plain_under (named_in old.stage table column) c vectors) list) pairs each
      (λ column inside. command_refused kind table list old column ∙ none) are
