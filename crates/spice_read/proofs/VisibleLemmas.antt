-- What is made of a deck's parts is a circuit with visible names: the names of an expansion are words of the cards, and paths of such.
use Rattle.std.proofs.Common.{◌≡◌, ℕ, zero, suc, ◌-◌, ◌+◌, ◌<◌, ◌≤◌, Bool, true, false, not, ◌==◌, All, List, [], ◌∷◌, ◌++◌, length, map, drop, codes, bytes_eq, nat_le, unwrap_or, Option, Some, None, Result, Ok, Err, IfOk, IfSome, if◌then◌else◌, refl, sym, subst, arith, length-append, length-drop}
use Rattle.std.specs.List.{flat_map, list_any, zip}
use Rattle.std.proofs.lemmas.Bool.Decides.{nat_tests}
use Rattle.std.proofs.lemmas.List.Elements.{All-nil, All-cons, All-append, All-drop, All-head, All-map, All-tail, All-take}
use Rattle.strength_order.specs.declared.Profile.TheVariants.{One}
use Rattle.switch_paths.specs.declared.switching.SwitchKind.{SwitchKind}
use Rattle.switch_paths.specs.declared.TheConstants.{GND, VDD}
use Rattle.switch_paths.specs.Graphs.{nodes}
use Rattle.line_words.specs.Bytes.{first_visible, last_visible}
use Rattle.line_words.specs.Visible.{IsVisibleName}
use Rattle.netlist.specs.Circuits.{CircuitData, HasVisibleNames, IsCircuit, rails_alone}
use Rattle.netlist.specs.Edits.{add_fault, with_transistor}
use Rattle.netlist.specs.Names.{first_name}
use Rattle.netlist.specs.Faults.{MakingFault}
use Rattle.netlist.proofs.EditLemmas.{HasVisibleNames-with_transistor}
use Rattle.netlist.proofs.KeptLemmas.{IsCircuit-rails_alone, IsCircuit-with_transistor}
use Rattle.spice_cards.specs.declared.fault.DeckRefusal.{DeckRefusal}
use Rattle.spice_cards.specs.declared.fault.DeckWhat.{DeckWhat}
use Rattle.spice_cards.specs.declared.fault.DeckWhat.TheVariants.{PortCount, Recursion, TooDeep, TooManyCalls}
use Rattle.spice_cards.specs.declared.sorts.PartSort.{PartSort}
use Rattle.spice_cards.specs.declared.sorts.PartSort.TheVariants.{Transistor, Call, Opening}
use Rattle.spice_cards.specs.declared.sorts.Strength.{Strength}
use Rattle.spice_cards.specs.CardLines.{head_of}
use Rattle.spice_cards.specs.Decks.{DeckCards, PartCard, SubcircuitCards}
use Rattle.spice_cards.specs.Reading.{refusal_at, word_at}
use Rattle.spice_cards.specs.Tables.{named}
use Rattle.spice_cards.proofs.ReadingLemmas.{named-All}
use Rattle.spice_read.specs.declared.expansion.TheConstants.{MOST_CALLS}
use Rattle.spice_read.specs.Making.{MadeData, after, circuit_of, edited, nothing_made, onward}
use Rattle.spice_read.specs.Scopes.{Scope, below, called, dot, fixed_node, is_fixed, is_zero, node_at, node_by, node_in, nodes_of, outside, subcircuit_named, with_each, with_last}
use Rattle.spice_read.specs.Steps.{Step, call_steps, entry_by, entry_of, expand, kind_of, part_by, part_steps, steps_of, transistor_by, transistor_step}
use Rattle.spice_read.specs.Steps.Step.{opened, placed, refused}
use Rattle.spice_cards.proofs.VisibleLemmas.{IsVisibleDeck, IsVisiblePart, cards_of-visible, least_words}
use Rattle.spice_read.proofs.ExpansionLemmas.{circuit_of-read}

-- ---- names

-- a byte is visible
abbrev IsVisible : ℕ → Type 0
IsVisible byte = (first_visible ≤ byte) × (byte ≤ last_visible)

-- what Gnd is called is visible
gnd-visible : IsVisibleName (codes "Gnd")
gnd-visible = record {
  some = omega arith;
  visible = All-cons IsVisible 71 (codes "nd") (omega arith, omega arith) (All-cons IsVisible 110 (codes "d") (omega arith, omega arith)
      (All-cons IsVisible 100 [] (omega arith, omega arith) (All-nil IsVisible)));
}

-- and what Vdd is called
vdd-visible : IsVisibleName (codes "Vdd")
vdd-visible = record {
  some = omega arith;
  visible = All-cons IsVisible 86 (codes "dd") (omega arith, omega arith) (All-cons IsVisible 100 (codes "d") (omega arith, omega arith)
      (All-cons IsVisible 100 [] (omega arith, omega arith) (All-nil IsVisible)));
}

-- so is a path with a name behind it
joined-visible : (path name : List ℕ) → IsVisibleName path → IsVisibleName name → IsVisibleName (path ++ dot ∷ name)
joined-visible path name is named_so = record {
  some = omega (arith, length-append path (dot ∷ name), is.some);
  visible = All-append IsVisible path (dot ∷ name) is.visible (All-cons IsVisible dot name (omega arith, omega arith) named_so.visible);
}

below-visible : (path : Option (List ℕ)) (name : List ℕ) → IfSome path IsVisibleName → IsVisibleName name → IsVisibleName (below path name)
below-visible None name is visible = visible
below-visible (Some path) name is visible = joined-visible path name is visible

-- the names of a scope are visible
record IsVisibleScope (scope : Scope) : Type 0 where
  path : IfSome scope.path IsVisibleName
  ports : All (λ entry. IsVisibleName entry.1) scope.ports

fixed-visible : (name : List ℕ) → IsVisibleName name → IsVisibleName (fixed_node name)
fixed-visible name visible = by (is_zero name)
  where
    by : (zeroed : Bool) → IsVisibleName (if zeroed then codes "Gnd" else name)
    by true = gnd-visible
    by false = visible

-- what a name stands for in a table of visible nodes
named-visible : (entries : List (List ℕ × List ℕ)) (name : List ℕ) → All (λ entry. IsVisibleName entry.1) entries → IfSome (named entries name) IsVisibleName
named-visible [] name are = tt
named-visible (entry ∷ entries) name are =
    by (bytes_eq name entry.0) (named-visible entries name (All-tail (λ (e : List ℕ × List ℕ). IsVisibleName e.1) entry entries are))
  where
    by : (same : Bool) → IfSome (named entries name) IsVisibleName → IfSome (if same then Some entry.1 else named entries name) IsVisibleName
    by true later = All-head (λ (e : List ℕ × List ℕ). IsVisibleName e.1) entry entries are
    by false later = later

-- what a visible name stands for is called by one
node-visible : (deck : DeckCards) (scope : Scope) (name : List ℕ) → IsVisibleScope scope → IsVisibleName name → IsVisibleName (node_in deck scope name)
node-visible deck scope name is visible = by scope.path is.path
  where
    in_call : (path : List ℕ) (port : Option (List ℕ)) → IsVisibleName path → IfSome port IsVisibleName → IsVisibleName (node_by deck path name port)
    in_call path (Some node) there stands = stands
    in_call path None there stands = local (is_fixed deck name)
      where
        local : (fixed : Bool) → IsVisibleName (if fixed then fixed_node name else below (Some path) name)
        local true = fixed-visible name visible
        local false = joined-visible path name there visible

    by : (path : Option (List ℕ)) → IfSome path IsVisibleName → IsVisibleName (node_at deck scope.ports name path)
    by None there = fixed-visible name visible
    by (Some path) there = in_call path (named scope.ports name) there (named-visible scope.ports name is.ports)

-- a table with a visible node for a name
with_last-visible : (entries : List (List ℕ × List ℕ)) (name node : List ℕ) → All (λ entry. IsVisibleName entry.1) entries → IsVisibleName node →
    All (λ entry. IsVisibleName entry.1) (with_last entries name node)
with_last-visible [] name node are is =
    All-cons (λ (e : List ℕ × List ℕ). IsVisibleName e.1) (name, node) [] is (All-nil (λ (e : List ℕ × List ℕ). IsVisibleName e.1))
with_last-visible (entry ∷ entries) name node are is =
    by (bytes_eq name entry.0)
    (with_last-visible entries name node (All-tail (λ (e : List ℕ × List ℕ). IsVisibleName e.1) entry entries are) is)
  where
    by : (same : Bool) → All (λ entry. IsVisibleName entry.1) (with_last entries name node) →
        All (λ entry. IsVisibleName entry.1) (if same then (entry.0, node) ∷ entries else entry ∷ with_last entries name node)
    by true later =
        All-cons (λ (e : List ℕ × List ℕ). IsVisibleName e.1) (entry.0, node) entries is
        (All-tail (λ (e : List ℕ × List ℕ). IsVisibleName e.1) entry entries are)
    by false later =
        All-cons (λ (e : List ℕ × List ℕ). IsVisibleName e.1) entry (with_last entries name node)
        (All-head (λ (e : List ℕ × List ℕ). IsVisibleName e.1) entry entries are) later

-- and with one for each port of a call
with_each-visible : (ports nodes : List (List ℕ)) (entries : List (List ℕ × List ℕ)) → All (λ entry. IsVisibleName entry.1) entries →
    All IsVisibleName nodes → All (λ entry. IsVisibleName entry.1) (with_each entries (zip ports nodes))
with_each-visible [] nodes entries are visible = are
with_each-visible (port ∷ ports) [] entries are visible = are
with_each-visible (port ∷ ports) (node ∷ nodes) entries are visible =
    with_each-visible ports nodes (with_last entries port node)
    (with_last-visible entries port node are (All-head IsVisibleName node nodes visible)) (All-tail IsVisibleName node nodes visible)

-- the word at a place of a card
word-visible : (words : List (List ℕ)) (place : ℕ) → place < length words → All IsVisibleName words → IsVisibleName (word_at words place)
word-visible words place inside visible =
    by (drop place words) (omega (arith, length-drop place words)) (All-drop IsVisibleName place words visible)
  where
    by : (rest : List (List ℕ)) → 0 < length rest → All IsVisibleName rest → IsVisibleName (head_of rest)
    by [] some are = absurd (omega arith)
    by (word ∷ rest) some are = All-head IsVisibleName word rest are

-- inside a call
called-visible : (deck : DeckCards) (scope : Scope) (words : List (List ℕ)) (line : ℕ) (ports : List (List ℕ)) → IsVisibleScope scope →
    All IsVisibleName words → 0 < length words → IsVisibleScope (called deck scope words line ports)
called-visible deck scope words line ports is visible some = record {
  path = below-visible scope.path (word_at words 0) is.path (word-visible words 0 some visible);
  ports = with_each-visible ports (map (node_in deck scope) (nodes_of words)) [] (All-nil (λ (e : List ℕ × List ℕ). IsVisibleName e.1))
      (All-map IsVisibleName (node_in deck scope) (nodes_of words) (nodes_visible (nodes_of words)
      (All-take IsVisibleName (length words - 2) (drop 1 words) (All-drop IsVisibleName 1 words visible))));
}
  where
    nodes_visible : (names : List (List ℕ)) → All IsVisibleName names → All (λ name. IsVisibleName (node_in deck scope name)) names
    nodes_visible [] are = All-nil (λ (name : List ℕ). IsVisibleName (node_in deck scope name))
    nodes_visible (name ∷ names) are =
        All-cons (λ (name : List ℕ). IsVisibleName (node_in deck scope name)) name names
        (node-visible deck scope name is (All-head IsVisibleName name names are)) (nodes_visible names (All-tail IsVisibleName name names are))

-- ---- steps

-- the terminals of a placed transistor have visible names
abbrev IsVisibleStep : Step → Type 0
IsVisibleStep (opened line) = Unit {0}
IsVisibleStep (placed line kind strength gate source drain) = IsVisibleName gate × IsVisibleName source × IsVisibleName drain
IsVisibleStep (refused line what) = Unit {0}

-- a transistor
transistor-visible : (deck : DeckCards) (scope : Scope) (line : ℕ) (set : Strength) (words : List (List ℕ)) → IsVisibleScope scope →
    All IsVisibleName words → 6 ≤ length words → IsVisibleStep (transistor_step deck scope line set words)
transistor-visible deck scope line set words is visible counted = by (kind_of deck (word_at words 5))
  where
    at : (place : ℕ) → place < 6 → IsVisibleName (node_in deck scope (word_at words place))
    at place low = node-visible deck scope (word_at words place) is (word-visible words place (omega arith) visible)

    by : (kind : Option SwitchKind) → IsVisibleStep (transistor_by deck scope line set words kind)
    by None = tt
    by (Some kind) = (at 2 (omega arith), at 3 (omega arith), at 1 (omega arith))

-- the subcircuit that a call opens is one of the deck's
entry-named : (scope : Scope) (nodes : List (List ℕ)) (found : Option SubcircuitCards) (s : SubcircuitCards) → entry_by scope nodes found ≡ Ok s → found ≡ Some s
entry-named scope nodes None s same = absurd (cc)
entry-named scope nodes (Some there) s same =
    by (not (length nodes == length there.ports)) (list_any (λ line. line == there.line) scope.expanding) same
  where
    by : (other again : Bool) → (if other then Err PortCount else (if again then Err Recursion else Ok there)) ≡ Ok s → Some there ≡ Some s
    by true again same = absurd (cc)
    by false true same = absurd (cc)
    by false false same = cc

-- a part, where what stands inside a call is so
part-visible : (deck : DeckCards) (scope : Scope) (within : ℕ → Scope → List PartCard → List Step) (part : PartCard) → IsVisibleDeck deck →
    IsVisibleScope scope → IsVisiblePart part →
    ((line : ℕ) (inner : Scope) (parts : List PartCard) → IsVisibleScope inner → All IsVisiblePart parts → All IsVisibleStep (within line inner parts)) →
    All IsVisibleStep (part_steps deck scope within part)
part-visible deck scope within part is_deck is visible inside = by part.sort visible.counted
  where
    entered : (given : Result SubcircuitCards DeckWhat) → entry_of deck scope part.words ≡ given → 2 ≤ length part.words →
        All IsVisibleStep (call_steps deck scope within part.line part.words given)
    entered (Err what) same counted = All-cons IsVisibleStep (refused part.line what) [] tt (All-nil IsVisibleStep)
    entered (Ok s) same counted =
        inside part.line (called deck scope part.words s.line s.ports) s.parts
        (called-visible deck scope part.words s.line s.ports is visible.words (omega arith))
        (named-All (λ (s : SubcircuitCards). All IsVisiblePart s.parts) deck.subcircuits (subcircuit_named part.words) s is_deck.inside
        (entry-named scope (nodes_of part.words) (named deck.subcircuits (subcircuit_named part.words)) s same))

    by : (sort : PartSort) → least_words sort ≤ length part.words → All IsVisibleStep (part_by deck scope within part.line part.words sort)
    by (Transistor set) counted =
        All-cons IsVisibleStep (transistor_step deck scope part.line set part.words) []
        (transistor-visible deck scope part.line set part.words is visible.words counted) (All-nil IsVisibleStep)
    by Call counted = entered (entry_of deck scope part.words) refl counted
    by Opening counted = All-nil IsVisibleStep

-- parts
parts-visible : (deck : DeckCards) (scope : Scope) (within : ℕ → Scope → List PartCard → List Step) (parts : List PartCard) → IsVisibleDeck deck →
    IsVisibleScope scope → All IsVisiblePart parts →
    ((line : ℕ) (inner : Scope) (parts : List PartCard) → IsVisibleScope inner → All IsVisiblePart parts → All IsVisibleStep (within line inner parts)) →
    All IsVisibleStep (flat_map (part_steps deck scope within) parts)
parts-visible deck scope within [] is_deck is visible inside = All-nil IsVisibleStep
parts-visible deck scope within (part ∷ parts) is_deck is visible inside =
    All-append IsVisibleStep (part_steps deck scope within part) (flat_map (part_steps deck scope within) parts)
    (part-visible deck scope within part is_deck is (All-head IsVisiblePart part parts visible) inside)
    (parts-visible deck scope within parts is_deck is (All-tail IsVisiblePart part parts visible) inside)

-- an expansion
expand-visible : (room : ℕ) (deck : DeckCards) (scope : Scope) (parts : List PartCard) → IsVisibleDeck deck → IsVisibleScope scope →
    All IsVisiblePart parts → All IsVisibleStep (expand room deck scope parts)
unfolding expand
expand-visible zero deck scope parts is_deck is visible =
    parts-visible deck scope (λ line inner cards. refused line TooDeep ∷ []) parts is_deck is visible
    (λ line inner cards _ _. All-cons IsVisibleStep (refused line TooDeep) [] (tt {0}) (All-nil IsVisibleStep))
expand-visible (suc room) deck scope parts is_deck is visible =
    parts-visible deck scope (λ line inner cards. opened line ∷ expand room deck inner cards) parts is_deck is visible
    (λ line inner cards is_inner are. All-cons IsVisibleStep (opened line) (expand room deck inner cards) (tt {0})
    (expand-visible room deck inner cards is_deck is_inner are))

-- ---- circuits

-- a circuit with visible names
record IsNamed (c : CircuitData) : Type 0 where
  circuit : IsCircuit c
  names : HasVisibleNames c

-- the rails alone
rails-visible : HasVisibleNames (rails_alone One)
rails-visible node low = by (node == GND) (node == VDD) refl refl
  where
    by : (gnd vdd : Bool) → (node == GND) ≡ gnd → (node == VDD) ≡ vdd →
        IsVisibleName (unwrap_or (if gnd then Some (codes "Gnd") else (if vdd then Some (codes "Vdd") else first_name [] node)) [])
    by true vdd is_gnd is_vdd = gnd-visible
    by false true is_gnd is_vdd = vdd-visible
    by false false is_gnd is_vdd = absurd (grind (arith, nat_tests))

rails-named : IsNamed (rails_alone One)
rails-named = record { circuit = IsCircuit-rails_alone One; names = rails-visible }

-- what steps with visible names make
after-named : (steps : List Step) (made last : MadeData) → IsNamed made.circuit → All IsVisibleStep steps → after made steps ≡ Ok last → IsNamed last.circuit
after-named [] made last is visible same = subst (λ (g : Result MadeData DeckRefusal). IfOk g (λ m. IsNamed m.circuit)) same is
after-named (opened line ∷ steps) made last is visible same =
    by (nat_le MOST_CALLS made.calls) same
    (λ next same_circuit rest. after-named steps next last (subst IsNamed (sym same_circuit) is) (All-tail IsVisibleStep (opened line) steps visible) rest)
  where
    by : (many : Bool) →
        onward (if many then Err (refusal_at line TooManyCalls) else Ok (record made { calls = made.calls + 1 })) (λ next. after next steps) ≡ Ok last →
        ((next : MadeData) → next.circuit ≡ made.circuit → after next steps ≡ Ok last → IsNamed last.circuit) → IsNamed last.circuit
    by true same later = absurd (cc)
    by false same later = later (record made { calls = made.calls + 1 }) refl same
after-named (placed line kind strength gate source drain ∷ steps) made last is visible same =
    by (add_fault made.circuit strength gate source drain) refl same
    (λ next is_next rest. after-named steps next last is_next (All-tail IsVisibleStep (placed line kind strength gate source drain) steps visible) rest)
  where
    names : IsVisibleName gate × IsVisibleName source × IsVisibleName drain
    names = All-head IsVisibleStep (placed line kind strength gate source drain) steps visible

    by : (fault : Option MakingFault) → add_fault made.circuit strength gate source drain ≡ fault →
        onward (edited line fault (record made { circuit = with_transistor made.circuit kind strength gate source drain })) (λ next. after next steps) ≡ Ok last →
        ((next : MadeData) → IsNamed next.circuit → after next steps ≡ Ok last → IsNamed last.circuit) → IsNamed last.circuit
    by (Some fault) none same later = absurd (cc)
    by None none same later = later (record made { circuit = with_transistor made.circuit kind strength gate source drain }) (record {
      circuit = IsCircuit-with_transistor made.circuit kind strength gate source drain is.circuit none;
      names = HasVisibleNames-with_transistor made.circuit kind strength gate source drain is.circuit is.names names.0 names.1 names.2;
    }) same
after-named (refused line what ∷ steps) made last is visible same = absurd (cc)

-- the circuit of a deck
circuit_of-named : (text : List ℕ) (c : CircuitData) → circuit_of text ≡ Ok c → IsNamed c
circuit_of-named text c same =
    let read = circuit_of-read text c same in
    let deck = cards_of-visible text read.deck read.cards in
    subst IsNamed read.circuit
    (after-named (steps_of read.deck) nothing_made read.last rails-named
    (expand-visible _ read.deck outside read.deck.outside deck (record { path = tt; ports = All-nil (λ (e : List ℕ × List ℕ). IsVisibleName e.1) }) deck.outside) read.made)

pub circuit_of-circuit : (text : List ℕ) (c : CircuitData) → circuit_of text ≡ Ok c → IsCircuit c
circuit_of-circuit text c same = (circuit_of-named text c same).circuit

pub circuit_of-visible : (text : List ℕ) (c : CircuitData) → circuit_of text ≡ Ok c → HasVisibleNames c
circuit_of-visible text c same = (circuit_of-named text c same).names
