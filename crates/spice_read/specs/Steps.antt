-- The expansion of a deck: the list of what its cards come to, each call replaced by the expansion of its subcircuit.
use Rattle.std.specs.Prelude.{ℕ, zero, suc, ◌==◌, not, List, [], ◌∷◌, length, Option, Some, None, Result, Ok, Err, if◌then◌else◌}
use Rattle.std.specs.List.{flat_map, list_any}
use Rattle.std.specs.Option.{option_or}
use Rattle.switch_paths.specs.declared.switching.SwitchKind.{SwitchKind}
use Rattle.switch_paths.specs.declared.switching.SwitchKind.TheVariants.{NChan, PChan, Always}
use Rattle.netlist.specs.Edits.{usual_strength}
use Rattle.spice_cards.specs.declared.fault.DeckWhat.{DeckWhat}
use Rattle.spice_cards.specs.declared.fault.DeckWhat.TheVariants.{NoSubckt, PortCount, Recursion, TooDeep, BadModel}
use Rattle.spice_cards.specs.declared.sorts.PartSort.{PartSort}
use Rattle.spice_cards.specs.declared.sorts.PartSort.TheVariants.{Transistor, Call, Opening}
use Rattle.spice_cards.specs.declared.sorts.Strength.{Strength}
use Rattle.spice_cards.specs.declared.sorts.Strength.TheVariants as sets
use Rattle.spice_cards.specs.Decks.{DeckCards, PartCard, SubcircuitCards}
use Rattle.spice_cards.specs.Reading.{word_at}
use Rattle.spice_cards.specs.Tables.{named}
use Rattle.spice_read.specs.declared.expansion.TheConstants.{MOST_OPEN}
use Rattle.spice_read.specs.Scopes.{Scope, called, node_in, nodes_of, outside, subcircuit_named}

-- what a card comes to, with its line: a call that opens, a transistor between these nodes, or a refusal
pub data Step : Type 0 where
  opened : (line : ℕ) → Step
  placed : (line : ℕ) (kind : SwitchKind) (strength : ℕ) (gate source drain : List ℕ) → Step
  refused : (line : ℕ) (what : DeckWhat) → Step

-- the kind of a model without a `.model` card, by its first letter
abbrev pub kind_by_name : List ℕ → Option SwitchKind
kind_by_name [] = None
kind_by_name (letter ∷ name) =
    if letter == 110 then Some NChan else (if letter == 112 then Some PChan else (if letter == 100 then Some Always else None))

-- the kind of a model: that of its `.model` card, else the one by its first letter
abbrev pub kind_of : DeckCards → List ℕ → Option SwitchKind
kind_of deck model = option_or (named deck.models model) (kind_by_name model)

-- the strength of a transistor of this kind, by what its card sets; one that is bad is no strength of any profile
abbrev pub strength_number : SwitchKind → Strength → ℕ
strength_number kind sets.Usual = usual_strength kind
strength_number kind (sets.Is number) = number
strength_number kind sets.Bad = 0

-- a transistor, by its line, the strength that its card sets, its words, which are its name, drain, gate, source, bulk and model, and the
-- kind of its model; the bulk is passed
abbrev pub transistor_by : DeckCards → Scope → ℕ → Strength → List (List ℕ) → Option SwitchKind → Step
transistor_by deck scope line set words None = refused line BadModel
transistor_by deck scope line set words (Some kind) =
    placed line kind (strength_number kind set) (node_in deck scope (word_at words 2)) (node_in deck scope (word_at words 3))
    (node_in deck scope (word_at words 1))

abbrev pub transistor_step : DeckCards → Scope → ℕ → Strength → List (List ℕ) → Step
transistor_step deck scope line set words = transistor_by deck scope line set words (kind_of deck (word_at words 5))

-- the subcircuit that a call opens, of those of its name, or why it opens none
abbrev pub entry_by : Scope → List (List ℕ) → Option SubcircuitCards → Result SubcircuitCards DeckWhat
entry_by scope nodes None = Err NoSubckt
entry_by scope nodes (Some s) =
    if not (length nodes == length s.ports) then Err PortCount
    else (if list_any (λ line. line == s.line) scope.expanding then Err Recursion else Ok s)

abbrev pub entry_of : DeckCards → Scope → List (List ℕ) → Result SubcircuitCards DeckWhat
entry_of deck scope words = entry_by scope (nodes_of words) (named deck.subcircuits (subcircuit_named words))

-- a call, by the subcircuit that it opens, and by what the parts of one that is opened on this line come to
abbrev pub call_steps : DeckCards → Scope → (ℕ → Scope → List PartCard → List Step) → ℕ → List (List ℕ) → Result SubcircuitCards DeckWhat → List Step
call_steps deck scope within line words (Err what) = refused line what ∷ []
call_steps deck scope within line words (Ok s) = within line (called deck scope words s.line s.ports) s.parts

-- a part, by what it is; that a subcircuit begins is no part of any circuit
abbrev pub part_by : DeckCards → Scope → (ℕ → Scope → List PartCard → List Step) → ℕ → List (List ℕ) → PartSort → List Step
part_by deck scope within line words (Transistor set) = transistor_step deck scope line set words ∷ []
part_by deck scope within line words Call = call_steps deck scope within line words (entry_of deck scope words)
part_by deck scope within line words Opening = []

abbrev pub part_steps : DeckCards → Scope → (ℕ → Scope → List PartCard → List Step) → PartCard → List Step
part_steps deck scope within part = part_by deck scope within part.line part.words part.sort

-- the expansion of parts, with room for so many calls inside one another
unfoldable pub expand : ℕ → DeckCards → Scope → List PartCard → List Step
expand zero deck scope parts = flat_map (part_steps deck scope (λ line inner cards. refused line TooDeep ∷ [])) parts
expand (suc room) deck scope parts = flat_map (part_steps deck scope (λ line inner cards. opened line ∷ expand room deck inner cards)) parts

-- the expansion of a deck
abbrev pub steps_of : DeckCards → List Step
steps_of deck = expand MOST_OPEN deck outside deck.outside
