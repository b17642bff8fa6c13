-- A deck as contracts see it: the parts outside subcircuits, the subcircuits, the models and the global names.
use Rattle.std.specs.Prelude.{ℕ, List, [], ◌∷◌, ◌++◌, drop, bytes_eq, Option, Some, None, if◌then◌else◌}
use Rattle.switch_paths.specs.declared.switching.SwitchKind.{SwitchKind}
use Rattle.spice_cards.specs.declared.sorts.PartSort.{PartSort}

-- a part: its line, what it is, and the words of its card that count. Those of a transistor are its name, drain, gate, source, bulk and
-- model; those of a call its name, its nodes and its subcircuit
pub record PartCard : Type 0 where
  pub line : ℕ
  pub sort : PartSort
  pub words : List (List ℕ)

-- a subcircuit: the line of its `.subckt`, by which it is told from others, its ports and its parts
pub record SubcircuitCards : Type 0 where
  pub line : ℕ
  pub ports : List (List ℕ)
  pub parts : List PartCard

-- the parts outside subcircuits, and the subcircuits, the kinds of models and the global names, each in the order in which they came
pub record DeckCards : Type 0 where
  pub outside : List PartCard
  pub subcircuits : List (List ℕ × SubcircuitCards)
  pub models : List (List ℕ × SwitchKind)
  pub globals : List (List ℕ × Unit {0})

-- a deck without cards
abbrev pub no_cards : DeckCards
no_cards = record { outside = []; subcircuits = []; models = []; globals = [] }
