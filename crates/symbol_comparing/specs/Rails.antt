-- Rails of nodes, as functions of one maker: where each node may be 1, and where it may be 0.
use Rattle.std.specs.Prelude.{◌≡◌, ℕ, ◌<◌, Bool, List, take, drop, slice_index_or, All}
use Rattle.ternary.specs.declared.tern.Tern.{Tern}
use Rattle.decision_graph.specs.declared.vertex.Vertex.{Vertex}
use Rattle.decision_graph.specs.declared.vertex.Function.{Function}
use Rattle.decision_graph.specs.Meaning.{holds}
use Rattle.truth_makers.specs.declared.symbols.Symbols.{Symbols}
use Rattle.truth_makers.specs.Makers.{columns_in, function_holds, IsFunctionOf}
use Rattle.truth_parts.specs.Columns.{states_in, AreColumns}
use Rattle.symbol_comparing.specs.declared.rails.Rails as code

-- the rails of nodes, in order
pub record RailLists : Type 0 where
  pub highs : List Function
  pub lows : List Function

abbrev pub rails_of : List Function → List Function → RailLists
rails_of highs lows = record { highs = highs; lows = lows }

-- those of the code
abbrev pub rails_seen : code.Rails → RailLists
rails_seen rails = rails_of rails.highs.now rails.lows.now

-- the first nodes, so many or all that there are, and the others
abbrev pub take_rails : ℕ → RailLists → RailLists
take_rails count rails = rails_of (take count rails.highs) (take count rails.lows)

abbrev pub drop_rails : ℕ → RailLists → RailLists
drop_rails count rails = rails_of (drop count rails.highs) (drop count rails.lows)

-- the states of the nodes in a column
abbrev pub letters_in : Symbols → RailLists → ℕ → List Tern
letters_in symbols rails column = states_in (function_holds symbols) column rails.highs rails.lows

-- they are functions of the maker, and each node has a state in each column
pub record AreRailsOf (symbols : Symbols) (rails : RailLists) : Type 0 where
  pub columns : AreColumns (columns_in symbols) (function_holds symbols) rails.highs rails.lows
  pub highs : All (IsFunctionOf symbols) rails.highs
  pub lows : All (IsFunctionOf symbols) rails.lows

-- the function at a place of a list
abbrev pub function_at : List Function → ℕ → Function
function_at list k = slice_index_or list k (record { place = 0 })

-- under a valuation the rails of the first nodes, so many, hold where others do
abbrev pub HoldAlike : List Vertex → (ℕ → Bool) → ℕ → RailLists → RailLists → Type 0
HoldAlike vertices vars count one other = (k : ℕ) → k < count →
    (holds vertices vars (function_at one.highs k).place ≡ holds vertices vars (function_at other.highs k).place)
    × (holds vertices vars (function_at one.lows k).place ≡ holds vertices vars (function_at other.lows k).place)
