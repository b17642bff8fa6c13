-- Large groups in a graph that got new nodes: these are input nodes, and no switch is at them.
-- After Bryant, "A Switch-Level Model and Simulator for MOS Digital Systems", 1984.
use Rattle.std.specs.Prelude.{◌≡◌, ℕ, ◌-◌, List, [], ◌++◌, length, replicate}
use Rattle.strength_order.specs.declared.TheConstants.{INPUT_LEVEL}
use Rattle.ternary.specs.declared.tern.Tern.{Tern}
use Rattle.switch_paths.specs.Graphs.{GraphData, IsWired, nodes}
use Rattle.vicinity.specs.Lists.{LiveListData, LiveListsData}
use Rattle.vicinity.specs.LiveLists.{AreListsOf}
use Rattle.vicinity.specs.Wides.{WideData}

-- the graph with input nodes behind the others, up to so many nodes
abbrev pub grown_graph : GraphData → ℕ → GraphData
grown_graph g count = record g { levels = g.levels ++ replicate (count - nodes g) INPUT_LEVEL }

-- a list without places
abbrev pub no_places : LiveListData
no_places = record { items = []; all = [] }

-- the lists, and so many more, which have no places
abbrev pub with_lists : LiveListsData → ℕ → LiveListsData
with_lists lists more = record { ends = lists.ends ++ replicate more no_places; gates = lists.gates ++ replicate more no_places }

-- the groups are known in the graph that has so many nodes: the lists are those of its states, whatever the new ones are, and what was touched
-- is touched
pub record GrowsWide (count : ℕ) (old new : WideData) : Type 0 where
  pub large : new.large ≡ old.large
  pub graph : new.graph ≡ grown_graph old.graph count
  pub wired : IsWired new.graph
  pub live : (state more : List Tern) → length state ≡ nodes old.graph → AreListsOf old.graph state old.lists → AreListsOf new.graph (state ++ more) new.lists
  pub touched : new.touched.list ≡ old.touched.list
