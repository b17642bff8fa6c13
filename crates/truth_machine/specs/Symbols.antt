-- A machine over functions of variables whose maker makes more of them.
use Rattle.std.specs.Prelude.{◌≡◌, ℕ, ◌<◌}
use Rattle.switch_paths.specs.Graphs.{GraphData}
use Rattle.decision_graph.specs.declared.vertex.Function.{Function}
use Rattle.decision_graph.specs.Vertices.{Extends}
use Rattle.decision_graph.specs.Graphs.{SameShape}
use Rattle.truth_makers.specs.declared.symbols.Symbols.{Symbols}
use Rattle.truth_makers.specs.Makers.{columns_in, function_holds}
use Rattle.truth_machine.specs.Machines.{TruthData, column_of, FitsInMachine}
use Rattle.truth_machine.specs.Moving.{Rests}

-- all is as before but the graph of functions, to which vertices were added: each column has the states that it had, and what graph the machine
-- fitted it fits still
pub record MakesMore (old new : TruthData Function Symbols) : Type 0 where
  pub shape : SameShape old.maker.graph new.maker.graph
  pub extends : Extends old.maker.graph.vertices new.maker.graph.vertices
  pub rests : Rests old new
  pub states : (column : ℕ) → column < columns_in old.maker → column_of function_holds new column ≡ column_of function_holds old column
  pub fits : (g : GraphData) → FitsInMachine columns_in function_holds g old → FitsInMachine columns_in function_holds g new
