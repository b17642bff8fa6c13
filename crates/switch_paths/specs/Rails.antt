-- The rails: node 0 is Gnd and node 1 is Vdd, both held from outside.
use Rattle.std.specs.Prelude.{◌≡◌, ◌≤◌, List}
use Rattle.ternary.specs.declared.tern.Tern.{Tern}
use Rattle.ternary.specs.declared.tern.Tern.TheVariants.{Zero, One}
use Rattle.strength_order.specs.declared.TheConstants.{INPUT_LEVEL}
use Rattle.switch_paths.specs.declared.TheConstants.{GND, VDD, RAILS}
use Rattle.switch_paths.specs.Switching.{state_at}
use Rattle.switch_paths.specs.Graphs.{GraphData, nodes, level_of}

-- both rails are there and are input nodes
pub record IsRailed (g : GraphData) : Type 0 where
  pub there : RAILS ≤ nodes g
  pub gnd : level_of g GND ≡ INPUT_LEVEL
  pub vdd : level_of g VDD ≡ INPUT_LEVEL

-- a state is sound where the rails have their states
pub record IsSound (state : List Tern) : Type 0 where
  pub gnd : state_at state GND ≡ Zero
  pub vdd : state_at state VDD ≡ One
