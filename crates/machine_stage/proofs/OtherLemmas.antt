-- Nodes whose states differ are placed in a machine, one after the other.
use Rattle.std.proofs.Common.{◌≢◌, ℕ, List, Option, Some, None, refl, subst}
use Rattle.ternary.specs.declared.tern.Tern.{Tern}
use Rattle.switch_paths.specs.Graphs.{GraphData}
use Rattle.switch_paths.specs.Switching.{state_at}
use Rattle.machine_laws.specs.Machines.{MachineData}
use Rattle.machine_stage.specs.Machines.{ConcernsOther, PlacesOthersIn}
use Rattle.machine_stage.specs.Stages.{PutsNode, PutsIn, PutsOthers, PutsOthersIn}
use Rattle.machine_stage.proofs.PlacingLemmas.{places-none, places-more}

module _ (g : GraphData) (before after : List Tern) where
  pub none_put-in : (machine : Option MachineData) → PutsOthersIn g before after machine machine
  none_put-in None = refl
  none_put-in (Some machine) = (machine, refl, places-none g (ConcernsOther before after) machine)

  -- one more was placed
  one_put : (node : ℕ) (value : Tern) (old mid new : MachineData) → state_at before node ≢ state_at after node → PutsOthers g before after old mid →
      PutsNode g node value mid new → PutsOthers g before after old new
  one_put node value old mid new differs so_far puts =
      places-more g (ConcernsOther before after) node value old mid new
      (λ parts k concerns. record { node = node; differs = differs; concerns = concerns }) so_far puts

  pub one_put-in : (node : ℕ) (value : Tern) (old mid new : Option MachineData) → state_at before node ≢ state_at after node →
      PutsOthersIn g before after old mid → PutsIn g node value mid new → PutsOthersIn g before after old new
  one_put-in node value None mid new differs none puts = subst (λ (m : Option MachineData). PutsIn g node value m new) none puts
  one_put-in node value (Some old) mid new differs (between, there, so_far) puts =
      let (next, is, put) = subst (λ (m : Option MachineData). PutsIn g node value m new) there puts in
      (next, is, one_put node value old between next differs so_far put)

  -- what the machine then is
  pub places-put : (old new : Option MachineData) → PutsOthersIn g before after old new → PlacesOthersIn before after old new
  places-put None new none = none
  places-put (Some machine) new (next, there, puts) =
      record { machine = next; there = there; parts = puts.parts; moves = puts.moves; marks = puts.marks }
