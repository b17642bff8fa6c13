-- Nothing but the count of moves changes, and which graphs a machine fits isn't told by that.
use Rattle.std.proofs.Common.{ℕ, refl, rules}
use Rattle.switch_paths.specs.Graphs.{GraphData}
use Rattle.machine_laws.specs.Machines.{MachineData}
use Rattle.machine_laws.specs.Fitting.{FitsGraph}
use Rattle.unit_step.specs.contracts.machine.Machine.{the_view}
use Rattle.unit_step.proofs.machine.Machine.count_moves.Goals as goal

-- with another count it fits what it fits
fits_moved : (g : GraphData) (machine : MachineData) (moves : ℕ) → FitsGraph g machine → FitsGraph g (record machine { moves = moves })
fits_moved g machine moves fits = search rules

pub invariant_of-self : goal.invariant_of-self
invariant_of-self c = c.self.invariant

pub returns-clause-state : goal.returns-clause-state
returns-clause-state c = rw (← c.self.view_is) refl

pub returns-clause-fits : goal.returns-clause-fits
returns-clause-fits c =
    rw (← c.self.view_is) (λ g fits. fits_moved g (the_view c.self.inside) c.moves_raised-self-inside.result fits)

pub returns-clause-moves : goal.returns-clause-moves
returns-clause-moves c = rw (← c.self.view_is) c.moves_raised-self-inside.ensures

pub returns-clause-placed : goal.returns-clause-placed
returns-clause-placed c = rw (← c.self.view_is) refl

pub returns-clause-fixed : goal.returns-clause-fixed
returns-clause-fixed c = rw (← c.self.view_is) refl
