-- Of the nodes so far those that differ were looked at.
use Rattle.machine_parts.specs.Marking.{MarksAll}
use Rattle.beside_run.specs.Differing.{IsConcerned}
use Rattle.beside_run.proofs.differing.put_differing.Given as goal

abbrev pub invariant-loop-node : goal.invariant-loop-node
invariant-loop-node l = record { marks : MarksAll (IsConcerned l.machine l.good l.node) l.fn.apart.inside l.apart.inside }
