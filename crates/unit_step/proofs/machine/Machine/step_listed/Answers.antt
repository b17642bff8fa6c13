-- A step is the unit step on a graph that the machine fits.
use Rattle.std.proofs.Common.{Bool, false, List, ap₂}
use Rattle.group_text.specs.Texts.{GroupTextData}
use Rattle.wide_groups.proofs.WideCases.{known_still}
use Rattle.machine_laws.proofs.FittingLemmas.{steps_are_unit_steps}
use Rattle.unit_step.proofs.machine.Machine.step_listed.Goals as goal

pub returns-clause-step : goal.returns-clause-step
returns-clause-step g c = λ fits. (steps_are_unit_steps _ _ _ c.graphs_are_wired.ensures fits c.take.ensures.advances).0

pub returns-clause-fits : goal.returns-clause-fits
returns-clause-fits g c = λ fits. (steps_are_unit_steps _ _ _ c.graphs_are_wired.ensures fits c.take.ensures.advances).1

pub returns-clause-nodes : goal.returns-clause-nodes
returns-clause-nodes g c = c.take.ensures.advances.moves.count

pub returns-clause-placed : goal.returns-clause-placed
returns-clause-placed g c = c.take.ensures.advances.placed

pub returns-clause-fixed : goal.returns-clause-fixed
returns-clause-fixed g c =
    let taken = c.take.ensures.advances in
    let pair : List GroupTextData → Bool → List GroupTextData × Bool = λ last known. (last, known) in
    ap₂ pair taken.last
    (known_still false c.args.self.now.wide c.take.new.self.wide c.args.self.now.state c.take.new.self.state taken.wide)
