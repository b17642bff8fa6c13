-- The one column has the first letter.
use Rattle.std.proofs.Common.{subst}
use Rattle.ternary.specs.declared.tern.Tern.{Tern}
use Rattle.machine_stage.specs.Stages.{PutsIn}
use Rattle.machine_stage.proofs.LetterLemmas.{first_letter, letter_of_column}
use Rattle.machine_stage.proofs.ServingLemmas.{fits_put, last_put, serves_put}
use Rattle.machine_stage.proofs.columns.MachineStageStage.place.Goals as goal

pub returns-clause-states : goal.returns-clause-states
returns-clause-states c = λ column inside. letter_of_column column c.args.letters.now inside c.args.node c.args.self.now.state c.set_node.new.self.state c.set_node.ensures.state

pub returns-clause-last : goal.returns-clause-last
returns-clause-last c = last_put c.args.graph.now c.args.node _ c.args.self.now.machine c.set_node.new.self.machine c.set_node.ensures.machine

pub returns-clause-serves : goal.returns-clause-serves
returns-clause-serves c = λ kept serves.
    serves_put c.args.graph.now c.args.node _ kept _ _ c.args.self.now.machine c.set_node.new.self.machine c.set_node.ensures.machine
    c.is_the_machines-2.ensures serves

pub returns-clause-fits : goal.returns-clause-fits
returns-clause-fits c = λ built.
    fits_put c.args.graph.now c.args.node _ c.args.self.now.machine c.set_node.new.self.machine c.set_node.ensures.machine built

pub returns-clause-did : goal.returns-clause-did
returns-clause-did c =
    subst (λ (value : Tern). PutsIn c.args.graph.now c.args.node value c.args.self.now.machine c.set_node.new.self.machine)
    (first_letter c.args.letters.now) c.set_node.ensures.machine
