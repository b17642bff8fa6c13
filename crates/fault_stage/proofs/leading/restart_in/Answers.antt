-- The machine that is there starts again.
use Rattle.std.proofs.Common.{Option, sym, subst, ◌∙◌}
use Rattle.std.specs.Prelude.{IfSome}
use Rattle.machine_laws.specs.Machines.{MachineData}
use Rattle.fault_stage.specs.Runs.{IsCovered}
use Rattle.fault_stage.proofs.LeadingLemmas.{covered_again}
use Rattle.fault_stage.proofs.leading.restart_in.Goals as goal

pub restart-requires : goal.restart-requires
restart-requires c =
    let covered : IsCovered c.args.graph.now c.in-Some.machine =
    subst (λ (slot : Option MachineData). IfSome slot (IsCovered c.args.graph.now)) c.in-Some.is c.requires.covered in
    record { counted = c.requires.counted ∙ sym covered.covers.counted; sound = covered.sound; sound_again = c.requires.sound }

pub returns-in-Some-clause-covered : goal.returns-in-Some-clause-covered
returns-in-Some-clause-covered c =
    covered_again c.args.graph.now c.args.state.now c.in-Some.machine c.restart.new.self
    (subst (λ (slot : Option MachineData). IfSome slot (IsCovered c.args.graph.now)) c.in-Some.is c.requires.covered) c.requires.sound c.restart.ensures
