-- Room is made in what is held.
use Rattle.std.proofs.Common.{◌∙◌, ap, sym, subst}
use Rattle.fault_stage.specs.Stages.{FaultData, ServesIn, last_in, state_of}
use Rattle.fault_stage.proofs.stage.FaultStage.take_room.Goals as goal

pub make_room-requires : goal.make_room-requires
make_room-requires c = c.self.invariant

pub invariant_of-self : goal.invariant_of-self
invariant_of-self c = c.make_room.ensures.well

pub returns-clause-room : goal.returns-clause-room
returns-clause-room c = c.make_room.ensures.room

pub returns-clause-state : goal.returns-clause-state
returns-clause-state c = c.make_room.ensures.state ∙ ap (λ (stage : FaultData). state_of stage) c.self.view_is

pub returns-clause-last : goal.returns-clause-last
returns-clause-last c = c.make_room.ensures.last ∙ ap (λ (stage : FaultData). last_in stage) c.self.view_is

pub returns-clause-serves : goal.returns-clause-serves
returns-clause-serves c = λ g kept serves.
    c.make_room.ensures.serves g kept (subst (λ (stage : FaultData). ServesIn stage g kept) (sym c.self.view_is) serves)
