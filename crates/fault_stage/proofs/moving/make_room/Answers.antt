-- The states stay, whatever is held.
use Rattle.std.proofs.Common.{refl, sym, ap, subst, arith}
use Rattle.fault_stage.specs.declared.held.Held.{Held}
use Rattle.fault_stage.specs.Runs.{IsWell}
use Rattle.fault_stage.specs.Stages.{ReadyData, ServesIn, ServesReady, data_of, ready_of}
use Rattle.fault_stage.proofs.moving.make_room.Goals as goal

pub returns-in-Whole-clause-room : goal.returns-in-Whole-clause-room
returns-in-Whole-clause-room c = c.reserve.ensures.room

pub returns-in-Whole-clause-state : goal.returns-in-Whole-clause-state
returns-in-Whole-clause-state c = rw c.in-Whole.is (c.reserve.ensures.states 0 (omega arith))

pub returns-in-Whole-clause-last : goal.returns-in-Whole-clause-last
returns-in-Whole-clause-last c = rw c.in-Whole.is c.reserve.ensures.last

pub returns-in-Whole-clause-serves : goal.returns-in-Whole-clause-serves
returns-in-Whole-clause-serves c = λ g kept serves.
    c.reserve.ensures.serves g kept (subst (λ (held : Held). ServesIn (data_of held) g kept) c.in-Whole.is serves)

pub take_room-requires : goal.take_room-requires
take_room-requires c = subst IsWell c.in-Built.is c.requires

pub returns-in-Built-clause-well : goal.returns-in-Built-clause-well
returns-in-Built-clause-well c = c.take_room.ensures.built

pub returns-in-Built-clause-room : goal.returns-in-Built-clause-room
returns-in-Built-clause-room c = c.take_room.ensures.room

pub returns-in-Built-clause-state : goal.returns-in-Built-clause-state
returns-in-Built-clause-state c = rw c.in-Built.is (ap (λ (ready : ReadyData). ready.state) c.take_room.ensures.same)

pub returns-in-Built-clause-last : goal.returns-in-Built-clause-last
returns-in-Built-clause-last c = rw c.in-Built.is refl

pub returns-in-Built-clause-serves : goal.returns-in-Built-clause-serves
returns-in-Built-clause-serves c = λ g kept serves.
    let was : ServesReady (ready_of c.in-Built.built) g kept = subst (λ (held : Held). ServesIn (data_of held) g kept) c.in-Built.is serves in
    subst (λ (ready : ReadyData). ServesReady ready g kept) (sym c.take_room.ensures.same)
    (record { graph = was.graph; first = was.first; front = was.front })

pub returns-in-Waiting-clause-well : goal.returns-in-Waiting-clause-well
returns-in-Waiting-clause-well c = subst IsWell c.in-Waiting.is c.requires

pub returns-in-Waiting-clause-room : goal.returns-in-Waiting-clause-room
returns-in-Waiting-clause-room c = c.room_in.ensures.room

pub returns-in-Waiting-clause-state : goal.returns-in-Waiting-clause-state
returns-in-Waiting-clause-state c = rw c.in-Waiting.is c.room_in.ensures.state

pub returns-in-Waiting-clause-last : goal.returns-in-Waiting-clause-last
returns-in-Waiting-clause-last c = rw c.in-Waiting.is refl

pub returns-in-Waiting-clause-serves : goal.returns-in-Waiting-clause-serves
returns-in-Waiting-clause-serves c = λ g kept serves.
    subst (λ (held : Held). ServesIn (data_of held) g kept) c.in-Waiting.is serves
