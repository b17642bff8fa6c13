-- Room is taken beside the machine.
use Rattle.symbol_stage.proofs.ServingLemmas.{serves_still}
use Rattle.symbol_stage.proofs.StayingLemmas.{fits_same, given_same, columns_same, states_same}
use Rattle.symbol_stage.proofs.columns.SymbolStageColumns.reserve.Goals as goal

pub returns-clause-columns : goal.returns-clause-columns
returns-clause-columns c = columns_same c.args.self.now c.take_room.new.self c.take_room.ensures.machine

pub returns-clause-states : goal.returns-clause-states
returns-clause-states c = states_same c.args.self.now c.take_room.new.self c.take_room.ensures.machine

pub returns-clause-serves : goal.returns-clause-serves
returns-clause-serves c = λ g kept serves.
    let old = c.args.self.now in
    let new = c.take_room.new.self in
    serves_still old new c.take_room.ensures.built g (fits_same old new c.take_room.ensures.machine g) kept serves

pub returns-clause-did : goal.returns-clause-did
returns-clause-did c = record {
  moves = record {
    count = columns_same c.args.self.now c.take_room.new.self c.take_room.ensures.machine;
    each = states_same c.args.self.now c.take_room.new.self c.take_room.ensures.machine;
  };
  keeps = given_same c.args.self.now c.take_room.new.self c.take_room.ensures.machine;
}
