-- The room is for the machine as it is.
use Rattle.symbol_stage.proofs.stage.SymbolStage.add_nodes.Goals as goal

pub add_in-requires : goal.add_in-requires
add_in-requires c = record {
  room = rw c.take-room.ensures.value c.self.invariant;
  more = rw (← c.self.view_is) at c.requires.more;
  few = rw c.take-room.ensures.value (rw (← c.self.view_is) at c.requires.few);
}

pub returns-clause-maker : goal.returns-clause-maker
returns-clause-maker c = rw (← c.self.view_is) c.add_in.ensures.maker

pub returns-clause-states : goal.returns-clause-states
returns-clause-states c = rw (← c.self.view_is) c.add_in.ensures.states
