-- Each command does what it says.
use Rattle.symbol_session.proofs.session.SymbolSession.moves.Goals as goal

pub returns-in-Step-clause-moves : goal.returns-in-Step-clause-moves
returns-in-Step-clause-moves g c = rw c.in-Step.is c.step.ensures.moves

pub returns-in-Phase-clause-moves : goal.returns-in-Phase-clause-moves
returns-in-Phase-clause-moves g c = rw c.in-Phase.is c.phase.ensures.moves

pub returns-in-Cycle-clause-moves : goal.returns-in-Cycle-clause-moves
returns-in-Cycle-clause-moves g c = rw c.in-Cycle.is c.cycle.ensures.moves
