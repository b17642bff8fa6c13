-- What holds of a session holds between calls; its maker has a function that holds in each column.
use Rattle.symbol_session.proofs.session.SymbolSession.is_well_formed.Goals as goal

pub returns-clause-own : goal.returns-clause-own
returns-clause-own c = rw (← c.self.view_is) c.self.invariant.0

pub returns-clause-session : goal.returns-clause-session
returns-clause-session c = rw (← c.self.view_is) c.circuit-circuit.ensures.session

pub returns-clause-constant : goal.returns-clause-constant
returns-clause-constant c =
    rw (← c.self.view_is, ← c.stage.ensures.value, ← c.symbols.ensures)
    (record { function = c.constant-always.result; inside = c.constant-always.ensures.has; holds = c.constant-always.ensures.value })
