-- The machine's states are the same, so the same nodes are uneven.
use Rattle.std.proofs.Common.{refl}
use Rattle.column_machines.proofs.TurnLemmas.{IsTurning-counted}
use Rattle.column_machines.proofs.turns.TurnMachine.count_moves.Goals as goal

pub invariant_of-self : goal.invariant_of-self
invariant_of-self c =
    let i = c.self.inside in
    IsTurning-counted i.used i.uneven.inside i.spare.inside (record { columns = i.columns; machine = i.machine; hi = i.hi.items; lo = i.lo.items })
    c.count_moves.new.self c.self.invariant c.count_moves.ensures.state

pub returns-clause-words : goal.returns-clause-words
returns-clause-words c = rw (← c.self.view_is) refl

pub returns-clause-state : goal.returns-clause-state
returns-clause-state c = rw (← c.self.view_is) c.count_moves.ensures.state

pub returns-clause-fits : goal.returns-clause-fits
returns-clause-fits c = rw (← c.self.view_is) c.count_moves.ensures.fits

pub returns-clause-moves : goal.returns-clause-moves
returns-clause-moves c = rw (← c.self.view_is) c.count_moves.ensures.moves

pub returns-clause-placed : goal.returns-clause-placed
returns-clause-placed c = rw (← c.self.view_is) c.count_moves.ensures.placed
