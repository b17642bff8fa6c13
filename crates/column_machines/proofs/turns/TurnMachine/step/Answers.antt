-- The nodes at which the state may have changed are uneven then.
use Rattle.std.proofs.Common.{refl, arith}
use Rattle.column_machines.proofs.TurnLemmas.{IsTurning-moved}
use Rattle.column_machines.proofs.turns.TurnMachine.step.Goals as goal

pub note-requires : goal.note-requires
note-requires g c = λ node there. omega (arith, c.step_listed-moved.ensures.listed.inside node there, c.self.invariant.is.counted, c.self.invariant.even.counted)

pub invariant_of-self : goal.invariant_of-self
invariant_of-self g c =
    let i = c.self.inside in
    rw c.note.ensures.same
    (IsTurning-moved i.used i.uneven.inside c.note.new.set.inside i.spare.inside (record { columns = i.columns; machine = i.machine; hi = i.hi.items; lo = i.lo.items })
    c.step_listed-moved.new.self _ c.self.invariant c.step_listed-moved.ensures.listed c.note.ensures.puts)

pub returns : goal.returns
returns g c =
    let e = c.step_listed-moved.ensures in
    rw (c.note.ensures.same, ← c.self.view_is)
    (record { words = refl; step = e.step; fits = e.fits; nodes = e.nodes; few = e.few; changed = e.changed; same = e.same; moved = e.moved; rested = e.rested; placed = e.placed })
