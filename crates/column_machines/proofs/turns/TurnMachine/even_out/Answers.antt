-- Those that stay are uneven then.
use Rattle.std.proofs.Common.{refl}
use Rattle.column_machines.proofs.TurnLemmas.{IsTurning-evened}
use Rattle.column_machines.proofs.turns.TurnMachine.even_out.Goals as goal

pub sift-requires-clause-counted : goal.sift-requires-clause-counted
sift-requires-clause-counted c = rw (c.state.ensures, c.deref.ensures.value) c.self.invariant.is.counted

pub sift-requires-clause-even : goal.sift-requires-clause-even
sift-requires-clause-even c = rw (c.deref-2.ensures.value, c.deref.ensures.value) c.self.invariant.is.columns_are.counted

pub sift-requires-clause-inside : goal.sift-requires-clause-inside
sift-requires-clause-inside c = rw c.deref.ensures.value c.self.invariant.even.counted

pub sift-requires-clause-room : goal.sift-requires-clause-room
sift-requires-clause-room c = rw c.deref.ensures.value c.self.invariant.room

pub invariant_of-self : goal.invariant_of-self
invariant_of-self c =
    let i = c.self.inside in
    let even = rw (c.deref.ensures.value, c.deref-2.ensures.value, c.state.ensures) at c.sift.ensures.even in
    rw (c.swap.ensures.x_after, c.swap.ensures.y_after)
    (IsTurning-evened i.used i.uneven.inside i.spare.inside c.sift.new.uneven.inside c.sift.new.stay.inside
    (record { columns = i.columns; machine = i.machine; hi = i.hi.items; lo = i.lo.items }) c.self.invariant c.sift.ensures.less
    c.sift.ensures.more even)

pub returns : goal.returns
returns c = rw (← c.self.view_is) refl
