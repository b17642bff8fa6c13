-- The node is uneven then, or has the machine's state in each column.
use Rattle.std.proofs.Common.{◌≡◌, ◌<◌, length, refl, sym, ap, arith}
use Rattle.column_machines.specs.Turns.{TurnData}
use Rattle.column_machines.proofs.TurnLemmas.{IsTurning-placed}
use Rattle.column_machines.proofs.turns.TurnMachine.place.Goals as goal

pub put_uneven-requires : goal.put_uneven-requires
put_uneven-requires c = omega (arith, c.requires.inside, ap (λ (d : TurnData). length d.hi) c.self.view_is, c.self.invariant.even.counted)

pub invariant_of-self : goal.invariant_of-self
invariant_of-self c =
    let i = c.self.inside in
    let node = c.args.node in
    let inside : node < length i.hi.items = omega (arith, c.requires.inside, ap (λ (d : TurnData). length d.hi) c.self.view_is) in
    let columns : c.args.self.now.columns ≡ i.columns = ap (λ (d : TurnData). d.columns) (sym c.self.view_is) in
    IsTurning-placed i.used i.uneven.inside c.put_uneven.new.set.inside i.spare.inside
    (record { columns = i.columns; machine = i.machine; hi = i.hi.items; lo = i.lo.items }) node c.args.hi c.args.lo c.self.invariant inside
    (λ column within. c.requires.states column (omega (arith, within, columns))) c.put_uneven.ensures.count c.put_uneven.ensures.stays
    (rw c.state.ensures at c.put_uneven.ensures.there)

pub returns : goal.returns
returns c = rw (← c.self.view_is) refl
