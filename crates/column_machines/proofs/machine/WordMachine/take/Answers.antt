-- A step of the machine, by its parts.
use Rattle.std.proofs.Common.{◌<◌, length, ap, arith}
use Rattle.std.proofs.lemmas.List.{with_items_is}
use Rattle.column_machines.specs.Columns.{column_states}
use Rattle.column_machines.specs.Running.{StepsInAll}
use Rattle.column_machines.proofs.ColumnLemmas.{length-column_states}
use Rattle.column_machines.proofs.MakingLemmas.{IsWordMachine-again, AreColumns-stepped, StepsColumns-stepped}
use Rattle.column_machines.proofs.machine.WordMachine.take.Goals as goal

pub advance-requires : goal.advance-requires
advance-requires c =
    let m = c.self.invariant.0 in
    rw (c.deref_mut.ensures.value, c.deref_mut-2.ensures.value)
    (record { words = m.columns_are.counted; nodes = m.nodes; runnable = m.runs; rails = c.self.invariant.1 })

pub invariant_of-self : goal.invariant_of-self
invariant_of-self c =
    let i = c.self.inside in
    let highs = with_items_is i.hi c.advance.new.hi (omega (arith, c.advance.auto.hi, c.deref_mut.ensures.len)) in
    let lows = with_items_is i.lo c.advance.new.lo (omega (arith, c.advance.auto.lo, c.deref_mut-2.ensures.len)) in
    let steps : StepsInAll c.args.joining i.machine.parts i.used i.agenda c.advance.new.agenda i.hi.items i.lo.items c.advance.new.hi c.advance.new.lo c.advance.result =
    rw (c.deref_mut.ensures.value, c.deref_mut-2.ensures.value) at c.advance.ensures.columns_are in
    let columns_are = AreColumns-stepped _ _ _ _ _ _ _ c.self.invariant.0 _ _ _ _ _ steps in
    let again = IsWordMachine-again _ _ _ _ _ _ _ _ _ _ _ steps.marks_counted steps.highs c.advance.ensures.rooms columns_are c.self.invariant.0 in
    (rw (highs, lows, c.advance.ensures.machine) again, c.advance.ensures.rails)

pub returns-clause-steps : goal.returns-clause-steps
returns-clause-steps c =
    let i = c.self.inside in
    let steps : StepsInAll c.args.joining i.machine.parts i.used i.agenda c.advance.new.agenda i.hi.items i.lo.items c.advance.new.hi c.advance.new.lo c.advance.result =
    rw (c.deref_mut.ensures.value, c.deref_mut-2.ensures.value) at c.advance.ensures.columns_are in
    let highs = with_items_is i.hi c.advance.new.hi (omega (arith, c.advance.auto.hi, c.deref_mut.ensures.len)) in
    let lows = with_items_is i.lo c.advance.new.lo (omega (arith, c.advance.auto.lo, c.deref_mut-2.ensures.len)) in
    rw (← c.self.view_is)
    (rw (highs, lows, c.advance.ensures.machine) (StepsColumns-stepped _ _ _ _ _ _ _ c.self.invariant.0 _ _ _ _ _ steps _ _))

pub returns-clause-few : goal.returns-clause-few
returns-clause-few c = λ column.
    let i = c.self.inside in
    let steps : StepsInAll c.args.joining i.machine.parts i.used i.agenda c.advance.new.agenda i.hi.items i.lo.items c.advance.new.hi c.advance.new.lo c.advance.result =
    rw (c.deref_mut.ensures.value, c.deref_mut-2.ensures.value) at c.advance.ensures.columns_are in
    let columns_are = AreColumns-stepped _ _ _ _ _ _ _ c.self.invariant.0 _ _ _ _ _ steps in
    let counted = length-column_states column c.advance.new.hi c.advance.new.lo columns_are.counted in
    let few : length (column_states column c.advance.new.hi c.advance.new.lo) < 9223372036854775808 =
    omega (arith, counted, steps.highs, ap length c.deref_mut.ensures.value, c.deref_mut.type_inv.1) in
    let highs = with_items_is i.hi c.advance.new.hi (omega (arith, c.advance.auto.hi, c.deref_mut.ensures.len)) in
    let lows = with_items_is i.lo c.advance.new.lo (omega (arith, c.advance.auto.lo, c.deref_mut-2.ensures.len)) in
    rw (highs, lows) few
