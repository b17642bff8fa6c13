-- There is room, or no node is new.
use Rattle.std.proofs.Common.{◌≡◌, ap, arith}
use Rattle.truth_makers.specs.Makers.{function_holds}
use Rattle.truth_parts.proofs.ColumnLemmas.{length-states}
use Rattle.truth_machine.specs.Machines.{column_of}
use Rattle.symbol_stage.specs.Stages.{IsRoom, spare_held}
use Rattle.symbol_stage.proofs.ColumnLemmas.{none_new}
use Rattle.symbol_stage.proofs.growing.add_in.Goals as goal

pub hold_more-requires : goal.hold_more-requires
hold_more-requires c =
    let room : IsRoom c.args.machine.now c.in-Some.room = rw c.in-Some.is at c.requires.room in
    record { room = room; more = c.requires.more; few = omega (arith, c.requires.few, ap spare_held c.in-Some.is) }

pub returns-in_default-clause-states : goal.returns-in_default-clause-states
returns-in_default-clause-states c = λ column inside.
    let m = c.args.machine.now in
    let none : spare_held c.args.room ≡ 0 = ap spare_held c.in_default.is in
    none_new (column_of function_holds m column) c.args.nodes
    (omega (arith, c.requires.few, none, length-states (function_holds m.maker) column m.hi m.lo c.are_rails.ensures.columns.counted))
