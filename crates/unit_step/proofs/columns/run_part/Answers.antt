-- The code of a part fits it, and the room of the workspace.
use Rattle.std.proofs.Common.{◌≡◌, Some, length, map, take, sym, subst, ◌∙◌, arith}
use Rattle.std.specs.declared.rc.Rc.{Rc}
use Rattle.std.proofs.Common.{Global}
use Rattle.switch_paths.specs.Switching.{state_at}
use Rattle.straight_code.specs.Code.{CodeData, code_value}
use Rattle.word_columns.specs.Columns.{AreRailsIn}
use Rattle.unit_step.proofs.columns.run_part.Goals as goal

pub run_front-requires-clause-nodes : goal.run_front-requires-clause-nodes
run_front-requires-clause-nodes c =
    rw (c.deref-in-Some.ensures.value, c.deref.ensures) (c.requires.seated.coded c.in-Some.code c.in-Some.is).inputs

pub run_front-requires-clause-values : goal.run_front-requires-clause-values
run_front-requires-clause-values c =
    rw (c.deref.ensures, c.deref_mut.ensures.value) (c.requires.seated.coded c.in-Some.code c.in-Some.is).value_room

pub run_front-requires-clause-highs : goal.run_front-requires-clause-highs
run_front-requires-clause-highs c =
    rw c.deref.ensures (omega (arith, (c.requires.seated.coded c.in-Some.code c.in-Some.is).outputs, c.requires.highs))

pub run_front-requires-clause-lows : goal.run_front-requires-clause-lows
run_front-requires-clause-lows c =
    rw c.deref.ensures (omega (arith, (c.requires.seated.coded c.in-Some.code c.in-Some.is).outputs, c.requires.highs, c.requires.lows))

pub returns-in-Some-clause-gives : goal.returns-in-Some-clause-gives
returns-in-Some-clause-gives c = λ code is column state inside has.
    let part = c.args.part.now in
    let own = c.in-Some.code in
    let highs = c.run_front.new.out_hi in
    let lows = c.run_front.new.out_lo in
    let both : Some own ≡ Some code = sym c.in-Some.is ∙ is in
    let same : own ≡ code = cc in
    let value : AreRailsIn column (take (length own.value.outputs) highs) (take (length own.value.outputs) lows) (code_value own.value (map (state_at state) part.map.items)) =
    rw (c.deref.ensures, c.deref-in-Some.ensures.value) at c.run_front.ensures column state inside has in
    let front : AreRailsIn column (take part.members highs) (take part.members lows) (code_value own.value (map (state_at state) part.map.items)) =
    subst (λ n. AreRailsIn column (take n highs) (take n lows) (code_value own.value (map (state_at state) part.map.items))) (c.requires.seated.coded own c.in-Some.is).outputs value in
    subst (λ (one : Rc CodeData Global). AreRailsIn column (take part.members highs) (take part.members lows) (code_value one.value (map (state_at state) part.map.items))) same front

-- a part without code gives nothing
pub returns-in_default-clause-gives : goal.returns-in_default-clause-gives
returns-in_default-clause-gives c = λ code is. absurd (cc (c.in_default.is, is))
