-- A part with code fits the room, and what its code gives is noted.
use Rattle.std.proofs.Common.{◌≡◌, ◌<◌, ◌∙◌, ℕ, List, length, map, take, sym, ap, subst, Vec, Global, arith}
use Rattle.std.proofs.lemmas.List.{length-take-le}
use Rattle.std.proofs.lemmas.List.Elements.{All-take}
use Rattle.ternary.specs.declared.tern.Tern.{Tern}
use Rattle.switch_paths.specs.Switching.{state_at}
use Rattle.straight_code.specs.Code.{code_value}
use Rattle.truth_columns.specs.Columns.{HasColumn}
use Rattle.truth_columns.proofs.ColumnLemmas.{All-kept, AreKept-trans}
use Rattle.truth_parts.specs.declared.workspace.TruthChange.{TruthChange}
use Rattle.truth_parts.specs.Noting.{Notes}
use Rattle.truth_parts.specs.Evaluating.{Rooms}
use Rattle.truth_parts.proofs.KeptLemmas.{AreOf-kept, HasColumn-kept, IsColumn-before, passed_on}
use Rattle.truth_parts.proofs.EvaluationLemmas.{Reports-from_Notes}
use Rattle.truth_parts.proofs.evaluation.evaluate.Goals as goal

pub run_part-requires-clause-nodes : goal.run_part-requires-clause-nodes
run_part-requires-clause-nodes g c =
    rw (c.deref-in-Some.ensures.value, c.deref.ensures) (c.requires.seated.seated.coded c.in-Some.code c.in-Some.is).inputs

pub run_part-requires-clause-values : goal.run_part-requires-clause-values
run_part-requires-clause-values g c = rw c.deref.ensures (c.requires.seated.value_room c.in-Some.code c.in-Some.is)

pub note_outputs-requires-clause-highs : goal.note_outputs-requires-clause-highs
note_outputs-requires-clause-highs g c = All-kept _ _ _ _ _ _ c.args.hi.now c.run_part.ensures.kept c.requires.highs

pub note_outputs-requires-clause-lows : goal.note_outputs-requires-clause-lows
note_outputs-requires-clause-lows g c = All-kept _ _ _ _ _ _ c.args.lo.now c.run_part.ensures.kept c.requires.lows

pub note_outputs-requires-clause-outs : goal.note_outputs-requires-clause-outs
note_outputs-requires-clause-outs g c = omega (arith, c.requires.seated.out_room, ap (λ (room : Rooms). room.outs) c.run_part.ensures.rooms)

pub note_outputs-requires-clause-own : goal.note_outputs-requires-clause-own
note_outputs-requires-clause-own g c = rw c.run_part.ensures.changes (AreOf-kept _ _ _ _ _ _ c.run_part.ensures.kept c.args.workspace.now.changes.items c.requires.own)

pub note_outputs-requires-clause-room : goal.note_outputs-requires-clause-room
note_outputs-requires-clause-room g c = rw c.run_part.ensures.changes c.requires.room

pub returns-in_ok-note_outputs-in-Some-clause-changes : goal.returns-in_ok-note_outputs-in-Some-clause-changes
returns-in_ok-note_outputs-in-Some-clause-changes g c = λ parts k stands.
    let code = c.in-Some.code in
    let part = c.args.part.now in
    let seat = c.requires.seated.seated in
    let hi = c.args.hi.now in
    let lo = c.args.lo.now in
    let highs = c.run_part.new.workspace.out_hi.items in
    let mid = c.run_part.new.truths in
    let new = c.note_outputs.new.truths in
    let lows = c.run_part.new.workspace.out_lo.items in
    let ones = take part.members highs in
    let others = take part.members lows in
    let workspace = c.run_part.ensures.workspace in
    let values : List Tern → List Tern = λ state. code_value code.value (map (state_at state) part.map.items) in
    let given : (column : ℕ) (state : List Tern) → column < g.T.Truths.columns new → HasColumn (g.T.Truths.holds new) column hi lo state →
    HasColumn (g.T.Truths.holds new) column ones others (code_value code.value (map (state_at state) part.map.items)) = λ column state inside has.
    let mid_inside : column < g.T.Truths.columns mid = omega (arith, inside, c.note_outputs.ensures.kept.count) in
    let old_inside : column < g.T.Truths.columns c.args.truths.now = omega (arith, mid_inside, c.run_part.ensures.kept.count) in
    let before = IsColumn-before _ _ _ _ _ _ (AreKept-trans _ _ _ _ _ _ _ _ _ c.run_part.ensures.kept c.note_outputs.ensures.kept) hi lo c.requires.highs c.requires.lows column state
    (record { inside = inside; has = has }) in
    let value : HasColumn (g.T.Truths.holds mid) column (take (length code.value.outputs) highs) (take (length code.value.outputs) lows) (values state) =
    rw (c.deref.ensures, c.deref-in-Some.ensures.value) at c.in_ok-run_part-in-Some.ensures.value column state old_inside before.has in
    HasColumn-kept _ _ _ _ _ _ c.note_outputs.ensures.kept ones others (All-take (g.T.Truths.has mid) part.members highs workspace.highs) (All-take (g.T.Truths.has mid) part.members lows workspace.lows) column (values state) mid_inside
    (subst (λ n. HasColumn (g.T.Truths.holds mid) column (take n highs) (take n lows) (values state)) (seat.coded code c.in-Some.is).outputs value) in
    let room : length highs ≡ length c.args.workspace.now.out_hi.items = ap (λ (room : Rooms). room.outs) c.run_part.ensures.rooms in
    let high_count : length ones ≡ part.members = length-take-le part.members highs (omega (arith, c.requires.seated.out_room, room)) in
    let low_count : length others ≡ part.members =
    length-take-le part.members lows (omega (arith, c.requires.seated.out_room, room, workspace.even)) in
    let before = ap (λ (list : Vec (TruthChange _) Global). list.items) c.run_part.ensures.changes in
    let noted : Notes c.args.joining (g.T.Truths.columns new) (g.T.Truths.holds new) part.map.items hi lo ones others part.members c.args.workspace.now.changes.items
    c.note_outputs.new.workspace.changes.items = rw before at c.in_ok-note_outputs-in-Some.ensures.changes in
    let notes = subst (λ n. Notes c.args.joining (g.T.Truths.columns new) (g.T.Truths.holds new) part.map.items hi lo ones others n c.args.workspace.now.changes.items
    c.note_outputs.new.workspace.changes.items) (sym high_count) noted in
    Reports-from_Notes c.args.joining parts (g.T.Truths.columns new) (g.T.Truths.holds new) hi lo c.requires.rails k part code stands c.in-Some.is seat.members
    seat.below ones others high_count (low_count ∙ sym high_count) given c.args.workspace.now.changes.items
    c.note_outputs.new.workspace.changes.items notes

pub returns-in_err-run_part-in-Some-clause-spent : goal.returns-in_err-run_part-in-Some-clause-spent
returns-in_err-run_part-in-Some-clause-spent g c = passed_on _ c.from_residual.result _ c.from_residual.ensures.1 c.in_err-run_part-in-Some.ensures.spent

pub returns-in_err-note_outputs-in-Some-clause-spent : goal.returns-in_err-note_outputs-in-Some-clause-spent
returns-in_err-note_outputs-in-Some-clause-spent g c = passed_on _ c.from_residual-in_err-note_outputs-in-Some.result _ c.from_residual-in_err-note_outputs-in-Some.ensures.1 c.in_err-note_outputs-in-Some.ensures.spent
