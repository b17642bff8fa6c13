-- What the code of a part gave is noted.
use Rattle.std.proofs.Common.{◌≡◌, ◌<◌, ◌∙◌, ℕ, List, length, map, take, sym, ap, subst, arith}
use Rattle.std.proofs.lemmas.List.{length-take-le}
use Rattle.ternary.specs.declared.tern.Tern.{Tern}
use Rattle.switch_paths.specs.Switching.{state_at}
use Rattle.straight_code.specs.Code.{code_value}
use Rattle.word_columns.specs.Columns.{AreRailsIn}
use Rattle.column_machines.specs.Noting.{Notes}
use Rattle.column_machines.proofs.EvaluationLemmas.{Reports-from_Notes}
use Rattle.column_machines.proofs.evaluation.note_outputs.Goals as goal

pub note_all-requires-clause-below : goal.note_all-requires-clause-below
note_all-requires-clause-below c = rw c.deref-in-Some-2.ensures.value c.requires.seated.1.below

pub returns-in-Some-clause-changes : goal.returns-in-Some-clause-changes
returns-in-Some-clause-changes c = λ parts k stands.
    let part = c.args.part.now in
    let code = c.in-Some._code in
    let seat = c.requires.seated.1 in
    let hi = c.args.hi.now in
    let lo = c.args.lo.now in
    let ones = take part.members c.deref.result.now in
    let others = take part.members c.deref-in-Some.result.now in
    let high_are = c.deref.ensures.value in
    let low_are = c.deref-in-Some.ensures.value in
    let given : (column : ℕ) (state : List Tern) → column < 64 → AreRailsIn column hi lo state →
    AreRailsIn column ones others (code_value code.value (map (state_at state) part.map.items)) = λ column state inside has.
    rw (high_are, low_are) (c.requires.gives code c.in-Some.is column state inside has) in
    let high_count : length ones ≡ part.members =
    length-take-le part.members c.deref.result.now (omega (arith, c.requires.outs, ap length high_are)) in
    let low_count : length others ≡ part.members =
    length-take-le part.members c.deref-in-Some.result.now (omega (arith, c.requires.outs, ap length low_are, c.requires.rails)) in
    let notes : Notes c.args.joining c.args.used part.map.items hi lo ones others (length ones) c.args.workspace.now.changes.items c.note_all.new.changes.items =
    subst (λ nodes. Notes c.args.joining c.args.used nodes hi lo ones others (length ones) c.args.workspace.now.changes.items
    c.note_all.new.changes.items)
    c.deref-in-Some-2.ensures.value c.note_all.ensures.changes in
    Reports-from_Notes c.args.joining parts c.args.used hi lo c.requires.words k part code stands c.in-Some.is seat.members
    seat.below ones others high_count (low_count ∙ sym high_count) given c.args.workspace.now.changes.items c.note_all.new.changes.items notes
