-- In each column the new rails are those of the states that were there.
use Rattle.std.proofs.Common.{◌≡◌, ℕ, ◌<◌, length, refl, sym, ap, ◌∙◌, subst}
use Rattle.truth_parts.specs.Columns.{AreColumns}
use Rattle.truth_parts.specs.Evaluating.{rooms, HasRoomFor}
use Rattle.truth_parts.proofs.ColumnLemmas.{states-has}
use Rattle.truth_parts.proofs.StepLemmas.{AreColumns-has}
use Rattle.truth_machine.specs.Machines.{TruthData, column_of}
use Rattle.truth_machine.proofs.MakerLemmas.{FitsInMachine-moved, IsTruthMachine-moved}
use Rattle.truth_machine.proofs.machine.TruthMachine.move_to.Goals as goal

pub invariant_of-self : goal.invariant_of-self
invariant_of-self g c =
    let i = c.self.inside in
    let truths = c.args.truths in
    let columns = g.T.Truths.columns truths in
    let has = g.T.Truths.has truths in
    let holds = g.T.Truths.holds truths in
    let hi = c.args.hi.items in
    let lo = c.args.lo.items in
    let are : AreColumns columns holds hi lo =
    AreColumns-has columns holds hi lo c.requires.lows (λ column inside. (column_of g.T.Truths.holds c.args.self.now column, c.requires.same column inside)) in
    let long : length hi ≡ length i.hi.items = c.requires.highs ∙ ap (λ (d : TruthData _ _). length d.hi) (sym c.self.view_is) in
    let fits = subst (λ list. HasRoomFor list (rooms c.in_ok-workspace.workspace)) c.deref.ensures.value c.in_ok-workspace.ensures.room in (
      IsTruthMachine-moved (g.T.Truths.columns i.truths) (g.T.Truths.has i.truths) (g.T.Truths.holds i.truths) columns has holds i.parts.items i.agenda
          i.readers.items i.owners.items i.hi.items i.lo.items hi lo (rooms i.workspace) (rooms c.in_ok-workspace.workspace) long fits are c.requires.high_has c.requires.low_has
          c.self.invariant.0,
      c.in_ok-workspace.ensures.workspace,
    )

pub returns-clause-states : goal.returns-clause-states
returns-clause-states g c = λ column inside.
    states-has (g.T.Truths.holds c.args.truths) column c.args.hi.items c.args.lo.items c.requires.lows (column_of g.T.Truths.holds c.args.self.now column)
    (c.requires.same column inside)

pub returns-clause-moved : goal.returns-clause-moved
returns-clause-moved g c = rw (← c.self.view_is) refl

pub returns-clause-fits : goal.returns-clause-fits
returns-clause-fits g c =
    let i = c.self.inside in
    let columns = g.T.Truths.columns in
    let holds = g.T.Truths.holds in
    let truths = c.args.truths in
    let hi = c.args.hi.items in
    let lo = c.args.lo.items in
    let old : TruthData _ _ = record { maker = i.truths; parts = i.parts.items; marks = i.agenda; hi = i.hi.items; lo = i.lo.items } in
    let new : TruthData _ _ = record { maker = truths; parts = i.parts.items; marks = i.agenda; hi = hi; lo = lo } in
    let count : columns truths ≡ columns i.truths = c.requires.columns ∙ ap (λ (d : TruthData _ _). columns d.maker) (sym c.self.view_is) in
    let states = λ (column : ℕ) (inside : column < columns truths).
    states-has (holds truths) column hi lo c.requires.lows (column_of holds c.args.self.now column) (c.requires.same column inside)
    ∙ ap (λ (d : TruthData _ _). column_of holds d column) (sym c.self.view_is) in
    rw (← c.self.view_is) (FitsInMachine-moved columns holds old new refl refl count states)
