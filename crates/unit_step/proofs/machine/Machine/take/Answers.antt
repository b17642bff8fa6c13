-- A step of the machine, by its parts.
use Rattle.std.proofs.Common.{◌≡◌, ◌≢◌, List, ◌++◌, length, refl, sym, ap, subst, ◌∙◌, arith}
use Rattle.std.specs.Bool.{OnTrue, OnFalse}
use Rattle.std.specs.Vec.{with_items}
use Rattle.std.proofs.lemmas.List.{with_items_is}
use Rattle.ternary.specs.declared.tern.Tern.{Tern}
use Rattle.settling.specs.Moved.{ListsChanges}
use Rattle.settling.specs.Settling.{StaysOrBecomesX}
use Rattle.machine_parts.specs.Marking.{marked_sum, instructions_of}
use Rattle.std.specs.Prelude.{vec_capacity}
use Rattle.machine_parts.specs.Stepping.{Remarks}
use Rattle.wide_groups.specs.Moving.{MovesIn, RetouchesIn}
use Rattle.wide_groups.specs.Awake.{HoldsWide, IsWorked}
use Rattle.part_steps.specs.Dense.{AreDense}
use Rattle.part_steps.specs.Workspaces.{rooms, nodes_noted}
use Rattle.unit_step.specs.LastTexts.{AreLastTexts}
use Rattle.machine_parts.proofs.MachineLemmas.{IsMachine-again}
use Rattle.unit_step.proofs.ListingLemmas.{told_lists}
use Rattle.unit_step.proofs.machine.Machine.take.Given.{Over}
use Rattle.unit_step.proofs.machine.Machine.take.Goals.{After-advance-moved}
use Rattle.unit_step.proofs.machine.Machine.take.Goals as goal

pub advance-moved-requires : goal.advance-moved-requires
advance-moved-requires g c =
    rw (c.deref.ensures.value, c.deref_mut.ensures.value) (record { dense = c.self.invariant.1; runnable = c.self.invariant.0.runs; wide = c.self.invariant.3 })

pub invariant_of-self : goal.invariant_of-self
invariant_of-self g c =
    let i = c.self.inside in
    let n = c.advance-moved.new.state in
    let step = c.advance-moved.ensures in
    let final = with_items_is i.body.state n (omega (arith, c.advance-moved.auto.state, c.deref_mut.ensures.len)) in
    let nodes = ap length final ∙ (c.advance-moved.auto.state ∙ ap length c.deref_mut.ensures.value) in (
      IsMachine-again i.body.parts.items i.body.agenda.marks c.advance-moved.new.agenda.marks i.body.agenda.waiting c.advance-moved.new.agenda.waiting
          (length i.body.state.items) _ i.body.readers i.body.owners.items i.body.uses.numbers i.body.held i.body.most (rooms i.body.workspace) (rooms c.advance-moved.new.workspace)
          step.marks.count step.waiting nodes step.rooms c.self.invariant.0,
      subst (λ list. AreDense list c.advance-moved.new.dense) c.deref.ensures.value step.dense,
      subst (λ n. AreLastTexts i.body.parts.items i.body.uses.numbers n (length i.body.uses.known) i.body.last_texts) (sym nodes) c.self.invariant.2,
      subst (λ state. HoldsWide i.body.parts.items state (vec_capacity c.advance-moved.new.noted) c.advance-moved.new.wide) (sym final)
          (subst (λ list. HoldsWide list n (vec_capacity c.advance-moved.new.noted) c.advance-moved.new.wide) c.deref.ensures.value step.holds),
      c.self.invariant.4,
    )

pub returns-clause-advances : goal.returns-clause-advances
returns-clause-advances g c =
    let i = c.self.inside in
    let joining = c.args.joining in
    let n = c.advance-moved.new.state in
    let marks = i.body.agenda.marks in
    let new_marks = c.advance-moved.new.agenda.marks in
    let parts = c.deref.result.now in
    let old = c.deref_mut.result.now in
    let step = c.advance-moved.ensures in
    let final = with_items_is i.body.state n (omega (arith, c.advance-moved.auto.state, c.deref_mut.ensures.len)) in
    rw (← c.self.view_is) (record {
      step = record {
        moves = subst (MovesIn joining i.body.parts.items marks i.body.wide i.body.state.items) (sym final)
            (subst (λ state. MovesIn joining i.body.parts.items marks i.body.wide state n) c.deref_mut.ensures.value
            (subst (λ list. MovesIn joining list marks i.body.wide old n) c.deref.ensures.value step.moves));
        wide = subst (RetouchesIn joining i.body.wide c.advance-moved.new.wide i.body.state.items) (sym final)
            (subst (λ state. RetouchesIn joining i.body.wide c.advance-moved.new.wide state n) c.deref_mut.ensures.value step.retouches);
        build = record { groups = refl; last = refl; spare = refl };
        held = record { parts = refl; uses = refl; texts = refl };
      };
      marks = subst (λ state. Remarks joining i.body.parts.items marks i.body.state.items state new_marks) (sym final)
          (subst (λ state. Remarks joining i.body.parts.items marks state n new_marks) c.deref_mut.ensures.value
          (subst (λ list. Remarks joining list marks old n new_marks) c.deref.ensures.value step.marks));
      placed = refl;
    })

pub returns-clause-ticks : goal.returns-clause-ticks
returns-clause-ticks g c =
    let i = c.self.inside in
    rw (← c.self.view_is)
    (subst (λ state. IsWorked (marked_sum instructions_of i.body.parts.items i.body.agenda.marks) i.body.wide state c.args.steps.now c.advance-moved.new.steps)
    c.deref_mut.ensures.value
    (subst (λ parts. IsWorked (marked_sum instructions_of parts i.body.agenda.marks) i.body.wide c.deref_mut.result.now c.args.steps.now c.advance-moved.new.steps)
    c.deref.ensures.value c.advance-moved.ensures.steps))

-- what holds of the states that were handed in, and of those that came back, holds of the machine's
states_are : (g : Over) (c : After-advance-moved g) (P : List Tern → List Tern → Type 0) → P c.deref_mut.result.now c.advance-moved.new.state →
    P c.self.inside.body.state.items (with_items c.self.inside.body.state c.advance-moved.new.state).items
states_are g c P holds =
    let final = with_items_is c.self.inside.body.state c.advance-moved.new.state (omega (arith, c.advance-moved.auto.state, c.deref_mut.ensures.len)) in
    subst (P c.self.inside.body.state.items) (sym final) (subst (λ state. P state c.advance-moved.new.state) c.deref_mut.ensures.value holds)

pub returns-clause-unknown : goal.returns-clause-unknown
returns-clause-unknown g c =
    rw (← c.self.view_is) (λ is.
    states_are g (goal.at.returns-clause-unknown g c).After-advance-moved StaysOrBecomesX (c.advance-moved.ensures.unknown is))

pub returns-clause-changed : goal.returns-clause-changed
returns-clause-changed g c =
    rw (← c.self.view_is) (states_are g (goal.at.returns-clause-changed g c).After-advance-moved
    (λ old new. OnTrue c.advance-moved.result (new ≢ old)) c.advance-moved.ensures.changed)

pub returns-clause-same : goal.returns-clause-same
returns-clause-same g c =
    rw (← c.self.view_is) (states_are g (goal.at.returns-clause-same g c).After-advance-moved
    (λ old new. OnFalse c.advance-moved.result (new ≡ old)) c.advance-moved.ensures.same)

pub returns-clause-moved : goal.returns-clause-moved
returns-clause-moved g c = rw (← c.self.view_is) c.moves_after-self-inside.ensures.moved

pub returns-clause-rested : goal.returns-clause-rested
returns-clause-rested g c = rw (← c.self.view_is) c.moves_after-self-inside.ensures.rested

-- what was listed are the nodes of the changes that were noted
pub returns-clause-listed : goal.returns-clause-listed
returns-clause-listed g c =
    let i = c.self.inside in
    let noted = nodes_noted (c.advance-moved.new.workspace.changes.items ++ c.advance-moved.new.noted.items) in
    rw (← c.self.view_is) (told_lists c.list.new.changed noted _ _
    (rw (c.deref-2.ensures.value, c.deref-3.ensures.value) at c.list.ensures.listed)
    (states_are g (goal.at.returns-clause-listed g c).After-advance-moved (ListsChanges noted) c.advance-moved.ensures.listed))
