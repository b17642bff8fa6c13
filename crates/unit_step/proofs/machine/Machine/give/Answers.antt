-- The node has the state already, or is placed where all parts are marked.
use Rattle.std.proofs.Common.{◌≡◌, ◌<◌, List, length, refl, sym, ap, subst, ◌∙◌, arith}
use Rattle.std.specs.Prelude.{slice_set, vec_capacity}
use Rattle.std.specs.Vec.{with_items}
use Rattle.std.proofs.lemmas.Bool.{OnTrue_at}
use Rattle.std.proofs.lemmas.List.{with_items_is, length-set}
use Rattle.ternary.specs.declared.tern.Tern.{Tern}
use Rattle.switch_paths.specs.Switching.{state_at}
use Rattle.machine_laws.specs.Machines.{MachineData, Places}
use Rattle.machine_laws.proofs.PlacingLemmas.{placing_keeps_cover, placing_keeps_fit}
use Rattle.machine_parts.proofs.MachineLemmas.{IsMachine-again}
use Rattle.part_steps.specs.Workspaces.{rooms}
use Rattle.wide_groups.specs.Moving.{PlacesIn}
use Rattle.wide_groups.specs.Awake.{IsListedIn, HoldsWide}
use Rattle.wide_groups.proofs.WideCases.{listed_in, holds_placed}
use Rattle.unit_step.specs.contracts.machine.Machine.{the_view}
use Rattle.unit_step.specs.LastTexts.{AreLastTexts}
use Rattle.unit_step.specs.Restarting.{AllMarked}
use Rattle.unit_step.proofs.RestartingLemmas.{GivesNode-same, GivesNode-placed, placed_unmarked}
use Rattle.unit_step.proofs.machine.Machine.give.Goals.{After-place}
use Rattle.unit_step.proofs.machine.Machine.give.Goals as goal

pub has_state-requires : goal.has_state-requires
has_state-requires c = subst (λ states. c.args.node < length states) (sym c.state.ensures) c.requires.inside

pub returns-then-has_state-clause-gives : goal.returns-then-has_state-clause-gives
returns-then-has_state-clause-gives c =
    GivesNode-same c.args.graph.now c.args.node c.args.value c.args.self.now
    (subst (λ states. state_at states c.args.node ≡ c.args.value) c.state.ensures (OnTrue_at c.if-has_state.true c.has_state.ensures))

-- the states are as before, but for the node
state_is : (c : After-place) →
    (with_items c.self.inside.body.state c.place.new.state).items ≡ slice_set c.self.inside.body.state.items c.args.node c.args.value
state_is c =
    let i = c.self.inside in
    with_items_is i.body.state c.place.new.state (omega (arith, c.place.auto.state, c.deref_mut.ensures.len))
    ∙ (c.place.ensures.state ∙ ap (λ list. slice_set list c.args.node c.args.value) c.deref_mut.ensures.value)

-- what the placed node stirred is touched
wide_placed : (c : After-place) → PlacesIn c.args.node c.self.inside.body.wide c.place.new.wide c.self.inside.body.state.items
    (slice_set c.self.inside.body.state.items c.args.node c.args.value)
wide_placed c =
    let i = c.self.inside in
    subst (λ list. PlacesIn c.args.node i.body.wide c.place.new.wide list (slice_set list c.args.node c.args.value)) c.deref_mut.ensures.value
    (subst (PlacesIn c.args.node i.body.wide c.place.new.wide c.deref_mut.result.now) c.place.ensures.state c.place.ensures.places)

pub place-requires-clause-listed : goal.place-requires-clause-listed
place-requires-clause-listed c =
    let i = c.self.inside in
    subst (λ (list : List Tern). IsListedIn list i.body.wide) (sym c.deref_mut.ensures.value)
    (listed_in i.body.parts.items i.body.state.items _ i.body.wide c.self.invariant.3)

-- the node is placed
places : (c : After-place) → Places c.args.node c.args.value (the_view c.self.inside)
    (record (the_view c.self.inside) { state = (with_items c.self.inside.body.state c.place.new.state).items; wide = c.place.new.wide })
places c =
    let i = c.self.inside in
    subst (λ (state : List Tern). Places c.args.node c.args.value (the_view i) (record (the_view i) { state = state; wide = c.place.new.wide })) (sym (state_is c))
    (placed_unmarked c.args.node c.args.value (the_view i) c.place.new.wide (subst AllMarked (sym c.self.view_is) c.requires.marked) (wide_placed c))

pub invariant_of-self : goal.invariant_of-self
invariant_of-self c =
    let i = c.self.inside in
    let at_end = (goal.at.invariant_of-self c).After-place in
    let state = state_is at_end in
    let count = ap length state ∙ length-set i.body.state.items c.args.node c.args.value in (
      IsMachine-again i.body.parts.items i.body.agenda.marks i.body.agenda.marks i.body.agenda.waiting i.body.agenda.waiting
          (length i.body.state.items) _ i.body.readers i.body.owners.items i.body.uses.numbers i.body.held i.body.most (rooms i.body.workspace) (rooms i.body.workspace)
          refl refl count refl c.self.invariant.0,
      c.self.invariant.1,
      subst (λ n. AreLastTexts i.body.parts.items i.body.uses.numbers n (length i.body.uses.known) i.body.last_texts) (sym count) c.self.invariant.2,
      subst (λ states. HoldsWide i.body.parts.items states (vec_capacity i.body.noted) c.place.new.wide) (sym state)
          (holds_placed c.args.node i.body.parts.items i.body.state.items _ _ i.body.wide c.place.new.wide (wide_placed at_end)
          (length-set i.body.state.items c.args.node c.args.value) c.self.invariant.3),
      c.self.invariant.4,
    )

pub returns-clause-gives : goal.returns-clause-gives
returns-clause-gives c =
    let placed = places (goal.at.returns-clause-gives c).After-place in
    let graph = c.args.graph.now in
    let inside : c.args.node < length c.self.inside.body.state.items =
    omega (arith, c.requires.inside, ap (λ (m : MachineData). length m.state) c.self.view_is) in
    rw (← c.self.view_is)
    (GivesNode-placed graph c.args.node c.args.value (the_view c.self.inside) _ inside
    (λ covers. placing_keeps_cover graph c.args.node c.args.value (the_view c.self.inside) _ c.graphs_are_wired.ensures covers placed)
    (λ fits. placing_keeps_fit graph c.args.node c.args.value (the_view c.self.inside) _ c.graphs_are_wired.ensures c.requires.no_rail fits placed) placed)

pub returns-clause-marks : goal.returns-clause-marks
returns-clause-marks c = rw (← c.self.view_is) refl
