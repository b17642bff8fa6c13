-- A node is placed.
use Rattle.std.proofs.Common.{◌≡◌, ◌<◌, ℕ, List, None, length, refl, sym, ap, subst, ◌∙◌, arith}
use Rattle.std.specs.Prelude.{Contains, slice_index_or, slice_set, vec_capacity}
use Rattle.std.specs.Vec.{with_items}
use Rattle.std.proofs.lemmas.List.{with_items_is, get_or_default, length-set}
use Rattle.ternary.specs.declared.tern.Tern.{Tern}
use Rattle.ternary.specs.Counts.{raised}
use Rattle.unit_step.specs.contracts.machine.Machine.{the_view}
use Rattle.machine_laws.specs.Machines.{MachineData, Places}
use Rattle.wide_groups.specs.Moving.{PlacesIn}
use Rattle.wide_groups.specs.Awake.{IsListedIn, HoldsWide}
use Rattle.wide_groups.proofs.WideCases.{listed_in, holds_placed}
use Rattle.part_steps.specs.Workspaces.{rooms}
use Rattle.machine_parts.specs.Readers.{readers_of}
use Rattle.unit_step.specs.LastTexts.{AreLastTexts}
use Rattle.machine_laws.proofs.PlacingLemmas.{placing_keeps_cover, placing_keeps_fit, Places-marked}
use Rattle.machine_parts.proofs.MachineLemmas.{IsMachine-again, owner_inside, at_owner, at_no_owner}
use Rattle.unit_step.proofs.machine.Machine.set_node.Goals.{After-index-owner, After-mark_all}
use Rattle.unit_step.proofs.machine.Machine.set_node.Goals as goal

-- the owner that was read is the node's
owner_read : (c : After-index-owner) → c.index-owner.result.now ≡ slice_index_or c.self.inside.body.owners.items c.args.node None
owner_read c =
    let i = c.self.inside in
    let inside : c.args.node < length i.body.state.items = omega (arith, c.requires.inside, ap (λ (m : MachineData). length m.state) c.self.view_is) in
    c.index-owner.ensures ∙ get_or_default i.body.owners.items c.args.node c.index-owner.result.now None (omega (arith, inside, c.self.invariant.0.own.counted))

pub mark_owner-requires : goal.mark_owner-requires
mark_owner-requires c =
    let i = c.self.inside in
    owner_inside i.body.parts.items i.body.agenda.marks (length i.body.state.items) i.body.owners.items c.self.invariant.0.own c.self.invariant.0.runs.counted c.args.node
    c.index-owner.result.now (owner_read (goal.at.mark_owner-requires c).After-index-owner)

pub mark_all-requires : goal.mark_all-requires
mark_all-requires c = λ k there.
    let lists : c.of.result.now ≡ readers_of c.self.inside.body.readers c.args.node = c.of.ensures in
    let reads = c.self.invariant.0.runs.reads c.args.node k (subst (λ xs. Contains xs k) lists there) in
    omega (arith, reads.stands.inside, c.self.invariant.0.runs.counted, c.mark_owner.ensures.marks.count)

-- the states are as before, but for the node
state_is : (c : After-mark_all) →
    (with_items c.self.inside.body.state c.place.new.state).items ≡ slice_set c.self.inside.body.state.items c.args.node c.args.value
state_is c =
    let i = c.self.inside in
    with_items_is i.body.state c.place.new.state (omega (arith, c.place.auto.state, c.deref_mut.ensures.len))
    ∙ (c.place.ensures.state ∙ ap (λ list. slice_set list c.args.node c.args.value) c.deref_mut.ensures.value)

-- what the placed node stirred is touched
wide_placed : (c : After-mark_all) → PlacesIn c.args.node c.self.inside.body.wide c.place.new.wide c.self.inside.body.state.items
    (slice_set c.self.inside.body.state.items c.args.node c.args.value)
wide_placed c =
    let i = c.self.inside in
    subst (λ list. PlacesIn c.args.node i.body.wide c.place.new.wide list (slice_set list c.args.node c.args.value)) c.deref_mut.ensures.value
    (subst (PlacesIn c.args.node i.body.wide c.place.new.wide c.deref_mut.result.now) c.place.ensures.state c.place.ensures.places)

pub place-requires-clause-listed : goal.place-requires-clause-listed
place-requires-clause-listed c =
    let i = c.self.inside in
    subst (λ (list : List Tern). IsListedIn list i.body.wide) (sym c.deref_mut.ensures.value)
    (listed_in i.body.parts.items i.body.state.items _ i.body.wide c.self.invariant.3)

-- the node is placed, whatever the count of placed members
places : (c : After-mark_all) → c.index-owner.result.now ≡ slice_index_or c.self.inside.body.owners.items c.args.node None → (placed : ℕ) →
    Places c.args.node c.args.value (the_view c.self.inside)
    (record (the_view c.self.inside) {
      marks = c.mark_all.new.agenda.marks;
      state = (with_items c.self.inside.body.state c.place.new.state).items;
      placed = placed;
      wide = c.place.new.wide;
    })
places c owner_is placed =
    let i = c.self.inside in
    subst (λ (state : List Tern). Places c.args.node c.args.value (the_view i)
    (record (the_view i) { marks = c.mark_all.new.agenda.marks; state = state; placed = placed; wide = c.place.new.wide })) (sym (state_is c))
    (Places-marked c.args.node c.args.value (the_view i) i.body.agenda.waiting i.body.readers i.body.owners.items i.body.uses.numbers i.body.held i.body.most (rooms i.body.workspace)
    c.self.invariant.0 c.index-owner.result.now owner_is c.mark_owner.new.agenda.marks c.mark_all.new.agenda.marks c.mark_owner.ensures.marks
    c.of.result.now c.of.ensures c.mark_all.ensures.marks placed c.place.new.wide (wide_placed c))

pub invariant_of-self : goal.invariant_of-self
invariant_of-self c =
    let i = c.self.inside in
    let at_end = (goal.at.invariant_of-self c).After-mark_all in
    let state = state_is at_end in
    let count = ap length state ∙ length-set i.body.state.items c.args.node c.args.value in (
      IsMachine-again i.body.parts.items i.body.agenda.marks c.mark_all.new.agenda.marks i.body.agenda.waiting c.mark_all.new.agenda.waiting
          (length i.body.state.items) _ i.body.readers i.body.owners.items i.body.uses.numbers i.body.held i.body.most (rooms i.body.workspace) (rooms i.body.workspace)
          (c.mark_all.ensures.marks.count ∙ c.mark_owner.ensures.marks.count) (c.mark_all.ensures.waiting ∙ c.mark_owner.ensures.waiting)
          count refl c.self.invariant.0,
      c.self.invariant.1,
      subst (λ n. AreLastTexts i.body.parts.items i.body.uses.numbers n (length i.body.uses.known) i.body.last_texts) (sym count) c.self.invariant.2,
      subst (λ states. HoldsWide i.body.parts.items states (vec_capacity i.body.noted) c.place.new.wide) (sym state)
          (holds_placed c.args.node i.body.parts.items i.body.state.items _ _ i.body.wide c.place.new.wide (wide_placed at_end)
          (length-set i.body.state.items c.args.node c.args.value) c.self.invariant.3),
      c.self.invariant.4,
    )

pub returns-clause-places : goal.returns-clause-places
returns-clause-places c =
    let at_end = goal.at.returns-clause-places c in
    rw (← c.self.view_is) (places at_end.After-mark_all (owner_read at_end.After-index-owner) c.placed_after-self-inside.result)

pub returns-clause-covers : goal.returns-clause-covers
returns-clause-covers c =
    let at_end = goal.at.returns-clause-covers c in
    let placed = places at_end.After-mark_all (owner_read at_end.After-index-owner) c.placed_after-self-inside.result in
    rw (← c.self.view_is)
    (λ covers. placing_keeps_cover c.args.graph.now c.args.node c.args.value (the_view c.self.inside) _ c.graphs_are_wired.ensures covers placed)

pub returns-clause-fits : goal.returns-clause-fits
returns-clause-fits c =
    let at_end = goal.at.returns-clause-fits c in
    let placed = places at_end.After-mark_all (owner_read at_end.After-index-owner) c.placed_after-self-inside.result in
    rw (← c.self.view_is)
    (λ fits. placing_keeps_fit c.args.graph.now c.args.node c.args.value (the_view c.self.inside) _ c.graphs_are_wired.ensures c.requires.no_rail fits placed)

pub returns-clause-member : goal.returns-clause-member
returns-clause-member c =
    let i = c.self.inside in
    let owner_is = owner_read (goal.at.returns-clause-member c).After-index-owner in
    rw (← c.self.view_is) (λ k has.
    at_owner (c.placed_after-self-inside.result ≡ raised i.placed 1) c.index-owner.result.now k
    (owner_is ∙ c.self.invariant.0.own.owner c.args.node k has) c.placed_after-self-inside.ensures.some)

pub returns-clause-no_member : goal.returns-clause-no_member
returns-clause-no_member c =
    let i = c.self.inside in
    let owner_is = owner_read (goal.at.returns-clause-no_member c).After-index-owner in
    rw (← c.self.view_is) (λ none.
    at_no_owner (c.placed_after-self-inside.result ≡ i.placed) c.index-owner.result.now
    (λ k is. none k (c.self.invariant.0.own.member c.args.node k (sym owner_is ∙ is))) c.placed_after-self-inside.ensures.none)
