-- A node is placed, and parts among these are marked.
use Rattle.std.proofs.Common.{◌≡◌, ◌<◌, List, None, length, refl, sym, ap, subst, ◌∙◌, arith}
use Rattle.std.specs.Prelude.{Contains, slice_index_or, slice_set, vec_capacity}
use Rattle.std.specs.Vec.{with_items}
use Rattle.std.proofs.lemmas.List.{with_items_is, get_or_default, length-set}
use Rattle.ternary.specs.declared.tern.Tern.{Tern}
use Rattle.machine_parts.specs.Readers.{readers_of}
use Rattle.machine_parts.proofs.MachineLemmas.{IsMachine-again, owner_inside}
use Rattle.wide_groups.specs.Moving.{PlacesIn}
use Rattle.wide_groups.specs.Awake.{IsListedIn, HoldsWide}
use Rattle.wide_groups.proofs.WideCases.{listed_in, holds_placed}
use Rattle.part_steps.specs.Workspaces.{rooms}
use Rattle.machine_laws.specs.Machines.{MachineData}
use Rattle.unit_step.specs.Among.{PlacesAmong}
use Rattle.unit_step.specs.LastTexts.{AreLastTexts}
use Rattle.unit_step.specs.contracts.machine.Machine.{the_view}
use Rattle.unit_step.proofs.AmongLemmas.{PlacesAmong-marked}
use Rattle.unit_step.proofs.machine.Machine.set_node_among.Goals.{After-index-owner, After-mark_among}
use Rattle.unit_step.proofs.machine.Machine.set_node_among.Goals as goal

-- the owner that was read is the node's
owner_read : (c : After-index-owner) → c.index-owner.result.now ≡ slice_index_or c.self.inside.body.owners.items c.args.node None
owner_read c =
    let i = c.self.inside in
    let inside : c.args.node < length i.body.state.items = omega (arith, c.requires.inside, ap (λ (m : MachineData). length m.state) c.self.view_is) in
    c.index-owner.ensures ∙ get_or_default i.body.owners.items c.args.node c.index-owner.result.now None (omega (arith, inside, c.self.invariant.0.own.counted))

pub place-requires-clause-listed : goal.place-requires-clause-listed
place-requires-clause-listed c =
    let i = c.self.inside in
    subst (λ (list : List Tern). IsListedIn list i.body.wide) (sym c.deref_mut.ensures.value)
    (listed_in i.body.parts.items i.body.state.items _ i.body.wide c.self.invariant.3)

pub mark_owner_among-requires-clause-inside : goal.mark_owner_among-requires-clause-inside
mark_owner_among-requires-clause-inside c =
    let i = c.self.inside in
    owner_inside i.body.parts.items i.body.agenda.marks (length i.body.state.items) i.body.owners.items c.self.invariant.0.own c.self.invariant.0.runs.counted c.args.node
    c.index-owner.result.now (owner_read (goal.at.mark_owner_among-requires-clause-inside c).After-index-owner)

pub mark_owner_among-requires-clause-counted : goal.mark_owner_among-requires-clause-counted
mark_owner_among-requires-clause-counted c =
    omega (arith, c.requires.counted, ap (λ (m : MachineData). length m.parts) c.self.view_is, c.self.invariant.0.runs.counted)

pub mark_among-requires-clause-inside : goal.mark_among-requires-clause-inside
mark_among-requires-clause-inside c = λ k there.
    let lists : c.of.result.now ≡ readers_of c.self.inside.body.readers c.args.node = c.of.ensures in
    let reads = c.self.invariant.0.runs.reads c.args.node k (subst (λ xs. Contains xs k) lists there) in
    omega (arith, reads.stands.inside, c.self.invariant.0.runs.counted, c.mark_owner_among.ensures.marks.count)

pub mark_among-requires-clause-counted : goal.mark_among-requires-clause-counted
mark_among-requires-clause-counted c =
    omega (
      arith,
      c.requires.counted,
      ap (λ (m : MachineData). length m.parts) c.self.view_is,
      c.self.invariant.0.runs.counted,
      c.mark_owner_among.ensures.marks.count,
    )

-- the states are as before, but for the node
state_is : (c : After-mark_among) →
    (with_items c.self.inside.body.state c.place.new.state).items ≡ slice_set c.self.inside.body.state.items c.args.node c.args.value
state_is c =
    let i = c.self.inside in
    with_items_is i.body.state c.place.new.state (omega (arith, c.place.auto.state, c.deref_mut.ensures.len))
    ∙ (c.place.ensures.state ∙ ap (λ list. slice_set list c.args.node c.args.value) c.deref_mut.ensures.value)

-- what the placed node stirred is touched
wide_placed : (c : After-mark_among) → PlacesIn c.args.node c.self.inside.body.wide c.place.new.wide c.self.inside.body.state.items
    (slice_set c.self.inside.body.state.items c.args.node c.args.value)
wide_placed c =
    let i = c.self.inside in
    subst (λ list. PlacesIn c.args.node i.body.wide c.place.new.wide list (slice_set list c.args.node c.args.value)) c.deref_mut.ensures.value
    (subst (PlacesIn c.args.node i.body.wide c.place.new.wide c.deref_mut.result.now) c.place.ensures.state c.place.ensures.places)

pub invariant_of-self : goal.invariant_of-self
invariant_of-self c =
    let i = c.self.inside in
    let at_end = (goal.at.invariant_of-self c).After-mark_among in
    let state = state_is at_end in
    let count = ap length state ∙ length-set i.body.state.items c.args.node c.args.value in (
      IsMachine-again i.body.parts.items i.body.agenda.marks c.mark_among.new.agenda.marks i.body.agenda.waiting c.mark_among.new.agenda.waiting
          (length i.body.state.items) _ i.body.readers i.body.owners.items i.body.uses.numbers i.body.held i.body.most (rooms i.body.workspace) (rooms i.body.workspace)
          (c.mark_among.ensures.marks.count ∙ c.mark_owner_among.ensures.marks.count) (c.mark_among.ensures.waiting ∙ c.mark_owner_among.ensures.waiting)
          count refl c.self.invariant.0,
      c.self.invariant.1,
      subst (λ n. AreLastTexts i.body.parts.items i.body.uses.numbers n (length i.body.uses.known) i.body.last_texts) (sym count) c.self.invariant.2,
      subst (λ states. HoldsWide i.body.parts.items states (vec_capacity i.body.noted) c.place.new.wide) (sym state)
          (holds_placed c.args.node i.body.parts.items i.body.state.items _ _ i.body.wide c.place.new.wide (wide_placed at_end)
          (length-set i.body.state.items c.args.node c.args.value) c.self.invariant.3),
      c.self.invariant.4,
    )

pub returns : goal.returns
returns c =
    let i = c.self.inside in
    let at_end = goal.at.returns c in
    let placed = PlacesAmong-marked c.args.node c.args.value c.args.among.now.inside (the_view i) i.body.agenda.waiting i.body.readers i.body.owners.items
    i.body.uses.numbers i.body.held i.body.most (rooms i.body.workspace) c.self.invariant.0 c.index-owner.result.now
    (owner_read at_end.After-index-owner)
    c.mark_owner_among.new.agenda.marks c.mark_among.new.agenda.marks c.mark_owner_among.ensures.marks c.of.result.now c.of.ensures c.mark_among.ensures.marks
    c.place.new.wide (wide_placed at_end.After-mark_among) in
    rw (← c.self.view_is)
    (subst (λ (state : List Tern). PlacesAmong c.args.node c.args.value c.args.among.now.inside (the_view i)
    (record (the_view i) { marks = c.mark_among.new.agenda.marks; state = state; wide = c.place.new.wide })) (sym (state_is at_end.After-mark_among)) placed)
