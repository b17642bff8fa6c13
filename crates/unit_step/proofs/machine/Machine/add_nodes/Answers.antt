-- The new nodes have no owner and no readers.
use Rattle.std.proofs.Common.{◌≡◌, ◌+◌, ◌-◌, ◌≤◌, ◌++◌, ℕ, List, None, Option, length, refl, sym, ap, subst, ◌∙◌, arith}
use Rattle.std.specs.Prelude.{IfSome, replicate, slice_index_or, vec_capacity}
use Rattle.std.proofs.lemmas.List.{length-append, length-replicate}
use Rattle.ternary.specs.declared.tern.Tern.TheVariants.{Unk}
use Rattle.part_steps.specs.Workspaces.{rooms}
use Rattle.machine_parts.proofs.EditingLemmas.{none_more, IsMachine-grown}
use Rattle.unit_step.proofs.LastTextsEdits.{AreLastTexts-same, AreLastTexts-grown, texts_numbered-grown}
use Rattle.switch_paths.specs.Graphs.{nodes as nodes_of}
use Rattle.wide_groups.specs.Moving.{graph_in}
use Rattle.wide_groups.specs.Awake.{HoldsWide}
use Rattle.wide_groups.specs.Staying.{GrowsIn}
use Rattle.wide_groups.proofs.WideCases.{none_holds}
use Rattle.wide_groups.proofs.StayingLemmas.{few_nodes, holds_grown}
use Rattle.machine_laws.specs.Machines.{MachineData}
use Rattle.unit_step.proofs.machine.Machine.add_nodes.Goals as goal

-- before the states grow the groups that are stepped by vicinities do, or aren't known any more
pub widened-requires : goal.widened-requires
widened-requires c =
    let i = c.self.inside in
    let few = few_nodes i.body.parts.items i.body.state.items (vec_capacity i.body.noted) i.body.wide c.self.invariant.3 in
    subst (λ wide. nodes_of (graph_in wide) ≤ c.args.nodes) (sym c.replace-known.ensures.value)
    (omega (arith, few, c.requires.more, ap (λ (m : MachineData). length m.state) c.self.view_is))

pub invariant_of-self : goal.invariant_of-self
invariant_of-self c =
    (c.self.invariant.0, c.self.invariant.1, c.self.invariant.2, none_holds _ _ _ _ c.replace-known.ensures.after, c.self.invariant.4)

pub invariant_of-self-in_err-reserve : goal.invariant_of-self-in_err-reserve
invariant_of-self-in_err-reserve c =
    rw c.reserve.ensures.items (c.self.invariant.0, c.self.invariant.1, c.self.invariant.2, none_holds _ _ _ _ c.replace-known.ensures.after, c.self.invariant.4)

pub invariant_of-self-in_err-reserve-2 : goal.invariant_of-self-in_err-reserve-2
invariant_of-self-in_err-reserve-2 c =
    let i = c.self.inside in
    rw c.reserve.ensures.items (
      c.self.invariant.0,
      c.self.invariant.1,
      AreLastTexts-same i.body.parts.items i.body.uses.numbers (length i.body.state.items) (length i.body.uses.known) i.body.last_texts c.self.invariant.2 i.body.uses.numbers _
          (λ k. refl) c.reserve-2.ensures.items refl,
      none_holds _ _ _ _ c.replace-known.ensures.after,
      c.self.invariant.4,
    )

pub invariant_of-self-in_err-grow : goal.invariant_of-self-in_err-grow
invariant_of-self-in_err-grow c =
    let i = c.self.inside in
    rw (c.reserve.ensures.items, c.in_err-grow.ensures.err) (
      c.self.invariant.0,
      c.self.invariant.1,
      AreLastTexts-same i.body.parts.items i.body.uses.numbers (length i.body.state.items) (length i.body.uses.known) i.body.last_texts c.self.invariant.2 i.body.uses.numbers _
          (λ k. refl) c.reserve-2.ensures.items refl,
      none_holds _ _ _ _ c.replace-known.ensures.after,
      c.self.invariant.4,
    )

pub invariant_of-self-2 : goal.invariant_of-self-2
invariant_of-self-2 c =
    let i = c.self.inside in
    let nodes = c.args.nodes in
    let count = length i.body.state.items in
    let own = c.self.invariant.0.own.counted in
    let read = c.self.invariant.0.runs.readers_counted in
    let states : length c.grow-2.new.state.items ≡ count + (nodes - count) =
    ap length c.grow-2.ensures.state ∙ (length-append i.body.state.items (replicate (nodes - count) Unk) ∙ ap (λ n. count + n) (length-replicate (nodes - count) Unk)) in
    let before : c.reserve.new.self.items ≡ i.body.owners.items = c.reserve.ensures.items in
    let owners_are : c.grow_by.new.all.items ≡ i.body.owners.items ++ replicate (nodes - count) None =
    c.grow_by.ensures.items ∙ ap (λ (list : List (Option ℕ)). list ++ replicate (nodes - length list) None) before
    ∙ ap (λ n. i.body.owners.items ++ replicate (nodes - n) None) own in
    let owners_count : length c.grow_by.new.all.items ≡ length c.grow-2.new.state.items =
    ap length owners_are ∙ (length-append i.body.owners.items (replicate (nodes - count) None)
    ∙ omega (arith, length-replicate {A = Option ℕ} (nodes - count) None, own, states)) in
    let last_texts_are : c.grow_by-2.new.all.items ≡ i.body.last_texts.numbers.items ++ replicate (nodes - count) None =
    c.grow_by-2.ensures.items ∙ ap (λ (list : List (Option ℕ)). list ++ replicate (nodes - length list) None) c.reserve-2.ensures.items
    ∙ ap (λ n. i.body.last_texts.numbers.items ++ replicate (nodes - n) None) c.self.invariant.2.counted in
    let last_texts_count : length c.grow_by-2.new.all.items ≡ length c.grow-2.new.state.items =
    ap length last_texts_are ∙ (length-append i.body.last_texts.numbers.items (replicate (nodes - count) None)
    ∙ omega (arith, length-replicate {A = Option ℕ} (nodes - count) None, c.self.invariant.2.counted, states)) in
    let few : count ≤ nodes = omega (arith, c.requires.more, ap (λ (m : MachineData). length m.state) c.self.view_is) in
    let all_nodes : length (i.body.state.items ++ replicate (nodes - count) Unk) ≡ nodes =
    omega (arith, length-append i.body.state.items (replicate (nodes - count) Unk), length-replicate (nodes - count) Unk, few) in
    let lists_count : length c.grow.new.self ≡ length c.grow-2.new.state.items =
    omega (arith, c.in_ok-grow.ensures.count, read, states) in (
      IsMachine-grown i.body.parts.items i.body.agenda.marks i.body.agenda.waiting count (length c.grow-2.new.state.items) i.body.readers c.grow.new.self
          i.body.owners.items c.grow_by.new.all.items i.body.uses.numbers i.body.held i.body.most (rooms i.body.workspace) c.self.invariant.0 (omega (arith, states)) lists_count
          c.grow.ensures.same owners_count
          (λ node. ap (λ list. slice_index_or list node None) owners_are ∙ none_more i.body.owners.items (nodes - count) node),
      c.self.invariant.1,
      AreLastTexts-grown i.body.parts.items i.body.uses.numbers count (length i.body.uses.known) i.body.last_texts c.self.invariant.2 (length c.grow-2.new.state.items) _
          (omega (arith, states)) last_texts_count
          (λ node. ap (λ list. slice_index_or list node None) last_texts_are ∙ none_more i.body.last_texts.numbers.items (nodes - count) node) refl,
      subst (λ state. HoldsWide i.body.parts.items state (vec_capacity c.widened.new.noted) c.in_ok-wide.wide) (sym c.grow-2.ensures.state)
          (holds_grown i.body.parts.items i.body.state.items (replicate (nodes - count) Unk) nodes (vec_capacity i.body.noted) (vec_capacity c.widened.new.noted)
          i.body.wide c.in_ok-wide.wide (subst (λ wide. GrowsIn nodes wide c.in_ok-wide.wide) c.replace-known.ensures.value c.in_ok-wide.ensures.grows)
          (length-replicate (nodes - count) Unk)
          (subst (λ n. IfSome c.in_ok-wide.wide (λ _. n ≤ vec_capacity c.widened.new.noted)) (sym all_nodes) c.in_ok-wide.ensures.room) c.self.invariant.3),
      tt,
    )

pub returns-clause-ok : goal.returns-clause-ok
returns-clause-ok c =
    let i = c.self.inside in
    let nodes = c.args.nodes in
    let count = length i.body.state.items in
    let last_texts_are : c.grow_by-2.new.all.items ≡ i.body.last_texts.numbers.items
    ++ replicate (nodes - length i.body.last_texts.numbers.items) None =
    c.grow_by-2.ensures.items ∙ ap (λ (list : List (Option ℕ)). list ++ replicate (nodes - length list) None) c.reserve-2.ensures.items in
    rw (← c.self.view_is, c.grow-2.ensures.state)
    (rw (
      last_texts_are,
      texts_numbered-grown i.body.uses.known i.body.last_texts.numbers.items
          (nodes - length i.body.last_texts.numbers.items),
    ) refl)

pub returns-clause-wide : goal.returns-clause-wide
returns-clause-wide c =
    subst (λ wide. GrowsIn c.args.nodes wide c.in_ok-wide.wide) (c.replace-known.ensures.value ∙ ap (λ (m : MachineData). m.wide) c.self.view_is)
    c.in_ok-wide.ensures.grows
