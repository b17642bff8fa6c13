-- One entry more is listed.
use Rattle.std.proofs.Common.{◌≡◌, ◌+◌, ◌<◌, ℕ, List, All, length, sym, ap, ◌∙◌, subst, arith}
use Rattle.std.specs.Prelude.{slice_index_or}
use Rattle.std.proofs.lemmas.List.{get_or-map, length-map, with_items_is}
use Rattle.wave_dump.specs.Entries.{ShownEntry, entries_of, no_entry, IsInside, ListsEntry}
use Rattle.wave_dump.specs.Scenes.{EntryData}
use Rattle.wave_dump.proofs.EntryLemmas.{ListedBelow, below-none, below-more, below-all}
use Rattle.wave_dump.proofs.entries.lists_of.Goals as goal

pub loop-number-init : goal.loop-number-init
loop-number-init c = below-none (entries_of c.args.entries.now) c.args.count c.in_ok-lists.lists.items c.in_ok-lists.ensures

pub list_entry-requires : goal.list_entry-requires
list_entry-requires c = λ place d inside.
    let held = c.index-entries-number.result in
    let entry : slice_index_or (entries_of c.args.entries.now) c.loop-number.number no_entry ≡ held.entry =
    get_or-map (λ (one : ShownEntry). one.entry) c.args.entries.now c.loop-number.number held no_entry c.loop-number-test.true
    ∙ ap (λ (one : ShownEntry). one.entry) (sym c.index-entries-number.is) in
    let within : c.loop-number.number < length (entries_of c.args.entries.now) =
    omega (arith, c.loop-number-test.true, length-map c.args.entries.now (λ (one : ShownEntry). one.entry)) in
    let below = subst (IsInside c.args.count) entry (c.requires c.loop-number.number no_entry within) in
    let there = subst (λ (nodes : List ℕ). All (λ node. node < c.args.count) nodes) (sym c.nodes.ensures) below in
    omega (arith, there place d inside, c.loop-number.invariant.all, ap length c.deref_mut.ensures.value)

pub loop-number-preserved : goal.loop-number-preserved
loop-number-preserved c =
    let held = c.index-entries-number.result in
    let entry : slice_index_or (entries_of c.args.entries.now) c.loop-number.number no_entry ≡ held.entry =
    get_or-map (λ (one : ShownEntry). one.entry) c.args.entries.now c.loop-number.number held no_entry c.loop-number-test.true
    ∙ ap (λ (one : ShownEntry). one.entry) (sym c.index-entries-number.is) in
    let final = with_items_is c.loop-number.lists c.list_entry.new.lists (omega (arith, c.list_entry.auto.lists, c.deref_mut.ensures.len)) in
    let listed : ListsEntry c.nodes.result.now c.loop-number.number c.loop-number.lists.items c.list_entry.new.lists =
    subst (λ old. ListsEntry c.nodes.result.now c.loop-number.number old c.list_entry.new.lists) c.deref_mut.ensures.value c.in_ok-list_entry.ensures in
    subst (ListedBelow (entries_of c.args.entries.now) c.args.count (c.loop-number.number + 1)) (sym final)
    (below-more (entries_of c.args.entries.now) c.args.count c.loop-number.number c.loop-number.lists.items c.list_entry.new.lists c.nodes.result.now
    (c.nodes.ensures ∙ ap (λ (entry : EntryData). entry.nodes) (sym entry)) listed c.loop-number.invariant)

pub returns : goal.returns
returns c =
    below-all (entries_of c.args.entries.now) c.args.count c.loop-number.number c.loop-number.lists.items
    (omega (arith, c.loop-number-test.false, length-map c.args.entries.now (λ (one : ShownEntry). one.entry))) c.loop-number.invariant
