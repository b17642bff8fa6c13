-- The parts of the groups that are due, of which some lose their codes before the machine has them.
use Rattle.std.proofs.Common.{◌≡◌, ◌≤◌, List, None, length, sym, ap, subst, ◌∙◌, arith}
use Rattle.std.specs.Vec.{with_items}
use Rattle.std.proofs.lemmas.List.{length-map, with_items_is}
use Rattle.group_text.specs.Texts.{text_of_group}
use Rattle.kept_parts.proofs.GroupParts.{parts_of_groups}
use Rattle.machine_parts.specs.declared.part.MachinePart.{MachinePart}
use Rattle.machine_laws.specs.Machines.{MachineData}
use Rattle.machine_laws.specs.Finishing.{Loosens, LoosensHeld}
use Rattle.unit_step.specs.Waking.{AreMade, HaveCode}
use Rattle.unit_step.proofs.FinishingReadied.{AreMade-held, AreMade-loosened, held_have_code, parts_counted, has_nodes}
use Rattle.unit_step.proofs.machine.Machine.risen.Goals.{In_ok-parts}
use Rattle.unit_step.proofs.machine.Machine.risen.Goals as goal

pub parts_with_reads-requires : goal.parts_with_reads-requires
parts_with_reads-requires c =
    let g = c.args.graph.now in
    let m = c.args.self.now in
    let waking = c.requires.waking in
    let parts = c.in_ok-parts_of.field-0.items in
    let of = parts_of_groups g waking.some _ _ parts (c.deref.ensures.value ∙ waking.texts) waking.maps c.in_ok-parts_of.ensures in
    parts_counted g c.graphs_are_wired.ensures waking.groups waking.some c.args.waking.slots.items m.parts m.uses waking.are waking.waiting parts
    c.args.waking.reads.items of waking.reads

-- the parts of the groups that wait
parts_made : (c : In_ok-parts) → AreMade c.args.graph.now c.requires.waking.some c.args.waking.slots.items c.args.self.now.parts c.in_ok-parts.parts.items
    (length c.args.self.now.state)
parts_made c =
    let g = c.args.graph.now in
    let m = c.args.self.now in
    let waking = c.requires.waking in
    let parts = c.in_ok-parts_of.field-0.items in
    let of = parts_of_groups g waking.some _ _ parts (c.deref.ensures.value ∙ waking.texts) waking.maps c.in_ok-parts_of.ensures in
    AreMade-held g c.graphs_are_wired.ensures waking.groups waking.some c.args.waking.slots.items m.parts m.uses waking.are waking.waiting parts
    c.args.waking.reads.items c.in_ok-parts.parts.items (length m.state) of waking.reads c.in_ok-parts.ensures c.requires.covers.counted

-- there are as many texts as slots
texts_long : (c : In_ok-parts) → length c.args.waking.texts.items ≡ length c.args.waking.slots.items
texts_long c = ap length c.requires.waking.texts ∙ length-map c.requires.waking.some (text_of_group c.args.graph.now) ∙ (parts_made c).long

pub long_texts-requires : goal.long_texts-requires
long_texts-requires c =
    let at = (goal.at.long_texts-requires c).In_ok-parts in
    let made = parts_made at in
    let counted : length c.args.self.now.parts ≤ length c.self.inside.body.uses.numbers =
    subst (λ (m : MachineData). length m.parts ≤ length c.self.inside.body.uses.numbers) c.self.view_is c.self.invariant.0.numbered in
    rw (c.deref-2.ensures.value, c.deref-3.ensures.value, c.deref-4.ensures.value) (record {
      slots = sym made.counted;
      texts = texts_long at ∙ sym made.counted;
      inside = λ i d inside. omega (arith, made.inside i d inside, counted);
    })

pub loosen_unless_all-requires : goal.loosen_unless_all-requires
loosen_unless_all-requires c =
    let at = (goal.at.loosen_unless_all-requires c).In_ok-parts in
    let made = parts_made at in
    rw (c.deref-5.ensures.value, c.deref_mut.ensures.value) (record {
      texts = texts_long at ∙ sym made.counted;
      some = has_nodes c.args.graph.now c.requires.waking.some c.in_ok-parts.parts.items made.fresh_are;
    })

pub coded_of-requires : goal.coded_of-requires
coded_of-requires c =
    let made = parts_made (goal.at.coded_of-requires c).In_ok-parts in
    let now = c.loosen_unless_all.new.parts in
    let final = with_items_is c.in_ok-parts.parts now (omega (arith, c.loosen_unless_all.auto.parts, c.deref_mut.ensures.len)) in
    let slots : length c.deref-6.result.now ≡ length c.args.waking.slots.items = ap length c.deref-6.ensures.value in
    let parts : length c.deref-7.result.now ≡ length now = ap length (c.deref-7.ensures.value ∙ final) in
    omega (arith, slots, parts, c.loosen_unless_all.auto.parts, c.deref_mut.ensures.len, made.counted)

pub returns-clause-risen : goal.returns-clause-risen
returns-clause-risen c =
    let waking = c.requires.waking in
    let made = parts_made (goal.at.returns-clause-risen c).In_ok-parts in
    let g = c.args.graph.now in
    let m = c.args.self.now in
    let old = c.in_ok-parts.parts.items in
    let now = c.loosen_unless_all.new.parts in
    let final = with_items_is c.in_ok-parts.parts now (omega (arith, c.loosen_unless_all.auto.parts, c.deref_mut.ensures.len)) in
    let parts : List MachinePart = (with_items c.in_ok-parts.parts now).items in
    let loosens : Loosens old parts =
    subst (Loosens old) (sym final) (subst (λ list. Loosens list now) c.deref_mut.ensures.value c.loosen_unless_all.ensures.loosens) in
    let wide = ap (λ (one : MachineData). one.wide) c.self.view_is in
    record {
      of = waking.of;
      made = subst (AreMade g waking.some c.args.waking.slots.items m.parts parts) c.requires.covers.counted
          (AreMade-loosened g waking.some c.args.waking.slots.items m.parts old parts (length m.state) loosens made);
      coded = rw (c.deref-6.ensures.value, c.deref-7.ensures.value) at c.in_ok-coded.ensures;
      free = subst (λ known. LoosensHeld known parts) wide (subst (LoosensHeld c.self.inside.body.wide) (sym final) c.loosen_unless_all.ensures.held);
    }

-- where all are to have their codes and no group is stepped by vicinities, all keep theirs
pub returns-clause-all : goal.returns-clause-all
returns-clause-all c = λ all without.
    let now = c.loosen_unless_all.new.parts in
    let final = with_items_is c.in_ok-parts.parts now (omega (arith, c.loosen_unless_all.auto.parts, c.deref_mut.ensures.len)) in
    let none : c.self.inside.body.wide ≡ None = ap (λ (one : MachineData). one.wide) c.self.view_is ∙ without in
    let same : (with_items c.in_ok-parts.parts now).items ≡ c.in_ok-parts.parts.items =
    final ∙ c.loosen_unless_all.ensures.all all none ∙ c.deref_mut.ensures.value in
    subst HaveCode (sym same) (held_have_code c.in_ok-parts_of.field-0.items c.args.waking.reads.items c.in_ok-parts.parts.items c.in_ok-parts.ensures)
