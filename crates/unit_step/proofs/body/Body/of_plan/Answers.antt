-- The parts are those of the graph's groups, all marked, so the machine that starts is ready.
use Rattle.std.proofs.Common.{◌≡◌, ℕ, ◌<◌, ◌++◌, List, All, None, Some, length, map, replicate, refl, sym, ap, subst, ◌∙◌, arith}
use Rattle.std.specs.Prelude.{zip}
use Rattle.std.specs.List.{AllZip}
use Rattle.std.specs.Vec.{with_items}
use Rattle.std.proofs.lemmas.List.{length-map, with_items_is}
use Rattle.std.proofs.lemmas.Slice.Zip.{AllZip-long}
use Rattle.switch_paths.specs.Graphs.{nodes}
use Rattle.group_meaning.specs.Groups.{id_of}
use Rattle.channel_groups.specs.declared.group.GroupId.{GroupId}
use Rattle.channel_groups.specs.Grouping.{IsId}
use Rattle.group_text.specs.Texts.{GroupTextData, local_nodes}
use Rattle.circuit_texts.specs.Parts.{IsPartOf}
use Rattle.circuit_texts.specs.Choosing.{chosen}
use Rattle.circuit_texts.specs.Reading.{AreReads}
use Rattle.circuit_texts.proofs.ChosenLemmas.{chosen-ids}
use Rattle.circuit_texts.specs.Told.{told, with_text, without_text}
use Rattle.kept_parts.specs.Uses.{texts_used}
use Rattle.kept_parts.proofs.GroupParts.{parts_of_groups}
use Rattle.machine_parts.specs.Making.{held, IsFormed}
use Rattle.machine_parts.specs.Parts.{AreApart}
use Rattle.part_steps.specs.Dense.{HaveCodes}
use Rattle.machine_parts.specs.declared.part.MachinePart.{MachinePart}
use Rattle.machine_laws.specs.Fitting.{AreUntold}
use Rattle.machine_laws.specs.Finishing.{Loosens}
use Rattle.machine_laws.specs.Holding.{IsReady}
use Rattle.machine_laws.specs.Seating.{IsStalePartOf}
use Rattle.unit_step.specs.Bodies.{started}
use Rattle.unit_step.proofs.BuildLemmas.{numbers_counted, all_numbered}
use Rattle.unit_step.proofs.BodyLemmas.{codes_counted, formed_planned, apart_planned, reads_planned, coded_planned, numbered_planned, some_planned, untold_planned, IsReady-planned, IsReady-of_body, HasLast-of_body, AreUntold-of_body}
use Rattle.unit_step.proofs.body.Body.of_plan.Goals.{In_ok-parts, In_ok-add_stale}
use Rattle.unit_step.proofs.body.Body.of_plan.Goals as goal

pub parts_by_number-requires-clause-maps : goal.parts_by_number-requires-clause-maps
parts_by_number-requires-clause-maps c =
    let g = c.args.graph.now in
    let plan = c.args.plan in
    let groups = with_text plan.groups.groups in
    sym (length-map plan.maps.items (λ nodes. nodes.items))
    ∙ (ap length c.requires.plan.1.maps ∙ length-map groups (local_nodes g) ∙ sym (numbers_counted c.requires.plan.0 g plan.state.items plan c.requires.plan.1))

pub parts_by_number-requires-clause-numbered : goal.parts_by_number-requires-clause-numbered
parts_by_number-requires-clause-numbered c =
    all_numbered c.requires.plan.0 c.args.graph.now c.args.plan.state.items c.args.plan c.requires.plan.1

-- the parts with code are those of the groups that have a text
of_groups : (c : In_ok-parts) → AllZip (IsPartOf c.args.graph.now) (with_text c.args.plan.groups.groups) c.in_ok-parts.parts.items
of_groups c =
    let texts = told c.args.graph.now c.args.plan.groups.groups in
    parts_of_groups c.args.graph.now (with_text c.args.plan.groups.groups) texts _ c.in_ok-parts.parts.items refl c.requires.plan.1.maps
    (c.in_ok-parts.ensures.made texts c.requires.plan.1.texts)

pub parts_with_reads-requires : goal.parts_with_reads-requires
parts_with_reads-requires c =
    let of = of_groups (goal.at.parts_with_reads-requires c).In_ok-parts in
    AllZip-long (λ group list. AreReads c.args.graph.now group list.items) (with_text c.args.plan.groups.groups) c.args.plan.reads.items c.requires.plan.1.reads
    ∙ sym (AllZip-long (IsPartOf c.args.graph.now) (with_text c.args.plan.groups.groups) c.in_ok-parts.parts.items of)

pub loosen_new-requires : goal.loosen_new-requires
loosen_new-requires c =
    let of = of_groups (goal.at.loosen_new-requires c).In_ok-parts in
    let counted = codes_counted c.requires.plan.0 c.args.graph.now c.args.plan c.requires.plan.1 c.in_ok-parts.parts.items of in
    rw (c.deref_mut.ensures.value, c.in_ok-held.ensures) (record { numbered = omega (arith, counted) })

pub add_stale-requires-clause-groups : goal.add_stale-requires-clause-groups
add_stale-requires-clause-groups c = c.requires.plan.1.are

pub add_stale-requires-clause-ids : goal.add_stale-requires-clause-ids
add_stale-requires-clause-ids c =
    subst (All (λ (id : GroupId). IsId c.args.plan.groups.groups id.node)) (sym c.deref.ensures.value) c.requires.plan.1.ids

-- the stale parts are those of the groups without a text
stale_of : (c : In_ok-add_stale) → AllZip (λ group part. IsStalePartOf group.members part) (without_text c.args.plan.groups.groups) c.in_ok-add_stale.ensures.adds.more
stale_of c =
    subst (λ groups. AllZip (λ group part. IsStalePartOf group.members part) groups c.in_ok-add_stale.ensures.adds.more)
    (ap (λ (ids : List GroupId). chosen c.args.plan.groups.groups ids) c.deref.ensures.value ∙ c.requires.plan.1.untold) c.in_ok-add_stale.ensures.adds.are

-- those in front are the parts of the others, of which some have no code any more
fronts : In_ok-add_stale → List MachinePart
fronts c = (with_items c.in_ok-held.held c.loosen_new.new.parts).items

fronts_are : (c : In_ok-add_stale) → fronts c ≡ c.loosen_new.new.parts
unfolding fronts
fronts_are c = with_items_is c.in_ok-held.held c.loosen_new.new.parts (omega (arith, c.loosen_new.auto.parts, c.deref_mut.ensures.len))

loosens_in : (c : In_ok-add_stale) → Loosens (map held (zip c.in_ok-parts.parts.items c.args.plan.reads.items)) (fronts c)
loosens_in c =
    subst (Loosens (map held (zip c.in_ok-parts.parts.items c.args.plan.reads.items))) (sym (fronts_are c))
    (subst (λ list. Loosens list c.loosen_new.new.parts) (c.deref_mut.ensures.value ∙ c.in_ok-held.ensures) c.loosen_new.ensures.loosens)

-- so many are the stale ones as there are groups without a text
stale_long : (c : In_ok-add_stale) → length c.in_ok-add_stale.ensures.adds.more ≡ length c.args.plan.large.items
stale_long c =
    let ids = c.args.plan.large.items in
    AllZip-long (λ group part. IsStalePartOf group.members part) (without_text c.args.plan.groups.groups) c.in_ok-add_stale.ensures.adds.more (stale_of c)
    ∙ (ap length (sym c.requires.plan.1.untold)
    ∙ (sym (length-map (chosen c.args.plan.groups.groups ids) id_of)
    ∙ (ap length (chosen-ids c.args.plan.groups.groups ids c.requires.plan.1.ids) ∙ length-map ids (λ (id : GroupId). id.node))))

-- the parts with the stale ones behind
parts_are : (c : In_ok-add_stale) → c.add_stale.new.parts.items ≡ fronts c ++ c.in_ok-add_stale.ensures.adds.more
unfolding fronts
parts_are c = c.in_ok-add_stale.ensures.adds.parts

numbers_are : (c : In_ok-add_stale) → c.add_stale.new.uses.numbers ≡ c.args.plan.uses.numbers ++ replicate (length c.in_ok-add_stale.ensures.adds.more) None
numbers_are c =
    c.in_ok-add_stale.ensures.numbers
    ∙ ap (λ n. c.args.plan.uses.numbers ++ replicate n None) (ap length c.deref.ensures.value ∙ sym (stale_long c))

pub of_parts-requires : goal.of_parts-requires
of_parts-requires c =
    let at = goal.at.of_parts-requires c in
    let added = at.In_ok-add_stale in
    let g = c.args.graph.now in
    let plan = c.args.plan in
    let is_plan = c.requires.plan.1 in
    let large = c.requires.plan.0 in
    let parts = c.in_ok-parts.parts.items in
    let wired = c.graphs_are_wired.ensures in
    let of = of_groups at.In_ok-parts in
    let behind = c.in_ok-add_stale.ensures.adds.more in
    let stale = stale_of added in
    let front = fronts added in
    let loosens = loosens_in added in
    let counted = sym c.requires.counted in
    let back = sym (parts_are added) in
    record {
      formed = subst (λ n. All (IsFormed n) c.add_stale.new.parts.items) counted
          (subst (All (IsFormed (nodes g))) back (formed_planned large g wired plan is_plan parts of behind stale front loosens));
      some = subst (All (λ (part : MachinePart). 0 < part.members)) back
          (some_planned large g wired plan is_plan parts of behind stale front loosens);
      apart = subst AreApart back (apart_planned large g wired plan is_plan parts of behind stale front loosens);
      reads = subst (λ n. All (λ (part : MachinePart). All (λ node. node < n) part.reads.items) c.add_stale.new.parts.items) counted
          (subst (All (λ (part : MachinePart). All (λ node. node < nodes g) part.reads.items)) back
          (reads_planned large g wired plan is_plan parts of behind stale front loosens));
      numbered = ap length (numbers_are added) ∙ (numbered_planned large g wired plan is_plan parts of behind stale front loosens ∙ ap length back);
      coded = subst (HaveCodes c.add_stale.new.uses.numbers) back
          (subst (λ numbers. HaveCodes numbers (front ++ behind)) (sym (numbers_are added))
          (coded_planned large g wired plan is_plan parts of behind stale front loosens c.in_ok-parts.ensures.coded));
    }

-- the machine that starts with the parts is ready
ready : (c : In_ok-add_stale) → AllZip (IsPartOf c.args.graph.now) (with_text c.args.plan.groups.groups) c.in_ok-parts.parts.items →
    (last : List GroupTextData) (spare : ℕ) →
    IsReady c.args.graph.now (started (Some c.args.plan.groups) c.add_stale.new.parts.items c.args.plan.state.items (texts_used c.add_stale.new.uses) last spare)
ready c of last spare =
    subst (λ list. IsReady c.args.graph.now (started (Some c.args.plan.groups) list c.args.plan.state.items (texts_used c.add_stale.new.uses) last spare))
    (sym (parts_are c))
    (IsReady-planned c.requires.plan.0 c.args.graph.now c.graphs_are_wired.ensures c.args.plan c.requires.plan.1 c.in_ok-parts.parts.items of
    c.in_ok-add_stale.ensures.adds.more (stale_of c) (fronts c) (loosens_in c) c.requires.counted c.add_stale.new.uses c.add_stale.ensures.known (numbers_are c) last spare)

pub returns-clause-begins : goal.returns-clause-begins
returns-clause-begins c =
    let at = goal.at.returns-clause-begins c in
    IsReady-of_body c.args.graph.now (Some c.args.plan.groups) c.add_stale.new.parts c.args.plan.state c.add_stale.new.uses
    (ready at.In_ok-add_stale (of_groups at.In_ok-parts)) c.of_parts.result c.of_parts.ensures.groups c.of_parts.ensures.parts c.of_parts.ensures.state
    c.of_parts.ensures.uses

pub returns-clause-all : goal.returns-clause-all
returns-clause-all c = λ all.
    let at = goal.at.returns-clause-all c in
    let added = at.In_ok-add_stale in
    let same : fronts added ≡ map held (zip c.in_ok-parts.parts.items c.args.plan.reads.items) =
    fronts_are added ∙ (c.loosen_new.ensures.all all ∙ (c.deref_mut.ensures.value ∙ c.in_ok-held.ensures)) in
    let untold = untold_planned c.requires.plan.0 c.args.graph.now c.graphs_are_wired.ensures c.args.plan c.requires.plan.1 c.in_ok-parts.parts.items
    (of_groups at.In_ok-parts) c.in_ok-add_stale.ensures.adds.more (stale_of added) (fronts added) (loosens_in added) same in
    AreUntold-of_body c.args.graph.now c.add_stale.new.parts c.of_parts.result
    (subst (AreUntold c.args.graph.now) (sym (parts_are added)) untold) c.of_parts.ensures.parts

pub returns-clause-last : goal.returns-clause-last
returns-clause-last c =
    let at = goal.at.returns-clause-last c in
    HasLast-of_body c.args.graph.now (Some c.args.plan.groups) c.add_stale.new.parts c.args.plan.state c.add_stale.new.uses
    (ready at.In_ok-add_stale (of_groups at.In_ok-parts)) c.of_parts.result c.of_parts.ensures.uses c.of_parts.ensures.order
