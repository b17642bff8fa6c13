-- The parts are those of the circuit's groups, and so what is built of them is faithful. The analyst was given the distinct texts of
-- the groups, or a prefix of them.
use Rattle.std.proofs.Common.{◌≡◌, List, ◌++◌, length, map, refl, sym, ap, ◌∙◌}
use Rattle.std.specs.Prelude.{slice_get}
use Rattle.std.specs.List.{AllZip}
use Rattle.std.proofs.lemmas.List.{length-map}
use Rattle.group_meaning.specs.Groups.{Group, AreGroups}
use Rattle.circuit_listing.proofs.AnalysedLemmas.{at_err, all_analysed, front_some, front_of_all, front_of_groups, all_of_groups}
use Rattle.circuit_listing.proofs.FaithfulLemmas.{names_visible, names_counted, AllFit-from_groups, IsFaithful-from_parts}
use Rattle.circuit_listing.specs.Analysed.{AnalysesFront}
use Rattle.circuit_texts.specs.Parts.{IsPartOf}
use Rattle.circuit_texts.proofs.MemberLemmas.{AreMembers-from_groups}
use Rattle.group_text.specs.Texts.{text_of_group, local_nodes}
use Rattle.group_text.specs.FirstTexts.{first_texts}
use Rattle.kept_parts.proofs.GroupParts.{parts_of_groups, parts_fit}
use Rattle.kept_parts.proofs.NumberLemmas.{some_numbers, numbers_counted}
use Rattle.circuit_listing.proofs.circuit.list_circuit.Given as given
use Rattle.circuit_listing.proofs.circuit.list_circuit.Goals.{In_ok-groups, In_ok-ensure, In_ok-parts}
use Rattle.circuit_listing.proofs.circuit.list_circuit.Goals as goal

-- the groups that were found are the circuit's
groups_are : (g : given.Over) (c : In_ok-groups g) → AreGroups c.args.circuit.now.graph c.in_ok-groups.groups.groups
groups_are g c = rw c.graph.ensures.value at c.in_ok-groups.ensures.groups

-- once the analyst has told of the distinct texts, it was given all of them
all_given : (g : given.Over) (c : In_ok-ensure g) (groups : List Group) → AreGroups c.args.circuit.now.graph groups
    → g.A.Analyst.analysed c.ensure.new.analyst
    ≡ g.A.Analyst.analysed c.args.analyst.now ++ first_texts (map (text_of_group c.args.circuit.now.graph) groups)
all_given g c =
    let are : AreGroups c.args.circuit.now.graph c.in_ok-groups.groups.groups = rw c.graph.ensures.value at c.in_ok-groups.ensures.groups in
    all_of_groups c.args.circuit.now.graph c.in_ok-groups.groups.groups are c.in_ok-uses.field-0.uses.known
    (rw c.graph-2.ensures.value at c.in_ok-uses.ensures.known) _ _
    (all_analysed c.with_keys-kept.result c.ensure.new.self _ _ c.in_ok-uses.field-0.uses.known _ c.with_keys-kept.ensures
    (rw c.known.ensures at c.in_ok-ensure.ensures.ok))

-- a prefix of them, too
front_given : (g : given.Over) (c : In_ok-ensure g) (groups : List Group) → AreGroups c.args.circuit.now.graph groups
    → AnalysesFront (g.A.Analyst.analysed c.args.analyst.now) (g.A.Analyst.analysed c.ensure.new.analyst)
    (first_texts (map (text_of_group c.args.circuit.now.graph) groups))
front_given g c groups are = front_of_all _ _ _ (all_given g c groups are)

-- the parts are those of the groups
parts_are : (g : given.Over) (c : In_ok-parts g)
    → AllZip (IsPartOf c.args.circuit.now.graph) c.in_ok-groups.groups.groups c.in_ok-parts.parts.items
parts_are g c =
    let graph = c.args.circuit.now.graph in
    let groups = c.in_ok-groups.groups.groups in
    let texts = map (text_of_group graph) groups in
    parts_of_groups graph groups texts _ c.in_ok-parts.parts.items refl (rw c.graph-2.ensures.value at c.in_ok-uses.ensures.maps)
    (c.in_ok-parts.ensures.made texts (rw c.graph-2.ensures.value at c.in_ok-uses.ensures.texts))

pub returns-in_err-ensure-clause-front : goal.returns-in_err-ensure-clause-front
returns-in_err-ensure-clause-front g c =
    let before = g.A.Analyst.analysed c.args.analyst.now in
    let after = g.A.Analyst.analysed c.ensure.new.analyst in
    let known = c.in_ok-uses.field-0.uses.known in
    at_err c.from_residual-in_err-ensure.result
    (front_of_groups c.args.circuit.now.graph c.in_ok-groups.groups.groups
    (groups_are g (goal.at.returns-in_err-ensure-clause-front g c).In_ok-groups) known
    (rw c.graph-2.ensures.value at c.in_ok-uses.ensures.known) before after
    (front_some c.with_keys-kept.result c.ensure.new.self before after known c.with_keys-kept.ensures
    (rw c.known.ensures at c.in_err-ensure.ensures.err)))

pub returns-in_err-parts-clause-front : goal.returns-in_err-parts-clause-front
returns-in_err-parts-clause-front g c =
    at_err c.from_residual-in_err-parts.result (front_given g (goal.at.returns-in_err-parts-clause-front g c).In_ok-ensure)

pub returns-in_err-names-clause-front : goal.returns-in_err-names-clause-front
returns-in_err-names-clause-front g c =
    at_err c.from_residual-in_err-names.result (front_given g (goal.at.returns-in_err-names-clause-front g c).In_ok-ensure)

pub returns-in_err-build-clause-front : goal.returns-in_err-build-clause-front
returns-in_err-build-clause-front g c =
    at_err c.from_residual-in_err-build.result (front_given g (goal.at.returns-in_err-build-clause-front g c).In_ok-ensure)

pub parts_by_number-requires-clause-maps : goal.parts_by_number-requires-clause-maps
parts_by_number-requires-clause-maps g c =
    let graph = c.args.circuit.now.graph in
    let groups = c.in_ok-groups.groups.groups in
    let uses = c.in_ok-uses.field-0.uses in
    let texts = rw c.graph-2.ensures.value at c.in_ok-uses.ensures.texts in
    let maps = rw c.graph-2.ensures.value at c.in_ok-uses.ensures.maps in
    sym (length-map c.in_ok-uses.field-0.maps.items (λ nodes. nodes.items))
    ∙ (ap length maps ∙ length-map groups (local_nodes graph) ∙ sym (numbers_counted uses groups (text_of_group graph) texts))

pub parts_by_number-requires-clause-numbered : goal.parts_by_number-requires-clause-numbered
parts_by_number-requires-clause-numbered g c =
    let graph = c.args.circuit.now.graph in
    let uses = c.in_ok-uses.field-0.uses in
    some_numbers (slice_get uses.known) uses.numbers (map (text_of_group graph) c.in_ok-groups.groups.groups)
    (rw c.graph-2.ensures.value at c.in_ok-uses.ensures.texts)

pub build-requires : goal.build-requires
build-requires g c =
    let circuit = c.args.circuit.now in
    let groups = c.in_ok-groups.groups.groups in
    let names = c.in_ok-names.names.items in
    let parts = c.in_ok-parts.parts.items in
    let here = goal.at.build-requires g c in
    let are = groups_are g here.In_ok-groups in
    let made = parts_are g here.In_ok-parts in
    rw (c.deref.ensures.value, c.graph-3.ensures.value) (record {
      names = names_counted (λ name. name.items) circuit names c.in_ok-names.ensures;
      visible = names_visible (λ name. name.items) circuit names c.requires c.in_ok-names.ensures;
      fit = parts_fit circuit.graph c.graph.ensures.netlist.wired groups are parts made;
      members = AreMembers-from_groups circuit.graph groups are parts made;
    })

pub returns-clause-listing : goal.returns-clause-listing
returns-clause-listing g c =
    let at_end = goal.at.returns-clause-listing g c in
    IsFaithful-from_parts c.args.circuit.now c.graph.ensures.netlist.wired c.in_ok-groups.groups.groups (groups_are g at_end.In_ok-groups)
    c.in_ok-parts.parts.items (parts_are g at_end.In_ok-parts) c.in_ok-build.field-0 (map (λ name. name.items) c.in_ok-names.names.items)
    c.in_ok-names.ensures (rw (c.deref.ensures.value, c.graph-3.ensures.value) at c.in_ok-build.ensures)

pub returns-clause-fits : goal.returns-clause-fits
returns-clause-fits g c =
    AllFit-from_groups c.args.circuit.now.graph c.in_ok-groups.groups.groups (groups_are g (goal.at.returns-clause-fits g c).In_ok-groups)
    c.in_ok-uses.ensures.fits

pub returns-clause-analysed : goal.returns-clause-analysed
returns-clause-analysed g c = all_given g (goal.at.returns-clause-analysed g c).In_ok-ensure

pub parts_by_number-requires-clause-kept : goal.parts_by_number-requires-clause-kept
parts_by_number-requires-clause-kept g c = rw c.known.ensures at c.in_ok-ensure.ensures.there
