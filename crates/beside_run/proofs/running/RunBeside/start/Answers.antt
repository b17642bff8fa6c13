-- The parts that are apart are marked, and no others.
use Rattle.std.proofs.Common.{◌≡◌, ◌<◌, List, length, false, refl, sym, ap, subst, ◌∙◌}
use Rattle.std.proofs.lemmas.List.{length-replicate}
use Rattle.ternary.specs.declared.tern.Tern.{Tern}
use Rattle.vicinity.specs.NodeSets.{IsIn}
use Rattle.machine_laws.specs.Machines.{MachineData}
use Rattle.unit_step.specs.Remarking.{MarksJust}
use Rattle.beside_run.specs.Differing.{AreFirstApart}
use Rattle.beside_run.proofs.DifferingLemmas.{first_fits}
use Rattle.beside_run.proofs.RunningLemmas.{alike_held, begins_run, none_in}
use Rattle.beside_run.proofs.running.RunBeside.start.Goals.{After-mark_just}
use Rattle.beside_run.proofs.running.RunBeside.start.Goals as goal

pub first_apart-requires : goal.first_apart-requires
first_apart-requires c =
    rw c.start-start.ensures (record { touched = c.requires.touched; counted = c.requires.counted })

pub mark_just-requires : goal.mark_just-requires
mark_just-requires c = λ k (i, inside, here).
    subst (λ n. k < n) c.in_ok-apart.ensures.counted (subst (λ n. n < length c.in_ok-apart.apart.inside) here (c.nodes_in.ensures.within i k inside))

-- the parts that are apart
first : (c : After-mark_just) → AreFirstApart c.args.machine.now c.args.touched.inside c.args.run.now.start c.in_ok-apart.apart.inside
first c =
    subst (λ (start : List Tern). AreFirstApart c.args.machine.now c.args.touched.inside start c.in_ok-apart.apart.inside) c.start-start.ensures c.in_ok-apart.ensures

pub returns-clause-beside : goal.returns-clause-beside
returns-clause-beside c =
    let old = c.args.machine.now in
    let new = c.mark_just.new.self in
    let apart = c.in_ok-apart.apart in
    let marks : MarksJust apart.list old new = subst (λ list. MarksJust list old new) c.nodes_in.ensures.value c.mark_just.ensures in
    let parts : new.parts ≡ old.parts = ap (λ (m : MachineData). m.parts) marks.rest in
    let state : new.state ≡ old.state = ap (λ (m : MachineData). m.state) marks.rest in
    let number = c.parts-parts.ensures ∙ sym (ap length parts) in
    let nodes = ap length c.state-nodes.ensures ∙ sym (ap length state) in
    begins_run c.args.good_graph.now c.args.run.now c.args.graph.now new _
    (first_fits c.args.good_graph.now c.args.graph.now c.args.run.now.start c.args.touched.inside apart old new c.requires.fits
    c.has_a_mark_for_each_part.ensures c.requires.counted c.requires.alike (first (goal.at.returns-clause-beside c).After-mark_just)
    c.lists_what_is_in_it.ensures.listed c.lists_what_is_in_it.ensures.only marks)
    c.requires.sound (alike_held c.args.good_graph.now c.args.graph.now old new c.args.touched.inside parts c.requires.alike)
    (c.in_ok-state.ensures.items ∙ c.start-start.ensures) refl (c.requires.touched ∙ sym (ap length parts))
    (ap length c.in_ok-room.ensures.inside ∙ (length-replicate c.parts-parts.result false ∙ number))
    (ap length c.in_ok-given.ensures.inside ∙ (length-replicate (length c.state-nodes.result.now) false ∙ nodes))
    (λ node is. none_in (length c.state-nodes.result.now) node (subst (λ marks. IsIn marks node) c.in_ok-given.ensures.inside is))

pub returns-clause-first : goal.returns-clause-first
returns-clause-first c = first (goal.at.returns-clause-first c).After-mark_just

pub returns-clause-marks : goal.returns-clause-marks
returns-clause-marks c = record { same = c.mark_just.ensures.rest }
