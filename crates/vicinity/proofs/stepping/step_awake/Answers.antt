-- What is noted is of storage nodes, and of each one once; the members move, and what is asleep afterwards rests.
use Rattle.std.proofs.Common.{◌≡◌, [], List, sym, subst}
use Rattle.std.specs.Prelude.{Contains}
use Rattle.part_words.specs.declared.change.Change.{Change}
use Rattle.vicinity.specs.NodeSets.{NodeSetData, IsIn}
use Rattle.vicinity.specs.Evaluating.{AreChanges}
use Rattle.machine_parts.specs.Running.{IsTaken}
use Rattle.vicinity.proofs.StepLemmas.{noted_inside, noted_agree, members_move, rests_again}
use Rattle.vicinity.proofs.stepping.step_awake.Given.{Over}
use Rattle.vicinity.proofs.stepping.step_awake.Goals.{After-evaluate}
use Rattle.vicinity.proofs.stepping.step_awake.Goals as goal

-- the changes are those of the nodes that are awake
noted : (g : Over) (c : After-evaluate g) →
    AreChanges c.args.joining c.args.graph.now c.args.state.now c.args.touched.now.list [] c.evaluate.new.changes.items
noted g c = rw (c.nodes_in.ensures.value, c.clear.ensures.items) at c.evaluate.ensures.changes

pub take_all-requires-clause-inside : goal.take_all-requires-clause-inside
take_all-requires-clause-inside g c = λ change there.
    noted_inside c.args.graph.now c.graphs_are_wired.ensures c.args.joining c.args.state.now c.args.state.now c.args.touched.now.list
    c.evaluate.new.changes.items (noted g (goal.at.take_all-requires-clause-inside g c).After-evaluate) change
    (subst (λ (list : List Change). Contains list change) c.deref.ensures.value there)

pub take_all-requires-clause-agreed : goal.take_all-requires-clause-agreed
take_all-requires-clause-agreed g c = λ one two here there.
    noted_agree c.args.graph.now c.graphs_are_wired.ensures c.args.joining c.args.state.now c.args.state.now c.args.touched.now.list
    c.evaluate.new.changes.items (noted g (goal.at.take_all-requires-clause-agreed g c).After-evaluate) one two
    (subst (λ (list : List Change). Contains list one) c.deref.ensures.value here)
    (subst (λ (list : List Change). Contains list two) c.deref.ensures.value there)

pub returns-clause-group : goal.returns-clause-group
returns-clause-group g c = λ group is_group rests.
    let changes = c.evaluate.new.changes.items in
    let notes = noted g (goal.at.returns-clause-group g c).After-evaluate in
    let old = c.args.state.now in
    let new = c.take_all.new.state in
    let taken : IsTaken changes old new = subst (λ (list : List Change). IsTaken list old new) c.deref.ensures.value c.take_all.ensures.taken in (
      members_move c.args.graph.now c.graphs_are_wired.ensures c.args.joining old new c.args.touched.now.list changes notes taken group is_group rests,
      rests_again c.args.graph.now c.graphs_are_wired.ensures c.args.joining old new c.args.touched.now.list changes notes taken group is_group rests
          c.take_all.new.touched.list c.rest.new.touched.inside c.take_all.new.touched.inside c.take_all.ensures.touches c.lists_what_is_in_it-2.ensures.listed
          (λ joining node there.
          let same : c.rest.new.touched ≡ c.args.touched.now = rw joining at c.rest.ensures.joining in
          let was : IsIn c.args.touched.now.inside node = c.lists_what_is_in_it.ensures.only node there in
          let still : IsIn c.rest.new.touched.inside node = subst (λ (set : NodeSetData). IsIn set.inside node) (sym same) was in
          c.lists_what_is_in_it-2.ensures.listed node (c.take_all.ensures.touches.stays node still)),
    )
