-- A node of the list is one of the nodes.
use Rattle.std.proofs.Common.{◌<◌, ℕ, List, ap, subst, arith}
use Rattle.std.specs.Prelude.{length, Contains, slice_index_or}
use Rattle.std.proofs.lemmas.List.Elements.{Contains-get_or}
use Rattle.vicinity.specs.NodeSets.{NodeSetData}
use Rattle.machine_parts.proofs.SetMarks.{marked_inside}
use Rattle.vicinity.proofs.node_set.NodeSet.nodes_in.Goals as goal

pub returns-clause-within : goal.returns-clause-within
returns-clause-within c = λ k d inside.
    let marks = c.self.inside.marks.items in
    let node = slice_index_or c.deref.result.now k d in
    let there : Contains c.self.inside.list.items node =
    subst (λ (xs : List ℕ). Contains xs node) c.deref.ensures.value (Contains-get_or c.deref.result.now k d inside) in
    let is : node < length marks = marked_inside marks node (c.self.invariant.only node there) in
    omega (arith, is, ap (λ (set : NodeSetData). length set.inside) c.self.view_is)
