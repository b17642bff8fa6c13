-- The last listed node is in the set, and the others stay listed.
use Rattle.std.proofs.Common.{ℕ, List, arith, subst, ap}
use Rattle.std.specs.Prelude.{vec_capacity, length}
use Rattle.std.proofs.lemmas.List.Elements.{Contains-push}
use Rattle.machine_parts.specs.Marking.{ListsMarked}
use Rattle.vicinity.specs.NodeSets.{NodeSetData}
use Rattle.machine_parts.proofs.MarkLemmas.{ListsMarked-less}
use Rattle.machine_parts.proofs.SetMarks.{marked_inside}
use Rattle.vicinity.proofs.node_set.NodeSet.pop.Goals as goal

pub index_mut-requires : goal.index_mut-requires
index_mut-requires c =
    let family : List ℕ → Type 0 = λ list. ListsMarked c.self.inside.marks.items list (vec_capacity c.self.inside.list) in
    let set = subst family c.in_ok-node.ensures.items c.self.invariant in
    omega (arith, marked_inside c.self.inside.marks.items c.in_ok-node.node (set.only c.in_ok-node.node (Contains-push _ c.in_ok-node.node)))

pub invariant_of-self-2 : goal.invariant_of-self-2
invariant_of-self-2 c =
    let family : List ℕ → Type 0 = λ list. ListsMarked c.self.inside.marks.items list (vec_capacity c.self.inside.list) in
    let set = subst family c.in_ok-node.ensures.items c.self.invariant in
    rw c.pop.ensures.capacity (ListsMarked-less c.self.inside.marks.items _ _ c.in_ok-node.node set)

pub returns-clause-within : goal.returns-clause-within
returns-clause-within c =
    let family : List ℕ → Type 0 = λ list. ListsMarked c.self.inside.marks.items list (vec_capacity c.self.inside.list) in
    let set = subst family c.in_ok-node.ensures.items c.self.invariant in
    omega (
      arith,
      marked_inside c.self.inside.marks.items c.in_ok-node.node (set.only c.in_ok-node.node (Contains-push _ c.in_ok-node.node)),
      ap (λ (set : NodeSetData). length set.inside) c.self.view_is,
    )
