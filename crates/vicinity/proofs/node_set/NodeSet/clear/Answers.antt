-- The node that is taken out is one of the nodes, and the others stay listed.
use Rattle.std.proofs.Common.{ℕ, List, false, arith, subst, ◌∙◌}
use Rattle.std.specs.Prelude.{vec_capacity}
use Rattle.std.proofs.lemmas.List.{length-set}
use Rattle.std.proofs.lemmas.List.Elements.{Contains-push}
use Rattle.machine_parts.specs.Marking.{ListsMarked}
use Rattle.machine_parts.proofs.MarkLemmas.{ListsMarked-less}
use Rattle.machine_parts.proofs.SetMarks.{marked_inside}
use Rattle.vicinity.proofs.node_set.NodeSet.clear.Goals as goal

pub index_mut-requires : goal.index_mut-requires
index_mut-requires c =
    let i = c.loop-node.self-inside in
    let set = subst (λ (list : List ℕ). ListsMarked i.marks.items list (vec_capacity i.list)) c.in-Some.ensures.items c.loop-node.invariant.set in
    omega (arith, marked_inside i.marks.items c.in-Some.node (set.only c.in-Some.node (Contains-push _ c.in-Some.node)), i.marks.ok)

pub loop-node-preserved : goal.loop-node-preserved
loop-node-preserved c =
    let i = c.loop-node.self-inside in
    let set = subst (λ (list : List ℕ). ListsMarked i.marks.items list (vec_capacity i.list)) c.in-Some.ensures.items c.loop-node.invariant.set in
    record {
      set = rw c.pop.ensures.capacity (ListsMarked-less i.marks.items _ _ c.in-Some.node set);
      count = length-set i.marks.items c.in-Some.node false ∙ c.loop-node.invariant.count;
    }
