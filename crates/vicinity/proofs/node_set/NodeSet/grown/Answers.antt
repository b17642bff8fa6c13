-- What is in the set is listed, and there is room for the new nodes.
use Rattle.std.proofs.Common.{◌≡◌, ◌+◌, ◌-◌, ◌≤◌, ◌++◌, false, length, ap, ◌∙◌, arith}
use Rattle.std.specs.Prelude.{replicate, vec_len, vec_capacity}
use Rattle.vicinity.specs.NodeSets.{NodeSetData}
use Rattle.vicinity.proofs.GrowingLemmas.{filled_up, ListsMarked-grown}
use Rattle.vicinity.proofs.node_set.NodeSet.grown.Goals as goal

pub invariant_of-result : goal.invariant_of-result
invariant_of-result c =
    let i = c.self.inside in
    let count = c.args.nodes in
    let few : length i.marks.items ≤ count = omega (arith, c.requires, ap (λ (set : NodeSetData). length set.inside) c.self.view_is) in
    let long : vec_len i.marks ≡ length i.marks.items = omega (arith, i.marks.ok.0) in
    let marks : c.resize.new.self.items ≡ i.marks.items ++ replicate (count - length i.marks.items) false =
    c.in_ok-resize.ensures.items ∙ filled_up i.marks.items false count (vec_len i.marks) long few in
    let room : length i.marks.items + (count - length i.marks.items) ≤ vec_capacity c.reserve.new.self =
    omega (arith, few, c.in_ok-reserve.ensures.ok, c.saturating_sub.ensures, c.len.ensures) in
    rw (marks, c.reserve.ensures.items)
    (ListsMarked-grown i.marks.items i.list.items (vec_capacity i.list) _ (count - length i.marks.items) room c.self.invariant)

pub returns-clause-inside : goal.returns-clause-inside
returns-clause-inside c =
    let i = c.self.inside in
    let count = c.args.nodes in
    let few : length i.marks.items ≤ count = omega (arith, c.requires, ap (λ (set : NodeSetData). length set.inside) c.self.view_is) in
    let long : vec_len i.marks ≡ length i.marks.items = omega (arith, i.marks.ok.0) in
    rw (← c.self.view_is) (c.in_ok-resize.ensures.items ∙ filled_up i.marks.items false count (vec_len i.marks) long few)
