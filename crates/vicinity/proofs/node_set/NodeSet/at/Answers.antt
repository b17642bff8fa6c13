-- A node of the list is one of the nodes.
use Rattle.std.proofs.Common.{◌<◌, ap, arith}
use Rattle.std.specs.Prelude.{length}
use Rattle.std.proofs.lemmas.List.Elements.{Contains-get_or}
use Rattle.vicinity.specs.NodeSets.{NodeSetData}
use Rattle.machine_parts.proofs.SetMarks.{marked_inside}
use Rattle.vicinity.proofs.node_set.NodeSet.at.Goals as goal

pub returns-clause-within : goal.returns-clause-within
returns-clause-within c =
    let marks = c.self.inside.marks.items in
    let within : c.args.place < length c.self.inside.list.items = omega (arith, c.requires, ap (λ (set : NodeSetData). length set.list) c.self.view_is) in
    let is = marked_inside marks _ (c.self.invariant.only _ (Contains-get_or c.self.inside.list.items c.args.place c.index.result.now within)) in
    omega (arith, is, c.index.ensures, ap (λ (set : NodeSetData). length set.inside) c.self.view_is)
