-- As many are listed as are in the set.
use Rattle.std.proofs.Common.{ap, arith}
use Rattle.std.specs.Prelude.{length}
use Rattle.std.proofs.lemmas.List.Sums.{count_by-le-length}
use Rattle.vicinity.specs.NodeSets.{NodeSetData}
use Rattle.vicinity.proofs.node_set.NodeSet.len.Goals as goal

pub returns-clause-most : goal.returns-clause-most
returns-clause-most c =
    let marks = c.self.inside.marks.items in
    omega (
      arith,
      c.self.invariant.number,
      count_by-le-length (λ mark. mark) marks,
      c.len.ensures,
      ap (λ (set : NodeSetData). length set.inside) c.self.view_is,
    )
