-- A number past the last node has no level.
use Rattle.std.proofs.Common.{◌≡◌, inl, inr, arith}
use Rattle.std.proofs.lemmas.Bool.{cases_lt}
use Rattle.std.proofs.lemmas.List.{get_or_past}
use Rattle.switch_paths.specs.Graphs.{nodes, level_of}
use Rattle.node_elimination.proofs.descent.has_node.Goals as goal

pub returns : goal.returns
returns c = λ none n.
    elim (cases_lt n (nodes c.args.graph.now)) [
      | inl inside ↦ c.loop-node.invariant n (omega arith)
      | inr past ↦ λ same.
          let nothing : level_of c.args.graph.now n ≡ 0 = get_or_past c.args.graph.now.levels n 0 past in
          omega (arith, c.requires)
    ]
