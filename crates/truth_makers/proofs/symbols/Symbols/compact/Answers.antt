-- The functions that were found are those of the new maker, and hold where the roots do.
use Rattle.std.proofs.Common.{◌^◌, ap}
use Rattle.truth_makers.proofs.CompactLemmas.{found-holds, found-inside}
use Rattle.truth_makers.proofs.symbols.Symbols.compact.Goals as goal

pub returns-clause-columns : goal.returns-clause-columns
returns-clause-columns c = ap (λ n. 2 ^ n) c.in_ok-graph.ensures.shape.variables

pub returns-clause-counted : goal.returns-clause-counted
returns-clause-counted c = c.in_ok-graph.ensures.found.count

pub returns-clause-inside : goal.returns-clause-inside
returns-clause-inside c =
    found-inside c.args.self.now.graph.vertices c.args.roots.now c.in_ok-graph.graph.vertices c.in_ok-graph.found.items c.in_ok-graph.ensures.found

pub returns-clause-same : goal.returns-clause-same
returns-clause-same c = λ column.
    found-holds c.args.self.now.graph.variables c.in_ok-graph.graph.variables c.args.self.now.graph.vertices c.args.roots.now c.in_ok-graph.graph.vertices
    c.in_ok-graph.found.items c.in_ok-graph.ensures.shape.variables c.in_ok-graph.ensures.found column
