-- Both leaves stand first in a reduced graph, and no leaf besides.
use Rattle.std.proofs.Common.{false, true, arith}
use Rattle.decision_graph.proofs.CanonLemmas.{holds-leaf, level-branch, leaf-true}
use Rattle.decision_graph.proofs.combining.leaves_are_first.Goals as goal

pub returns-clause-no : goal.returns-clause-no
returns-clause-no c = λ vars.
    holds-leaf c.args.graph.now.variables c.args.graph.now.vertices vars 0 false c.size.ensures.reduced (omega (arith, c.size.ensures.reduced.both))
    c.size.ensures.reduced.first

pub returns-clause-yes : goal.returns-clause-yes
returns-clause-yes c = λ vars.
    holds-leaf c.args.graph.now.variables c.args.graph.now.vertices vars 1 true c.size.ensures.reduced (omega (arith, c.size.ensures.reduced.both))
    c.size.ensures.reduced.second

pub returns-clause-others : goal.returns-clause-others
returns-clause-others c = λ i not_first not_second inside.
    level-branch c.args.graph.now.variables c.args.graph.now.vertices i c.size.ensures.reduced c.size.ensures.apart not_first not_second inside

pub returns-clause-leaf : goal.returns-clause-leaf
returns-clause-leaf c = λ i b not_first inside is.
    leaf-true c.args.graph.now.variables c.args.graph.now.vertices i b c.size.ensures.reduced c.size.ensures.apart not_first inside is
