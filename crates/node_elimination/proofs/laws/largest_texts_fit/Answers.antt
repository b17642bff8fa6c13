-- The numbers of the largest texts.
use Rattle.std.proofs.Common.{arith}
use Rattle.node_elimination.proofs.LargestTexts.{largest_bound}
use Rattle.node_elimination.proofs.laws.largest_texts_fit.Goals as goal

pub returns-clause-nodes : goal.returns-clause-nodes
returns-clause-nodes c = λ text small. omega (arith, small.few)

pub returns-clause-unknowns : goal.returns-clause-unknowns
returns-clause-unknowns c = λ text small. omega (arith, small.members)

pub returns-clause-gates : goal.returns-clause-gates
returns-clause-gates c = largest_bound

pub returns-clause-code : goal.returns-clause-code
returns-clause-code c = λ text code small means.
    (omega (arith, means.inputs, small.few), omega (arith, means.few, largest_bound text small))
