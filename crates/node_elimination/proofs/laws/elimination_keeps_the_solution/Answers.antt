-- The law of elimination.
use Rattle.node_elimination.proofs.SolutionLemmas.{elimination_keeps}
use Rattle.node_elimination.proofs.laws.elimination_keeps_the_solution.Goals as goal

pub returns : goal.returns
returns c = elimination_keeps
