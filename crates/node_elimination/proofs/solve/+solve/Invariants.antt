-- Each turn takes one unknown out.
use Rattle.node_elimination.specs.Equations.{left_count}
use Rattle.node_elimination.proofs.solve.+solve.Given as goal

abbrev pub decreases-solve : goal.decreases-solve
decreases-solve g l = left_count l.system.now
