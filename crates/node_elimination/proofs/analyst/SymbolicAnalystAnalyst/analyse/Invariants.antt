-- The steps of an analysis are counted by the blank's own ledger.
use Rattle.node_elimination.proofs.analyst.SymbolicAnalystAnalyst.analyse.Given as goal

abbrev pub ghosts-make : goal.ghosts-make
ghosts-make a = record { name = a.blank.name; parts = a.blank.parts }
