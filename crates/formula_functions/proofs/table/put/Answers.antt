-- The name is put behind the others.
use Rattle.std.proofs.Common.{◌∙◌}
use Rattle.formula_functions.proofs.TableLemmas.{keys-inserted}
use Rattle.formula_functions.proofs.table.put.Goals as goal
use Rattle.formula_functions.proofs.table.put.Goals.{in-Ok, in-Err}

pub returns-clause-ok : goal.returns-clause-ok
returns-clause-ok c = elim c.match-insert.branch [
  | in-Ok w ↦ rw w.result-is (w.in-Ok.ensures.keys ∙ keys-inserted c.args.table.now.keys c.args.key c.requires)
  | in-Err w ↦ rw w.result-is tt
]
