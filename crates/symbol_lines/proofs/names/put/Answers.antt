-- The name is put behind the others.
use Rattle.std.proofs.Common.{ap, ◌∙◌}
use Rattle.symbol_lines.specs.Names.{keys_of}
use Rattle.symbol_lines.proofs.NameLemmas.{keys_of_inserted}
use Rattle.symbol_lines.proofs.names.put.Goals as goal
use Rattle.symbol_lines.proofs.names.put.Goals.{in-Ok, in-Err}

pub returns-clause-ok : goal.returns-clause-ok
returns-clause-ok c = elim c.match-insert.branch [
  | in-Ok w ↦ rw w.result-is (ap keys_of w.in-Ok.ensures.keys ∙ keys_of_inserted c.args.table.now.keys c.args.name c.requires)
  | in-Err w ↦ rw w.result-is tt
]
