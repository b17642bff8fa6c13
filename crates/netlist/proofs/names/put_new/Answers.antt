use Rattle.netlist.proofs.NameLemmas.{entries_of-new}
use Rattle.netlist.proofs.names.put_new.Goals as goal
use Rattle.netlist.proofs.names.put_new.Goals.{in-Ok, in-Err}

pub returns-clause-ok : goal.returns-clause-ok
returns-clause-ok c = elim c.match-insert.branch [
  | in-Ok w ↦ rw w.result-is (entries_of-new c.args.table.now c.insert.new.self c.args.name c.args.node c.requires w.in-Ok.ensures.entries)
  | in-Err w ↦ rw w.result-is tt
]
