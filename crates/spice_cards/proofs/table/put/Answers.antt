use Rattle.spice_cards.proofs.TableLemmas.{entries_of-new}
use Rattle.spice_cards.proofs.table.put.Goals as goal
use Rattle.spice_cards.proofs.table.put.Goals.{in-Ok, in-Err}

pub returns-clause-ok : goal.returns-clause-ok
returns-clause-ok g c = elim c.match-insert.branch [
  | in-Ok w ↦ rw w.result-is (entries_of-new c.args.entries.now c.insert.new.self c.args.name c.args.value c.requires w.in-Ok.ensures.entries)
  | in-Err w ↦ rw w.result-is tt
]
