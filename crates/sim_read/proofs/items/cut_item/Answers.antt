use Rattle.std.proofs.Common.{sym}
use Rattle.sim_read.proofs.ItemLemmas.{items_of-cut, items_of-whole}
use Rattle.sim_read.proofs.items.cut_item.Goals as goal

pub returns-in-Some : goal.returns-in-Some
returns-in-Some c = items_of-cut c.args.word.now c.in-Some.at (sym c.in-Some.ensures)

pub returns-in-None : goal.returns-in-None
returns-in-None c = items_of-whole c.args.word.now (sym c.in-None.ensures)
