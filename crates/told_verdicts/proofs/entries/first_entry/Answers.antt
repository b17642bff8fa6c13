use Rattle.told_verdicts.proofs.FirstLemmas.{first_entry-of}
use Rattle.told_verdicts.proofs.entries.first_entry.Goals as goal

pub returns : goal.returns
returns c = first_entry-of c.args.strong c.args.good.now c.args.bad.now c.first_in_row.result c.first_in_row.ensures
