use Rattle.fault_meaning.proofs.NameLemmas.{entries_named}
use Rattle.fault_meaning.proofs.laws.each_entry_is_named.Goals as goal

pub returns : goal.returns
returns c = entries_named
