-- The first entries are listed.
use Rattle.wave_dump.specs.Entries.{entries_of}
use Rattle.wave_dump.proofs.EntryLemmas.{ListedBelow}
use Rattle.wave_dump.proofs.entries.lists_of.Given as goal

abbrev pub invariant-loop-number : goal.invariant-loop-number
invariant-loop-number l = ListedBelow (entries_of l.entries) l.count l.number l.lists.items
