-- The entry is listed at the first nodes.
use Rattle.wave_dump.proofs.EntryLemmas.{ListedFirst}
use Rattle.wave_dump.proofs.entries.list_entry.Given as goal

abbrev pub invariant-loop-node : goal.invariant-loop-node
invariant-loop-node l = ListedFirst l.nodes l.node-index l.number l.fn.lists l.lists
