-- The first places have the states of their nodes.
use Rattle.wave_dump.proofs.EntryLemmas.{TakenFirst}
use Rattle.wave_dump.proofs.entries.take_values.Given as goal

abbrev pub invariant-loop-at : goal.invariant-loop-at
invariant-loop-at l = TakenFirst l.nodes l.states l.fn.shown l.shown l.at l.changed
