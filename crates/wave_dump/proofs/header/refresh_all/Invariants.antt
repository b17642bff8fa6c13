-- The first entries have their values in the state.
use Rattle.wave_dump.proofs.HeaderLemmas.{FreshFirst}
use Rattle.wave_dump.proofs.header.refresh_all.Given as goal

abbrev pub invariant-loop-number : goal.invariant-loop-number
invariant-loop-number l = FreshFirst l.states l.fn.entries l.entries l.number
