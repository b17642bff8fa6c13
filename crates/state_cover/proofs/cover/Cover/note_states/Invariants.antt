-- The first nodes are noted.
use Rattle.state_cover.proofs.CoverLemmas.{FirstNoted}
use Rattle.state_cover.proofs.cover.Cover.note_states.Given as goal

abbrev pub invariant-loop-node : goal.invariant-loop-node
invariant-loop-node l = FirstNoted l.states l.fn.self l.self-inside.had.items l.node
