-- The bits of the parts so far are their rails, and no other is set.
use Rattle.std.proofs.Common.{◌+◌}
use Rattle.std.specs.Prelude.{slice_index}
use Rattle.ternary.specs.Tern.{may_one, may_zero}
use Rattle.switch_paths.specs.Switching.{state_at}
use Rattle.part_words.proofs.GatherLemmas.{AreSet}
use Rattle.part_words.proofs.gather.rails_of.Given as goal

abbrev pub invariant-loop-column : goal.invariant-loop-column
invariant-loop-column l = record {
  ones : AreSet l.column l.starts l.hi (λ at. may_one (state_at l.state (slice_index l.nodes (at + l.j))));
  others : AreSet l.column l.starts l.lo (λ at. may_zero (state_at l.state (slice_index l.nodes (at + l.j))));
}
