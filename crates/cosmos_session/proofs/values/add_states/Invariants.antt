-- The nodes before this one aren't refused, and their states are there.
use Rattle.std.proofs.Common.{◌≡◌, ◌++◌, Ok, drop}
use Rattle.node_values.specs.Givings.{states_given}
use Rattle.session_meaning.specs.Refusals.{given_refusal}
use Rattle.cosmos_session.specs.Targets.{target_at}
use Rattle.cosmos_session.proofs.values.add_states.Given as goal

abbrev pub invariant-loop-node : goal.invariant-loop-node
invariant-loop-node l = record {
  allowed : given_refusal (target_at l.target l.circuit) (Ok (drop l.node-index l.pairs)) ≡ given_refusal (target_at l.target l.circuit) (Ok l.pairs);
  states : l.states.items ++ states_given (drop l.node-index l.pairs) ≡ l.initial.states.items ++ states_given l.pairs;
}
