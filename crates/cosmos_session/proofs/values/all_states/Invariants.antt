-- The assignments before this one aren't refused, and their states are there.
use Rattle.std.proofs.Common.{◌≡◌, ◌++◌, drop}
use Rattle.session_meaning.specs.Refusals.{givings_refusal}
use Rattle.session_meaning.specs.Effects.{states_by}
use Rattle.cosmos_session.specs.Targets.{target_at}
use Rattle.cosmos_session.proofs.values.all_states.Given as goal

abbrev pub invariant-loop-name : goal.invariant-loop-name
invariant-loop-name l = record {
  allowed : givings_refusal (target_at l.target l.circuit) l.circuit l.vectors (drop l.name-index l.list)
      ≡ givings_refusal (target_at l.target l.circuit) l.circuit l.vectors l.list;
  states : l.states.items ++ states_by l.circuit l.vectors (drop l.name-index l.list) ≡ states_by l.circuit l.vectors l.list;
}
