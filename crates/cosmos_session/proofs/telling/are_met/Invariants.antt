use Rattle.std.proofs.Common.{◌≡◌, ℕ, drop}
use Rattle.std.specs.List.{list_all}
use Rattle.switch_paths.specs.Switching.{state_at}
use Rattle.vector_values.specs.Values.{Letter}
use Rattle.session_meaning.specs.Effects.{is_met}
use Rattle.cosmos_session.proofs.telling.are_met.Given as goal

abbrev pub invariant-loop-node : goal.invariant-loop-node
invariant-loop-node l =
    let met = (λ (pair : ℕ × Letter). is_met pair.1 (state_at l.state pair.0)) in list_all met (drop l.node-index l.pairs) ≡ list_all met l.pairs
