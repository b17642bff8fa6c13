use Rattle.std.proofs.Common.{◌≡◌, ◌+◌, ◌∙◌, ℕ, List, [], ◌∷◌, None, Ok, get_or, drop, sym, ap, arith}
use Rattle.std.proofs.lemmas.List.{drop_all, get_or_default}
use Rattle.std.proofs.lemmas.Result.{err_from_is_err_and}
use Rattle.vector_values.specs.Values.{Letter}
use Rattle.node_values.specs.Givings.{states_given}
use Rattle.session_meaning.specs.Refusals.{given_refusal}
use Rattle.session_meaning.proofs.ItemLemmas.{given-next, pairs-next, pairs-stops, states_given-next}
use Rattle.cosmos_session.specs.Targets.{target_at}
use Rattle.cosmos_session.proofs.values.add_states.Goals as goal

pub add_state-requires : goal.add_state-requires
add_state-requires c = c.requires.within c.loop-node.node-index (0, None) c.loop-node-test.true

pub returns-in_err-add_state-clause-refused : goal.returns-in_err-add_state-clause-refused
returns-in_err-add_state-clause-refused c =
    let pairs = c.args.pairs.now in
    let place = c.loop-node.node-index in
    let pair : ℕ × Letter = get_or pairs place (0, None) in
    let is : pair ≡ get_or pairs place pair = get_or_default pairs place (0, None) pair c.loop-node-test.true in
    let stopped = err_from_is_err_and c.from_residual.result c.from_residual.ensures.1 in
    rw (stopped.1, stopped.2)
    (pairs-stops (target_at c.args.target c.args.circuit.now) pairs place pair _ c.loop-node-test.true is c.loop-node.invariant.allowed
    c.in_err-add_state.ensures.refused)

pub loop-node-preserved : goal.loop-node-preserved
loop-node-preserved c =
    let pairs = c.args.pairs.now in
    let place = c.loop-node.node-index in
    let pair : ℕ × Letter = get_or pairs place (0, None) in
    let is : pair ≡ get_or pairs place pair = get_or_default pairs place (0, None) pair c.loop-node-test.true in
    record {
      allowed = pairs-next (target_at c.args.target c.args.circuit.now) pairs place pair c.loop-node-test.true is
          c.in_ok-add_state.ensures.allowed ∙ c.loop-node.invariant.allowed;
      states = given-next c.loop-node.states.items (states_given (pair ∷ [])) c.add_state.new.states.items (states_given (drop place pairs))
          (states_given (drop (place + 1) pairs)) _ c.loop-node.invariant.states
          (states_given-next pairs place pair c.loop-node-test.true is) c.in_ok-add_state.ensures.states;
    }

pub returns-clause-allowed : goal.returns-clause-allowed
returns-clause-allowed c =
    sym c.loop-node.invariant.allowed
    ∙ ap (λ (left : List (ℕ × Letter)). given_refusal (target_at c.args.target c.args.circuit.now) (Ok left))
    (drop_all c.loop-node.node-index c.args.pairs.now (omega arith))
