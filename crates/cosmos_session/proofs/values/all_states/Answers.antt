use Rattle.std.proofs.Common.{◌≡◌, ◌+◌, ◌++◌, ◌∙◌, ℕ, List, None, drop, sym, ap, arith}
use Rattle.std.proofs.lemmas.List.{drop_all}
use Rattle.std.proofs.lemmas.Result.{err_from_is_err_and}
use Rattle.script_lang.specs.declared.value.Value.{Value}
use Rattle.node_values.specs.Givings.{letters_given, states_given}
use Rattle.session_meaning.specs.Refusals.{first_refusal, given_refusal}
use Rattle.session_meaning.specs.Effects.{letters_in, states_by}
use Rattle.session_meaning.proofs.ItemLemmas.{given-end, given-next, refusal-next, refusal-stops, states_by-next}
use Rattle.cosmos_session.specs.Targets.{target_at}
use Rattle.cosmos_session.proofs.ItemLemmas.{item_stops, of_item}
use Rattle.cosmos_session.proofs.values.all_states.Goals as goal

pub returns-in_err-add_given-clause-refused : goal.returns-in_err-add_given-clause-refused
returns-in_err-add_given-clause-refused c =
    let stopped = err_from_is_err_and c.from_residual-in_err-add_given.result c.from_residual-in_err-add_given.ensures.1 in
    let refusal = λ (one : List ℕ × Value). given_refusal (target_at c.args.target c.args.circuit.now) (letters_given c.args.circuit.now c.args.vectors.now one) in
    rw (stopped.1, stopped.2)
    (refusal-stops refusal c.args.list.now c.loop-name.name-index c.loop-name-item.result _ (omega arith) c.loop-name-item.is
    c.loop-name.invariant.allowed
    (item_stops refusal c.loop-name-item.result c.items.result.now _ c.items.ensures c.in_err-add_given.ensures.refused))

pub loop-name-preserved : goal.loop-name-preserved
loop-name-preserved c =
    let circuit = c.args.circuit.now in
    let vectors = c.args.vectors.now in
    let at = target_at c.args.target circuit in
    let list = c.args.list.now in
    let place = c.loop-name.name-index in
    let item = c.loop-name-item.result in
    let given = λ (one : List ℕ × Value). states_given (letters_in (letters_given circuit vectors one)) in
    let none : given_refusal at (letters_given circuit vectors item) ≡ None =
    of_item (λ (one : List ℕ × Value). given_refusal at (letters_given circuit vectors one) ≡ None) item c.items.result.now c.items.ensures
    c.in_ok-add_given.ensures.allowed in
    record {
      allowed = refusal-next (λ (one : List ℕ × Value). given_refusal at (letters_given circuit vectors one)) list place item (omega arith)
          c.loop-name-item.is none ∙ c.loop-name.invariant.allowed;
      states = given-next c.loop-name.states.items (given item) c.add_given.new.states.items (states_by circuit vectors (drop place list))
          (states_by circuit vectors (drop (place + 1) list)) (states_by circuit vectors list) c.loop-name.invariant.states
          (states_by-next circuit vectors list place item (omega arith) c.loop-name-item.is)
          (of_item (λ (one : List ℕ × Value). c.add_given.new.states.items ≡ c.loop-name.states.items ++ given one) item c.items.result.now c.items.ensures
          c.in_ok-add_given.ensures.states);
    }

pub returns-clause-allowed : goal.returns-clause-allowed
returns-clause-allowed c =
    let at = target_at c.args.target c.args.circuit.now in
    sym c.loop-name.invariant.allowed
    ∙ ap (first_refusal (λ (one : List ℕ × Value). given_refusal at (letters_given c.args.circuit.now c.args.vectors.now one)))
    (drop_all c.loop-name.name-index c.args.list.now (omega arith))

pub returns-clause-states : goal.returns-clause-states
returns-clause-states c =
    given-end c.loop-name.states.items _ _ c.loop-name.invariant.states
    (ap (states_by c.args.circuit.now c.args.vectors.now) (drop_all c.loop-name.name-index c.args.list.now (omega arith)))
