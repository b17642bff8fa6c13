-- Where one node alone is given a state, that is the only letter; else each of the letters is looked at.
use Rattle.std.proofs.Common.{◌≡◌, ◌<◌, ◌++◌, ◌∙◌, ℕ, List, [], ◌∷◌, None, Some, Ok, OnOk, Result, sym, ap, subst}
use Rattle.std.specs.Prelude.{IfErr}
use Rattle.std.proofs.lemmas.List.Elements.{All-head}
use Rattle.std.proofs.lemmas.Result.{err_from_is_err_and}
use Rattle.switch_paths.specs.Graphs.{nodes}
use Rattle.vector_values.specs.Values.{Letter}
use Rattle.node_values.specs.declared.fault.GivenFault.{GivenFault}
use Rattle.node_values.specs.Givings.{states_given}
use Rattle.session_meaning.specs.Refusals.{given_refusal}
use Rattle.session_meaning.specs.Effects.{letters_in}
use Rattle.session_meaning.specs.Preparing.{IsFaultFor}
use Rattle.session_meaning.proofs.ValueLemmas.{given-within}
use Rattle.cosmos_session.specs.Targets.{target_at}
use Rattle.cosmos_session.proofs.values.add_given.Goals as goal

pub add_state-requires : goal.add_state-requires
add_state-requires c =
    let circuit = c.args.circuit.now in
    let pair : ℕ × Letter = (c.in-Some.node, Some c.in-Some.state) in
    All-head (λ (one : ℕ × Letter). one.0 < nodes circuit.graph) pair []
    (given-within circuit c.requires.netlist c.args.vectors.now c.requires.within (c.args.name.now, c.args.value.now) (pair ∷ []) c.in-Some.ensures)

pub returns-in-Some-clause-allowed : goal.returns-in-Some-clause-allowed
returns-in-Some-clause-allowed c =
    subst (λ (letters : Result (List (ℕ × Letter)) GivenFault). OnOk c.add_state.result
    (given_refusal (target_at c.args.target c.args.circuit.now) letters ≡ None)) (sym c.in-Some.ensures) c.add_state.ensures.allowed

pub returns-in-Some-clause-states : goal.returns-in-Some-clause-states
returns-in-Some-clause-states c =
    subst (λ (letters : Result (List (ℕ × Letter)) GivenFault). OnOk c.add_state.result
    (c.add_state.new.states.items ≡ c.args.states.now.items ++ states_given (letters_in letters))) (sym c.in-Some.ensures) c.add_state.ensures.states

pub returns-in-Some-clause-refused : goal.returns-in-Some-clause-refused
returns-in-Some-clause-refused c =
    subst (λ (letters : Result (List (ℕ × Letter)) GivenFault). IfErr c.add_state.result
    (IsFaultFor (given_refusal (target_at c.args.target c.args.circuit.now) letters))) (sym c.in-Some.ensures) c.add_state.ensures.refused

pub returns-in_err-pairs-clause-refused : goal.returns-in_err-pairs-clause-refused
returns-in_err-pairs-clause-refused c =
    let stopped = err_from_is_err_and c.from_residual.result c.from_residual.ensures.1 in
    rw (stopped.1, stopped.2) (c.in_err-pairs.ensures.refused (target_at c.args.target c.args.circuit.now))

pub add_states-requires : goal.add_states-requires
add_states-requires c =
    record {
      within = rw c.deref.ensures.value
          (given-within c.args.circuit.now c.requires.netlist c.args.vectors.now c.requires.within (c.args.name.now, c.args.value.now)
          c.in_ok-pairs.pairs.items c.in_ok-pairs.ensures.ok);
    }

pub returns-clause-allowed : goal.returns-clause-allowed
returns-clause-allowed c =
    subst (λ (letters : Result (List (ℕ × Letter)) GivenFault). OnOk c.add_states.result
    (given_refusal (target_at c.args.target c.args.circuit.now) letters ≡ None))
    (ap Ok c.deref.ensures.value ∙ sym c.in_ok-pairs.ensures.ok) c.add_states.ensures.allowed

pub returns-clause-states : goal.returns-clause-states
returns-clause-states c =
    subst (λ (letters : Result (List (ℕ × Letter)) GivenFault). OnOk c.add_states.result
    (c.add_states.new.states.items ≡ c.args.states.now.items ++ states_given (letters_in letters)))
    (ap Ok c.deref.ensures.value ∙ sym c.in_ok-pairs.ensures.ok) c.add_states.ensures.states

pub returns-clause-refused : goal.returns-clause-refused
returns-clause-refused c =
    subst (λ (letters : Result (List (ℕ × Letter)) GivenFault). IfErr c.add_states.result
    (IsFaultFor (given_refusal (target_at c.args.target c.args.circuit.now) letters)))
    (ap Ok c.deref.ensures.value ∙ sym c.in_ok-pairs.ensures.ok) c.add_states.ensures.refused
