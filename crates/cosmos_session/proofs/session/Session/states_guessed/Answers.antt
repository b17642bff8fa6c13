use Rattle.std.proofs.Common.{◌≡◌, ◌<◌, ℕ, List, All, None, refl, sym, subst}
use Rattle.std.proofs.lemmas.Result.{IfOk-weaker}
use Rattle.ternary.specs.declared.tern.Tern.{Tern}
use Rattle.switch_paths.specs.Graphs.{nodes}
use Rattle.session_meaning.specs.Refusals.{first_refusal, place_refusal}
use Rattle.session_meaning.proofs.ValueLemmas.{states-within}
use Rattle.session_meaning.proofs.StayingLemmas.{session_of}
use Rattle.cosmos_session.proofs.session.Session.states_guessed.Given.{Over}
use Rattle.cosmos_session.proofs.session.Session.states_guessed.Goals.{In_default}
use Rattle.cosmos_session.proofs.session.Session.states_guessed.Goals as goal

-- no place of a value is refused
none : (g : Over) (c : In_default g) → first_refusal (place_refusal (session_of c.self.invariant.0).core.circuit (session_of c.self.invariant.0).core.vectors) c.args.list.now ≡ None
none g c = sym (rw (c.in_default.is, c.items.ensures) at c.place_refusal.ensures)

pub returns-in-Some-clause-refused : goal.returns-in-Some-clause-refused
returns-in-Some-clause-refused g c = rw (← c.self.view_is, ← c.items.ensures, ← c.in-Some.ensures) refl

pub all_states-requires-clause-netlist : goal.all_states-requires-clause-netlist
all_states-requires-clause-netlist g c = c.self.invariant.0.core.ready.netlist

pub all_states-requires-clause-within : goal.all_states-requires-clause-within
all_states-requires-clause-within g c = c.self.invariant.0.core.vectors

pub returns-clause-allowed : goal.returns-clause-allowed
returns-clause-allowed g c =
    rw (← c.self.view_is, none g (goal.at.returns-clause-allowed g c).In_default) (rw c.items-2.ensures at c.all_states.ensures.allowed)

pub returns-clause-states : goal.returns-clause-states
returns-clause-states g c = rw (← c.self.view_is, ← c.items-2.ensures) c.all_states.ensures.states

pub returns-clause-within : goal.returns-clause-within
returns-clause-within g c =
    let core = (session_of c.self.invariant.0).core in
    let held = c.self.invariant.0.core in
    rw (← c.self.view_is)
    (IfOk-weaker c.all_states.result _ _
    (λ states same. subst (λ (list : List (ℕ × Tern)). All (λ (pair : ℕ × Tern). pair.0 < nodes core.circuit.graph) list) (sym same)
    (states-within core.circuit held.ready.netlist core.vectors held.vectors c.items-2.result.now)) c.all_states.ensures.states)

pub returns-clause-refused : goal.returns-clause-refused
returns-clause-refused g c =
    rw (← c.self.view_is, none g (goal.at.returns-clause-refused g c).In_default) (rw c.items-2.ensures at c.all_states.ensures.refused)
