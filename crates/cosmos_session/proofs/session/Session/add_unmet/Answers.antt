use Rattle.std.proofs.Common.{◌≡◌, ◌<◌, ℕ, List, All, None, Ok, subst}
use Rattle.std.proofs.lemmas.Result.{err_from_is_err_and}
use Rattle.vector_values.specs.Values.{Letter}
use Rattle.script_lang.specs.declared.value.Value.{Value}
use Rattle.switch_paths.specs.Graphs.{nodes}
use Rattle.node_values.specs.Givings.{letters_given}
use Rattle.session_meaning.specs.Sessions.{HeldSession}
use Rattle.session_meaning.specs.Refusals.{given_refusal, none_at}
use Rattle.session_meaning.proofs.StayingLemmas.{session_of}
use Rattle.session_meaning.proofs.ItemLemmas.{letters_allowed}
use Rattle.session_meaning.proofs.LineLemmas.{unmet_put}
use Rattle.session_meaning.proofs.ValueLemmas.{given-within}
use Rattle.cosmos_session.proofs.ItemLemmas.{session_stops}
use Rattle.cosmos_session.proofs.session.Session.add_unmet.Goals as goal

pub returns-in_err-pairs-clause-refused : goal.returns-in_err-pairs-clause-refused
returns-in_err-pairs-clause-refused g c =
    let stopped = err_from_is_err_and c.from_residual.result c.from_residual.ensures.1 in
    rw (stopped.1, stopped.2)
    (session_stops none_at (session_of c.self.invariant.0) c.args.self.now (c.args.name.now, c.args.value.now) _ c.self.view_is
    (c.in_err-pairs.ensures.refused none_at))

pub unmet-requires : goal.unmet-requires
unmet-requires g c =
    let core = (session_of c.self.invariant.0).core in
    let held = c.self.invariant.0.core in
    rw (c.deref.ensures.value)
    (subst (λ (s : HeldSession _). All (λ (pair : ℕ × Letter). pair.0 < nodes s.core.circuit.graph) c.in_ok-pairs.pairs.items) c.self.view_is
    (given-within core.circuit held.ready.netlist core.vectors held.vectors (c.args.name.now, c.args.value.now) c.in_ok-pairs.pairs.items
    c.in_ok-pairs.ensures.ok))

pub returns-clause-allowed : goal.returns-clause-allowed
returns-clause-allowed g c =
    let session = session_of c.self.invariant.0 in
    let item : List ℕ × Value = (c.args.name.now, c.args.value.now) in
    subst (λ (s : HeldSession _). given_refusal none_at (letters_given s.core.circuit s.core.vectors item) ≡ None) c.self.view_is
    (letters_allowed (letters_given session.core.circuit session.core.vectors item) c.in_ok-pairs.pairs.items c.in_ok-pairs.ensures.ok)

pub returns-clause-lines : goal.returns-clause-lines
returns-clause-lines g c =
    let core = c.args.self.now.core in
    let given : letters_given core.circuit core.vectors (c.args.name.now, c.args.value.now) ≡ Ok c.in_ok-pairs.pairs.items =
    subst (λ (s : HeldSession _). letters_given s.core.circuit s.core.vectors (c.args.name.now, c.args.value.now) ≡ Ok c.in_ok-pairs.pairs.items)
    c.self.view_is c.in_ok-pairs.ensures.ok in
    unmet_put core (c.args.name.now, c.args.value.now) c.in_ok-pairs.pairs.items c.in_ok-line.line c.args.lines.now.items c.put_line.new.lines.items
    given (rw c.deref.ensures.value at c.in_ok-line.ensures) c.in_ok-put_line.ensures
