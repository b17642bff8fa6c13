use Rattle.std.proofs.Common.{◌≡◌, ℕ, List, refl, sym, subst}
use Rattle.ternary.specs.declared.tern.Tern.{Tern}
use Rattle.switch_paths.specs.Graphs.{nodes}
use Rattle.session_meaning.specs.Saves.{FitsSave, with_save}
use Rattle.session_meaning.specs.Sessions.{IsSession}
use Rattle.session_meaning.proofs.StayingLemmas.{session_of}
use Rattle.session_meaning.proofs.SaveLemmas.{IsSession-saves, with_save-fits, fits-present}
use Rattle.cosmos_session.proofs.session.Session.save.Goals as goal

pub returns-in-Some-clause-quiet : goal.returns-in-Some-clause-quiet
returns-in-Some-clause-quiet g c = (rw (← c.self.view_is) (sym (rw (c.items.ensures, c.deref.ensures.value) at c.in-Some.ensures)), refl)

pub invariant_of-self-2 : goal.invariant_of-self-2
invariant_of-self-2 g c =
    let core = (session_of c.self.invariant.0).core in
    let held = c.self.invariant.0 in
    let name = c.in_ok-name.name in
    let state = c.in_ok-state.state in
    let same : state ≡ core.state = rw c.column.ensures.value at c.in_ok-state.ensures in
    let fits : FitsSave (nodes core.circuit.graph) state = subst (FitsSave (nodes core.circuit.graph)) (sym same) (fits-present core held.core.ready) in
    let saved : c.put_save.new.saves.items ≡ with_save core.saves name state = c.in_ok-put_save.ensures.ok in (
      record {
        core = subst (λ (saves : List (List ℕ × List Tern)). IsSession (record core { saves = saves })) (sym saved)
            (IsSession-saves core (with_save core.saves name state)
            (with_save-fits (nodes core.circuit.graph) core.saves name state held.core.ready.saved fits) held.core);
        some = held.some;
        sound = held.sound;
        same = held.same;
        served = held.served;
      },
      c.self.invariant.1,
    )
