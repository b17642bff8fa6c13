use Rattle.std.proofs.Common.{◌≡◌, ℕ, List, Ok, Err, sym, subst}
use Rattle.std.specs.Prelude.{Result, OnOk, OnErr}
use Rattle.node_words.specs.declared.fault.VectorFault.{VectorFault}
use Rattle.node_words.specs.Vectors.{with_vector}
use Rattle.node_words.proofs.WithinLemmas.{with_vector-within}
use Rattle.session_meaning.specs.Sessions.{SessionData, IsSession}
use Rattle.session_meaning.proofs.StayingLemmas.{session_of}
use Rattle.session_meaning.proofs.ValueLemmas.{IsSession-vectors}
use Rattle.cosmos_session.proofs.session.Session.set_vector.Goals as goal

-- the data are a session's, whatever came of the words
stays : (core : SessionData) (name : List ℕ) (words : List (List ℕ)) (new : List (List ℕ × List ℕ)) (result : Result (Unit {0}) VectorFault) →
    OnOk result (new ≡ with_vector core.circuit core.vectors name words) → OnErr result (new ≡ core.vectors) → IsSession core →
    IsSession (record core { vectors = new })
stays core name words new (Ok done) ok err is =
    subst (λ (vectors : List (List ℕ × List ℕ)). IsSession (record core { vectors = vectors })) (sym ok)
    (IsSession-vectors core (with_vector core.circuit core.vectors name words)
    (with_vector-within core.circuit is.ready.netlist core.vectors is.vectors name words) is)
stays core name words new (Err fault) ok err is =
    subst (λ (vectors : List (List ℕ × List ℕ)). IsSession (record core { vectors = vectors })) (sym err) is

pub invariant_of-self : goal.invariant_of-self
invariant_of-self g c =
    let held = c.self.invariant.0 in (
      record {
        core = stays (session_of held).core c.items.result.now c.items-2.result.now c.define.new.self c.define.result c.define.ensures.ok c.define.ensures.err
            held.core;
        some = held.some;
        sound = held.sound;
        same = held.same;
        served = held.served;
      },
      c.self.invariant.1,
    )
