use Rattle.std.proofs.Common.{◌≡◌, ◌≤◌, ◌<◌, ◌++◌, ◌∙◌, ℕ, List, Vec, Global, Option, Some, IfSome, length, refl, sym, ap, subst, arith, length-append}
use Rattle.std.proofs.lemmas.List.Elements.{All-append}
use Rattle.switch_paths.specs.Graphs.{nodes}
use Rattle.session_meaning.specs.declared.TheConstants.{MOST_WATCHED}
use Rattle.session_meaning.specs.Sessions.{IsSession}
use Rattle.session_meaning.specs.Refusals.{all_named}
use Rattle.session_meaning.proofs.StayingLemmas.{session_of}
use Rattle.session_meaning.proofs.ItemLemmas.{watch-allowed}
use Rattle.session_meaning.proofs.ValueLemmas.{IsSession-watched, names-within}
use Rattle.cosmos_session.proofs.session.Session.watch.Goals as goal

-- the nodes that were found
named_some : (found : Option (Vec ℕ Global)) (list : Vec ℕ Global) (all : List ℕ) → found ≡ Some list → IfSome found (λ one. one.items ≡ all) →
    list.items ≡ all
named_some found list all is named = subst (λ (one : Option (Vec ℕ Global)). IfSome one (λ (two : Vec ℕ Global). two.items ≡ all)) is named

-- they are few
few_some : (found : Option (Vec ℕ Global)) (list : Vec ℕ Global) (most : ℕ) → found ≡ Some list → IfSome found (λ one. length one.items ≤ most) →
    length list.items ≤ most
few_some found list most is few = subst (λ (one : Option (Vec ℕ Global)). IfSome one (λ (two : Vec ℕ Global). length two.items ≤ most)) is few

pub returns-in-Some-clause-quiet : goal.returns-in-Some-clause-quiet
returns-in-Some-clause-quiet g c = (rw (← c.self.view_is, ← c.items.ensures, ← c.in-Some.ensures) refl, refl)

pub invariant_of-self-2 : goal.invariant_of-self-2
invariant_of-self-2 g c =
    let core = (session_of c.self.invariant.0).core in
    let held = c.self.invariant.0 in
    let more = c.in-Some-found.nodes.items in
    let named : more ≡ all_named core.circuit core.vectors c.args.names.now =
    rw c.items-2.ensures at (named_some _ c.in-Some-found.nodes _ c.in-Some-found.is c.in_ok-found.ensures.some) in
    let watched : c.extend_from_slice.new.self.items ≡ core.watched ++ more = rw c.deref.ensures.value at c.in_ok-extend_from_slice.ensures.items in
    let inside = names-within core.circuit held.core.ready.netlist core.vectors held.core.vectors c.args.names.now in
    let few : length (core.watched ++ more) ≤ MOST_WATCHED =
    let most = few_some _ c.in-Some-found.nodes _ c.in-Some-found.is c.in_ok-found.ensures.few in
    let before = held.core.few in
    omega (arith, length-append core.watched more, most, before, c.len-left.ensures, c.self.inside.watched.ok.0) in (
      record {
        core = subst (λ (all : List ℕ). IsSession (record core { watched = all })) (sym watched)
            (IsSession-watched core (core.watched ++ more)
            (All-append (λ (node : ℕ). node < nodes core.circuit.graph) core.watched more held.core.watched (rw named inside)) few held.core);
        some = held.some;
        sound = held.sound;
        same = held.same;
        served = held.served;
      },
      c.self.invariant.1,
    )

pub returns-clause-quiet : goal.returns-clause-quiet
returns-clause-quiet g c =
    let core = (session_of c.self.invariant.0).core in
    let more = c.in-Some-found.nodes.items in
    let named : more ≡ all_named core.circuit core.vectors c.args.names.now =
    rw c.items-2.ensures at (named_some _ c.in-Some-found.nodes _ c.in-Some-found.is c.in_ok-found.ensures.some) in
    let watched : c.extend_from_slice.new.self.items ≡ core.watched ++ more = rw c.deref.ensures.value at c.in_ok-extend_from_slice.ensures.items in
    let few = few_some _ c.in-Some-found.nodes _ c.in-Some-found.is c.in_ok-found.ensures.few in
    let before = c.self.invariant.0.core.few in
    rw (← c.self.view_is) (record {
      allowed = watch-allowed _ (length core.watched) (length (all_named core.circuit core.vectors c.args.names.now))
          (sym (rw (c.in_default.is, c.items.ensures) at c.known_refusal.ensures))
          (rw (← named) (omega (arith, few, before, c.len-left.ensures, c.self.inside.watched.ok.0)));
      effect = (ap (λ (all : List ℕ). record core { watched = all }) (watched ∙ ap (λ (all : List ℕ). core.watched ++ all) named), refl);
    })
