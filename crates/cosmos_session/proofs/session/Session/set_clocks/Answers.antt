use Rattle.std.proofs.Common.{refl, sym}
use Rattle.session_meaning.proofs.StayingLemmas.{session_of}
use Rattle.session_meaning.proofs.RefusalLemmas.{or_else-none, set_known}
use Rattle.session_meaning.proofs.ClockLemmas.{IsSession-clocks}
use Rattle.cosmos_session.proofs.session.Session.set_clocks.Goals as goal

pub returns-in-Some-clause-quiet : goal.returns-in-Some-clause-quiet
returns-in-Some-clause-quiet g c = (rw (← c.self.view_is, ← c.items.ensures) (sym c.in-Some.ensures), refl)

pub named_clocks-requires : goal.named_clocks-requires
named_clocks-requires g c =
    let allowed = or_else-none _ _ (sym (rw (c.in_default.is, c.items.ensures) at c.clocks_refusal.ensures)) in
    rw c.items-2.ensures (set_known c.self.inside.circuit c.args.list.now allowed.1)

pub invariant_of-self : goal.invariant_of-self
invariant_of-self g c =
    let session = session_of c.self.invariant.0 in
    let allowed = or_else-none _ _ (sym (rw (c.in_default.is, c.items.ensures) at c.clocks_refusal.ensures)) in (
      record {
        core = IsSession-clocks session.core c.args.list.now _ c.requires allowed.0 allowed.1
            (rw c.items-2.ensures at c.in_ok-self-inside.ensures.items) c.in_ok-self-inside.ensures.within c.self.invariant.0.core;
        some = c.self.invariant.0.some;
        sound = c.self.invariant.0.sound;
        same = c.self.invariant.0.same;
        served = c.self.invariant.0.served;
      },
      c.self.invariant.1,
    )
