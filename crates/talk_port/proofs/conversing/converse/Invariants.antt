-- The turns so far, and as many faults as ever.
use Rattle.std.proofs.Common.{◌≡◌}
use Rattle.talk_port.proofs.TalkLemmas.{SoFar}
use Rattle.talk_port.proofs.conversing.converse.Given as goal

abbrev pub invariant-loop : goal.invariant-loop
invariant-loop g l = record {
  so_far : SoFar g.S.Speaker.answers g.S.Speaker.quits (g.S.Speaker.mind l.initial.speaker) (g.S.Speaker.mind l.speaker) l.counter
      (g.T.Talk.talk l.initial.port) (g.T.Talk.talk l.port);
  unheard : g.T.Talk.unheard l.port ≡ g.T.Talk.unheard l.initial.port;
  faults : g.T.Talk.faults l.port ≡ g.T.Talk.faults l.initial.port;
}
