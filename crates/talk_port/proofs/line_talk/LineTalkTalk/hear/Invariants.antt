-- What was heard of the line so far; nothing was said.
use Rattle.std.proofs.Common.{◌≡◌}
use Rattle.talk_port.proofs.LineTalkLemmas.{HeardSoFar}
use Rattle.talk_port.proofs.line_talk.LineTalkTalk.hear.Given as goal

abbrev pub invariant-loop : goal.invariant-loop
invariant-loop g l = record {
  so_far : HeardSoFar l.fn.self.left l.self.left l.some l.line.items;
  behind : l.self.behind ≡ l.fn.self.behind;
  handed : l.self.handed ≡ l.fn.self.handed;
  contents : l.self.contents ≡ l.fn.self.contents;
  unheard : l.self.unheard ≡ l.fn.self.unheard;
  faults : l.self.faults ≡ l.fn.self.faults;
  refusals : l.self.refusals ≡ l.fn.self.refusals;
}
