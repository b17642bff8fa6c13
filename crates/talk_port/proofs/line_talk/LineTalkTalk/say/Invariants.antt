-- The prefix so far was said.
use Rattle.std.proofs.Common.{◌≡◌, ◌≤◌, ◌-◌, length, take}
use Rattle.std.specs.Io.KnownBytes.{Appends}
use Rattle.talk_port.proofs.line_talk.LineTalkTalk.say.Given as goal

abbrev pub invariant-loop-at : goal.invariant-loop-at
invariant-loop-at g l = record {
  inside : l.at ≤ length l.piece;
  said : Appends l.fn.self.contents l.self.contents (take l.at l.piece);
  left : l.self.left ≡ l.fn.self.left;
  unheard : l.self.unheard ≡ l.fn.self.unheard;
  faults : l.self.faults ≡ l.fn.self.faults;
  refusals : l.self.refusals ≡ l.fn.self.refusals;
}

abbrev pub decreases-loop-at : goal.decreases-loop-at
decreases-loop-at g l = length l.piece - l.at
