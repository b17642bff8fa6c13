use Rattle.std.proofs.Common.{length, take, ◌-◌, ◌≡◌, ◌≤◌}
use Rattle.std.specs.Io.KnownBytes.{append_known}
use Rattle.ports.proofs.sending.send.Given as goal

abbrev pub invariant-loop-at : goal.invariant-loop-at
invariant-loop-at g l = record {
  within : l.at ≤ length l.text;
  grew : g.S.Sink.written l.out ≡ append_known (g.S.Sink.written l.initial.out) (take l.at l.text);
  faults : g.S.Sink.faults l.out ≡ g.S.Sink.faults l.initial.out;
  refusals : g.S.Sink.refusals l.out ≡ g.S.Sink.refusals l.initial.out;
  untouched : l.at ≡ 0 → l.out ≡ l.initial.out;
}

abbrev pub decreases-loop-at : goal.decreases-loop-at
decreases-loop-at g l = length l.text - l.at
