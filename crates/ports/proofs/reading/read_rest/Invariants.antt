use Rattle.std.proofs.Common.{◌+◌, ◌-◌, ◌≡◌, ◌≤◌, false, cond, vec_len}
use Rattle.std.specs.Io.KnownBytes.{prepend_known, IsAtEnd}
use Rattle.ports.specs.Taken.{with_more}
use Rattle.ports.proofs.reading.read_rest.Given as goal

abbrev pub invariant-loop-more : goal.invariant-loop-more
invariant-loop-more g l = record {
  taken : g.F.Files.rest l.initial.files ≡ prepend_known l.bytes.items (g.F.Files.rest l.files);
  bound : vec_len l.bytes ≤ l.most;
  at_end : l.more ≡ false → IsAtEnd (g.F.Files.rest l.files);
  holds : g.F.Files.holds l.files ≡ g.F.Files.holds l.initial.files;
  started : g.F.Files.started l.files ≡ g.F.Files.started l.initial.files;
  counted : g.F.Files.taken l.files ≡ with_more (g.F.Files.taken l.initial.files) (vec_len l.bytes);
  faults : g.F.Files.faults l.files ≡ g.F.Files.faults l.initial.files;
}

abbrev pub decreases-loop-more : goal.decreases-loop-more
decreases-loop-more g l = l.most - vec_len l.bytes + cond l.more 1 0
