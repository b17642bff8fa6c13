use Rattle.std.proofs.Common.{◌≡◌, ◌≤◌, ◌+◌, ◌-◌}
use Rattle.line_words.specs.declared.files.TheConstants.{MOST_FILE_BYTES}
use Rattle.circuit_files.proofs.FeedingLemmas.{Fed}
use Rattle.circuit_files.proofs.reading.feed_rest.Given as goal

abbrev pub invariant-loop-left : goal.invariant-loop-left
invariant-loop-left g l = record {
  fed : Fed (g.F.Files.rest l.initial.files) (g.F.Files.rest l.files) (g.F.Files.taken l.initial.files) (g.F.Files.taken l.files)
      l.initial.reader l.reader (MOST_FILE_BYTES + 1 - l.left);
  bound : l.left ≤ MOST_FILE_BYTES + 1;
  holds : g.F.Files.holds l.files ≡ g.F.Files.holds l.initial.files;
  started : g.F.Files.started l.files ≡ g.F.Files.started l.initial.files;
  faults : g.F.Files.faults l.files ≡ g.F.Files.faults l.initial.files;
}

abbrev pub decreases-loop-left : goal.decreases-loop-left
decreases-loop-left g l = l.left
