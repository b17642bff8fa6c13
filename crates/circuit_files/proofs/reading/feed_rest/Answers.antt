-- What was fed so far, and at the end: the file's front.
use Rattle.std.proofs.Common.{◌≡◌, ◌≤◌, ◌+◌, ◌-◌, ◌∙◌, refl, arith}
use Rattle.line_words.specs.declared.files.TheConstants.{MOST_FILE_BYTES}
use Rattle.circuit_files.proofs.FeedingLemmas.{fed-front, fed-more, fed-none, fed-stopped, fed-taken}
use Rattle.circuit_files.proofs.reading.feed_rest.Goals as goal

pub loop-left-init : goal.loop-left-init
loop-left-init g c = record {
  fed = fed-none (g.F.Files.rest c.args.files.now) (g.F.Files.taken c.args.files.now) c.args.reader.now;
  bound = omega arith;
  holds = refl;
  started = refl;
  faults = refl;
}

pub returns-in_err-count-clause-taken : goal.returns-in_err-count-clause-taken
returns-in_err-count-clause-taken g c =
    let bound = c.loop-left.invariant.bound in
    fed-stopped (g.F.Files.rest c.args.files.now) (g.F.Files.rest c.loop-left.files) (g.F.Files.taken c.args.files.now) (g.F.Files.taken c.loop-left.files)
    (g.F.Files.taken c.feed_piece.new.files) c.args.reader.now c.loop-left.reader (MOST_FILE_BYTES + 1 - c.loop-left.left) c.loop-left.left (MOST_FILE_BYTES + 1)
    c.loop-left.invariant.fed (omega arith) c.feed_piece.ensures.taken

pub returns-then-count-eq0-clause-fed : goal.returns-then-count-eq0-clause-fed
returns-then-count-eq0-clause-fed g c =
    let bound : MOST_FILE_BYTES + 1 - c.loop-left.left ≤ MOST_FILE_BYTES + 1 = omega arith in
    let sum : MOST_FILE_BYTES + 1 - c.loop-left.left ≡ MOST_FILE_BYTES + 1 - c.loop-left.left + c.in_ok-count.count =
    let none = c.if-count-eq0.true in omega arith in
    fed-front (g.F.Files.rest c.args.files.now) (g.F.Files.rest c.feed_piece.new.files) (g.F.Files.taken c.args.files.now)
    (g.F.Files.taken c.feed_piece.new.files) c.args.reader.now c.feed_piece.new.reader (MOST_FILE_BYTES + 1 - c.loop-left.left) (MOST_FILE_BYTES + 1)
    (fed-more (g.F.Files.rest c.args.files.now) (g.F.Files.rest c.loop-left.files) (g.F.Files.rest c.feed_piece.new.files)
    (g.F.Files.taken c.args.files.now) (g.F.Files.taken c.loop-left.files) (g.F.Files.taken c.feed_piece.new.files)
    c.args.reader.now c.loop-left.reader c.feed_piece.new.reader (MOST_FILE_BYTES + 1 - c.loop-left.left) c.in_ok-count.count (MOST_FILE_BYTES + 1 - c.loop-left.left)
    c.loop-left.invariant.fed c.in_ok-count.ensures.fed c.in_ok-count.ensures.counted sum)
    bound (λ fewer. c.in_ok-count.ensures.fed.none c.if-count-eq0.true)

pub returns-then-count-eq0-clause-taken : goal.returns-then-count-eq0-clause-taken
returns-then-count-eq0-clause-taken g c =
    let bound = c.loop-left.invariant.bound in
    fed-stopped (g.F.Files.rest c.args.files.now) (g.F.Files.rest c.loop-left.files) (g.F.Files.taken c.args.files.now) (g.F.Files.taken c.loop-left.files)
    (g.F.Files.taken c.feed_piece.new.files) c.args.reader.now c.loop-left.reader (MOST_FILE_BYTES + 1 - c.loop-left.left) c.loop-left.left (MOST_FILE_BYTES + 1)
    c.loop-left.invariant.fed (omega arith) c.in_ok-count.ensures.taken

pub loop-left-preserved : goal.loop-left-preserved
loop-left-preserved g c =
    let bound = c.loop-left.invariant.bound in
    let few = c.in_ok-count.ensures.bound in
    let sum : MOST_FILE_BYTES + 1 - (c.loop-left.left - c.in_ok-count.count) ≡ MOST_FILE_BYTES + 1 - c.loop-left.left + c.in_ok-count.count = omega arith in
    record {
      fed = fed-more (g.F.Files.rest c.args.files.now) (g.F.Files.rest c.loop-left.files) (g.F.Files.rest c.feed_piece.new.files)
          (g.F.Files.taken c.args.files.now) (g.F.Files.taken c.loop-left.files) (g.F.Files.taken c.feed_piece.new.files)
          c.args.reader.now c.loop-left.reader c.feed_piece.new.reader (MOST_FILE_BYTES + 1 - c.loop-left.left) c.in_ok-count.count
          (MOST_FILE_BYTES + 1 - (c.loop-left.left - c.in_ok-count.count))
          c.loop-left.invariant.fed c.in_ok-count.ensures.fed c.in_ok-count.ensures.counted sum;
      bound = omega arith;
      holds = c.in_ok-count.ensures.holds ∙ c.loop-left.invariant.holds;
      started = c.in_ok-count.ensures.started ∙ c.loop-left.invariant.started;
      faults = c.in_ok-count.ensures.read ∙ c.loop-left.invariant.faults;
    }

pub returns-clause-taken : goal.returns-clause-taken
returns-clause-taken g c =
    let bound : MOST_FILE_BYTES + 1 - c.loop-left.left ≤ MOST_FILE_BYTES + 1 = omega arith in
    fed-taken (g.F.Files.rest c.args.files.now) (g.F.Files.rest c.loop-left.files) (g.F.Files.taken c.args.files.now) (g.F.Files.taken c.loop-left.files)
    c.args.reader.now c.loop-left.reader (MOST_FILE_BYTES + 1 - c.loop-left.left) (MOST_FILE_BYTES + 1) c.loop-left.invariant.fed bound
