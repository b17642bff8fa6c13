use Rattle.std.proofs.Common.{◌+◌, ◌≡◌, ◌<◌, ◌≤◌, [], length, sym, ap, subst, arith, append-nil}
use Rattle.line_words.specs.declared.files.TheConstants.{MOST_FILE_BYTES}
use Rattle.sim_read.specs.Standing.{ReaderData}
use Rattle.sim_read.proofs.StandingLemmas.{steps_too_far, steps_on}
use Rattle.sim_read.proofs.pieces.Reader.hold.Goals as goal

-- a reader that is seen as another has counted as many bytes
seen : {a b : ReaderData} → a ≡ b → a.bytes ≡ b.bytes
seen same = ap (λ (r : ReaderData). r.bytes) same

pub append-requires : goal.append-requires
append-requires c = omega (arith, seen c.self.view_is, c.count.ensures.space (subst (λ n. n ≤ MOST_FILE_BYTES) (seen c.self.view_is) c.if-self-gt-MOST_FILE_BYTES.false))

pub returns-then-self-gt-MOST_FILE_BYTES : goal.returns-then-self-gt-MOST_FILE_BYTES
returns-then-self-gt-MOST_FILE_BYTES c =
    let size : length c.args.part.now ≡ length c.args.part.now + 0 = omega arith in
    steps_too_far c.args.self.now c.count.new.self c.refuse_rest.new.self c.args.part.now c.args.part.now [] (length c.args.part.now)
    c.requires.open c.requires.unended (omega arith) (sym (append-nil c.args.part.now)) size c.count.ensures.counts
    (subst (λ n. MOST_FILE_BYTES < n) (seen c.self.view_is) c.if-self-gt-MOST_FILE_BYTES.true) c.refuse_rest.ensures

pub returns : goal.returns
returns c =
    steps_on c.args.self.now c.count.new.self c.append.new.self c.args.part.now c.requires.open c.requires.unended c.count.ensures.counts
    (subst (λ n. n ≤ MOST_FILE_BYTES) (seen c.self.view_is) c.if-self-gt-MOST_FILE_BYTES.false) c.in_ok-append.ensures
