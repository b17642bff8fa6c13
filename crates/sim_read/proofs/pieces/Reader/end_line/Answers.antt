use Rattle.std.proofs.Common.{◌∙◌, ◌+◌, ◌*◌, ◌≡◌, ◌<◌, ◌≤◌, ◌++◌, ◌∷◌, ℕ, [], length, take, refl, ap, subst, arith, length-append, length-take}
use Rattle.line_words.specs.Bytes.{line_feed}
use Rattle.line_words.specs.declared.files.TheConstants.{MOST_FILE_BYTES}
use Rattle.line_words.specs.declared.points.TheConstants.{MOST_THOUSANDTHS}
use Rattle.sim_read.specs.Capacitances.{all_added}
use Rattle.sim_read.specs.declared.pieces.TheConstants.{MOST_HELD}
use Rattle.sim_read.specs.Standing.{ReaderData}
use Rattle.sim_read.proofs.StandingLemmas.{steps_too_far, steps_past}
use Rattle.sim_read.proofs.pieces.Reader.end_line.Goals.{After-clear}
use Rattle.sim_read.proofs.pieces.Reader.end_line.Goals as goal

pub append-requires : goal.append-requires
append-requires c =
    let bytes : c.self.inside.bytes ≡ c.count.new.self.bytes = ap (λ (r : ReaderData). r.bytes) c.self.view_is in
    let space = c.count.ensures.space (subst (λ n. n ≤ MOST_FILE_BYTES) bytes c.if-self-gt-MOST_FILE_BYTES.false) in
    omega arith

pub returns-then-self-gt-MOST_FILE_BYTES : goal.returns-then-self-gt-MOST_FILE_BYTES
returns-then-self-gt-MOST_FILE_BYTES c =
    let bytes : c.self.inside.bytes ≡ c.count.new.self.bytes = ap (λ (r : ReaderData). r.bytes) c.self.view_is in
    steps_too_far c.args.self.now c.count.new.self c.refuse_rest.new.self _ c.args.part.now (line_feed ∷ []) (length c.args.part.now + 1)
    c.requires.open c.requires.unended (omega arith) refl refl c.count.ensures.counts
    (subst (λ n. MOST_FILE_BYTES < n) bytes c.if-self-gt-MOST_FILE_BYTES.true) c.refuse_rest.ensures

-- what the line added is bounded by the bytes that are let go
bounded : (c : After-clear) → (length c.clear.new.self.items ≤ MOST_HELD) × (c.self-2.inside.bytes ≤ MOST_FILE_BYTES + 1)
    × (c.self-2.inside.ended + 1 ≤ c.self-2.inside.bytes)
    × (4 * all_added c.read_held-read.new.draft.sums + MOST_THOUSANDTHS * length c.clear.new.self.items ≤ MOST_THOUSANDTHS * c.self-2.inside.bytes)
bounded c =
    let seen : c.self.inside.bytes ≡ c.count.new.self.bytes = ap (λ (r : ReaderData). r.bytes) c.self.view_is in
    let within = subst (λ n. n ≤ MOST_FILE_BYTES) seen c.if-self-gt-MOST_FILE_BYTES.false in
    let room = c.count.ensures.room within in
    let space = c.count.ensures.space within in
    let grows = c.self-2.view_is ∙ c.in_ok-append.ensures in
    let bytes : c.self-2.inside.bytes ≡ c.count.new.self.bytes = ap (λ (r : ReaderData). r.bytes) grows in
    let ended : c.self-2.inside.ended ≡ c.count.new.self.ended = ap (λ (r : ReaderData). r.ended) grows in
    let sums : all_added c.self-2.inside.draft.sums ≡ all_added c.count.new.self.draft.sums = ap (λ (r : ReaderData). all_added r.draft.sums) grows in
    let held : length c.deref.result.now ≡ length (take MOST_HELD (c.count.new.self.held ++ c.args.part.now)) =
    ap length c.deref.ensures.value ∙ ap (λ (r : ReaderData). length r.held) grows in
    let size : length c.deref.result.now ≤ length c.count.new.self.held + length c.args.part.now =
    omega (arith, held, length-take {A = ℕ}, length-append {A = ℕ}) in
    let bound = c.read_held-read.ensures.bound in
    let empty : length c.clear.new.self.items ≡ 0 = ap length c.clear.ensures.items in
    (omega arith, c.self-2.invariant.1, omega arith, omega arith)

pub invariant_of-self : goal.invariant_of-self
invariant_of-self c = bounded (goal.at.invariant_of-self c).After-clear

pub invariant_of-self-2 : goal.invariant_of-self-2
invariant_of-self-2 c = bounded (goal.at.invariant_of-self-2 c).After-clear

pub returns : goal.returns
returns c =
    let bytes : c.self.inside.bytes ≡ c.count.new.self.bytes = ap (λ (r : ReaderData). r.bytes) c.self.view_is in
    steps_past c.args.self.now c.count.new.self _ c.args.part.now c.deref.result.now c.clear.new.self.items c.read_held-read.new.draft c.in_ok-self-inside.field-0
    c.requires.open c.requires.unended c.count.ensures.counts
    (subst (λ n. n ≤ MOST_FILE_BYTES) bytes c.if-self-gt-MOST_FILE_BYTES.false)
    (c.self-2.view_is ∙ c.in_ok-append.ensures) c.deref.ensures.value c.clear.ensures.items c.in_ok-self-inside.ensures.reads
