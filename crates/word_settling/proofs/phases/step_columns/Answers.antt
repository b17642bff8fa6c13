-- In each column one step more, the step that changes no column, and the limit.
use Rattle.std.proofs.Common.{◌≡◌, ℕ, ◌<◌, get_or, refl, ap, ◌∙◌, arith}
use Rattle.word_columns.specs.Columns.{is_in_column}
use Rattle.column_settling.proofs.GoingLemmas.{Going-start, Going-rests, Going-ends}
use Rattle.word_settling.proofs.CountLemmas.{Going-counts, within-counts, unjoined-counts, zero_bits}
use Rattle.word_settling.proofs.phases.step_columns.Goals as goal

pub loop-taken-init : goal.loop-taken-init
loop-taken-init g c = record {
  fits = λ fits. fits;
  columns = refl;
  nodes = λ column inside. refl;
  going = λ fits column past inside.
      let none = c.requires.none column past (omega (arith, inside, c.requires.places)) in
      rw none (Going-start c.args.graph.now c.args.limit (g.M.WordStepper.state c.args.m.now column));
  within = λ column past inside.
      let none = c.requires.none column past (omega (arith, inside, c.requires.places)) in
      rw none (omega arith);
  unjoined = λ column past inside.
      let none = c.requires.none column past (omega (arith, inside, c.requires.places)) in
      rw none refl;
}

pub count_all-requires-clause-room : goal.count_all-requires-clause-room
count_all-requires-clause-room g c column past inside =
    omega (arith, c.loop-taken.invariant.within column past (omega (arith, inside, c.requires.places, c.loop-taken.auto.out)), c.requires.high, c.loop-taken-test.true)

pub loop-taken-preserved : goal.loop-taken-preserved
loop-taken-preserved g c =
    let loop = c.loop-taken in
    let step = c.step-changed.ensures in
    let now = g.M.WordStepper.state loop.m in
    let next = g.M.WordStepper.state c.step-changed.new.self in
    let bit = λ (column : ℕ). is_in_column column c.step-changed.result in
    record {
      fits = λ fits. step.fits (loop.invariant.fits fits);
      columns = step.columns ∙ loop.invariant.columns;
      nodes = λ column inside. step.nodes column (omega (arith, inside, loop.invariant.columns)) ∙ loop.invariant.nodes column inside;
      going = λ fits column past inside.
          let own : column < g.M.WordStepper.columns loop.m = omega (arith, inside, loop.invariant.columns) in
          Going-counts (bit column) (now column) (next column) c.args.graph.now c.args.limit loop._taken (g.M.WordStepper.state c.args.m.now column)
          (get_or loop.out column past) (get_or c.count_all.new.out column past) (c.count_all.ensures column past (omega (arith, inside, c.requires.places, loop.auto.out)))
          c.loop-taken-test.true (step.changed column own) (step.same column own) (loop.invariant.going fits column past inside)
          (step.step (loop.invariant.fits fits) column own);
      within = λ column past inside. within-counts (bit column) (get_or loop.out column past) (get_or c.count_all.new.out column past) loop._taken
          (c.count_all.ensures column past (omega (arith, inside, c.requires.places, loop.auto.out))) (loop.invariant.within column past inside);
      unjoined = λ column past inside. unjoined-counts (bit column) (get_or loop.out column past) (get_or c.count_all.new.out column past)
          (c.count_all.ensures column past (omega (arith, inside, c.requires.places, loop.auto.out))) (loop.invariant.unjoined column past inside);
    }

pub returns-then-changed-eq0-clause-stepping : goal.returns-then-changed-eq0-clause-stepping
returns-then-changed-eq0-clause-stepping g c fits column past inside =
    let loop = c.loop-taken in
    let graph = c.args.graph.now in
    let now = g.M.WordStepper.state loop.m column in
    let next = g.M.WordStepper.state c.step-changed.new.self column in
    let own : column < g.M.WordStepper.columns loop.m = omega (arith, inside, loop.invariant.columns) in
    let same : next ≡ now = c.step-changed.ensures.same column own (ap (is_in_column column) c.if-changed-eq0.true ∙ zero_bits column) in
    let step = c.step-changed.ensures.step (loop.invariant.fits fits) column own in
    let count = (get_or loop.out column past).steps in
    rw same (Going-rests graph c.args.limit loop._taken (g.M.WordStepper.state c.args.m.now column) count now (omega (arith, c.loop-taken-test.true))
    (loop.invariant.going fits column past inside) (rw same at step))

pub returns-then-changed-eq0-clause-rest : goal.returns-then-changed-eq0-clause-rest
returns-then-changed-eq0-clause-rest g c fits column inside =
    let loop = c.loop-taken in
    let next = g.M.WordStepper.state c.step-changed.new.self column in
    let before : column < g.M.WordStepper.columns loop.m = omega (arith, inside, loop.invariant.columns) in
    let same : next ≡ g.M.WordStepper.state loop.m column = c.step-changed.ensures.same column before (ap (is_in_column column) c.if-changed-eq0.true ∙ zero_bits column) in
    let step = c.step-changed.ensures.step (loop.invariant.fits fits) column before in
    rw same (rw same at step)

pub returns-clause-stepping : goal.returns-clause-stepping
returns-clause-stepping g c fits column past inside =
    let loop = c.loop-taken in
    let last : loop._taken ≡ c.args.limit = omega arith in
    Going-ends c.args.graph.now c.args.limit (g.M.WordStepper.state c.args.m.now column) (get_or loop.out column past).steps (g.M.WordStepper.state loop.m column)
    (rw last at loop.invariant.going fits column past inside)
