-- One place more.
use Rattle.std.proofs.Common.{◌<◌, length, ap, ◌∙◌, subst, arith}
use Rattle.circuit_lint.specs.Dead.{dead_at}
use Rattle.circuit_lint.specs.Tallies.{taken_of, counted_at, LeavesOthers}
use Rattle.circuit_lint.proofs.RangeLemmas.{told-more}
use Rattle.circuit_lint.proofs.TallyLemmas.{told_at, left-more}
use Rattle.circuit_lint.proofs.dead.dead_switches.Goals as goal

pub loop-place-preserved : goal.loop-place-preserved
loop-place-preserved c =
    let g = c.args.graph.now in
    let k = c.loop-place.place in
    let old = c.loop-place.tally in
    let so_far = c.loop-place.invariant in
    let taken = c.taken-count.ensures in
    let inside : k < length g.places = omega (arith, c.loop-place-test.true, c.places-place-end.ensures) in
    record {
      listed = told-more (dead_at g) k c.counted_at.result _ _ so_far.listed
          (c.counted_at.ensures ∙ ap (counted_at k) (taken.value ∙ ap (λ place. taken_of place old) c.switch_at.ensures.value) ∙ told_at g k old inside so_far.left)
          c.in_ok-push_some.ensures;
      left = left-more g.places k old c.taken-count.new.tally inside so_far.left
          (subst (λ place. LeavesOthers place old c.taken-count.new.tally) c.switch_at.ensures.value taken.others);
    }
