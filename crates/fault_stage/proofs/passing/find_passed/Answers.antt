-- The phase at this place began so.
use Rattle.std.proofs.Common.{◌<◌, length, ap, sym, ◌∙◌, arith}
use Rattle.std.proofs.lemmas.Bool.{OnTrue_at}
use Rattle.fault_stage.specs.declared.passing.Passed.{Passed}
use Rattle.fault_stage.proofs.PassingLemmas.{same_passed}
use Rattle.fault_stage.proofs.passing.find_passed.Goals as goal

pub returns-then-is_start : goal.returns-then-is_start
returns-then-is_start c =
    let place = c.loop-place.place in
    let there = c.index-passes-place.result in
    let inside : place < length c.args.passes.now = omega (arith, c.loop-place-test.true) in
    record {
      inside = inside;
      start = λ p stands. ap (λ (q : Passed). q.start.items) (same_passed c.args.passes.now place p there inside stands (sym c.index-passes-place.is))
          ∙ OnTrue_at c.if-is_start.true c.is_start.ensures.start;
      limit_is = λ p stands. ap (λ (q : Passed). q.limit) (same_passed c.args.passes.now place p there inside stands (sym c.index-passes-place.is))
          ∙ OnTrue_at c.if-is_start.true c.is_start.ensures.limit;
    }
