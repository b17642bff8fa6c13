-- The phase stands at this place.
use Rattle.std.proofs.Common.{sym, subst}
use Rattle.std.proofs.lemmas.List.Elements.{All-get_or}
use Rattle.fault_stage.specs.Passing.{IsPassed}
use Rattle.fault_stage.proofs.passing.go_again.Goals as goal

pub go_to-requires-clause-passed : goal.go_to-requires-clause-passed
go_to-requires-clause-passed c =
    let there = c.index-passes-place.result in
    subst (IsPassed c.args.graph.now) (sym c.index-passes-place.is)
    (All-get_or (IsPassed c.args.graph.now) c.args.passes.now c.args.place there c.requires.inside c.requires.passes)

pub returns : goal.returns
returns c = λ state limit starts.
    let there = c.index-passes-place.result in record {
      phase = there;
      is = subst (IsPassed c.args.graph.now) (sym c.index-passes-place.is)
          (All-get_or (IsPassed c.args.graph.now) c.args.passes.now c.args.place there c.requires.inside c.requires.passes);
      start = starts.start there (sym c.index-passes-place.is);
      limit_is = starts.limit_is there (sym c.index-passes-place.is);
      fits = c.go_to.ensures.goes.fits;
      state_is = c.go_to.ensures.goes.state_is;
      last = c.go_to.ensures.last;
      told_is = c.go_to.ensures.told;
    }
