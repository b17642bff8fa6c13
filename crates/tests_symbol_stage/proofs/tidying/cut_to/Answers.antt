-- One name, and one function that is the maker's.
use Rattle.std.proofs.Common.{[], refl}
use Rattle.std.proofs.lemmas.List.Elements.{All-nil, All-push}
use Rattle.truth_makers.specs.Makers.{IsFunctionOf}
use Rattle.tests_symbol_stage.proofs.tidying.cut_to.Goals as goal

pub add-requires : goal.add-requires
add-requires c = rw c.new-names.ensures refl

pub tidy-requires-clause-named : goal.tidy-requires-clause-named
tidy-requires-clause-named c =
    let has = IsFunctionOf c.args.stage.now.machine.maker in
    rw (c.in_ok-add.ensures.ok, c.new-names.ensures) (All-push has [] c.args.wanted (All-nil has) c.requires)

pub tidy-requires-clause-inside : goal.tidy-requires-clause-inside
tidy-requires-clause-inside c =
    let has = IsFunctionOf c.args.stage.now.machine.maker in
    All-push has [] c.args.wanted (All-nil has) c.requires
