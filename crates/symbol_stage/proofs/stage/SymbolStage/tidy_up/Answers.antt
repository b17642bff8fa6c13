-- What is found in the place of the functions outside is put back there.
use Rattle.std.proofs.Common.{◌++◌, List, length, refl, ap, subst, ◌∙◌, arith, length-append}
use Rattle.std.proofs.lemmas.List.Elements.{All-append}
use Rattle.decision_graph.specs.declared.vertex.Function.{Function}
use Rattle.truth_makers.specs.Makers.{IsFunctionOf}
use Rattle.symbol_stage.specs.Compacting.{AreMoved}
use Rattle.symbol_stage.proofs.TidyLemmas.{IsTidied-done, IsTidied-none}
use Rattle.symbol_stage.proofs.stage.SymbolStage.tidy_up.Goals as goal

pub compact-requires-clause-inside : goal.compact-requires-clause-inside
compact-requires-clause-inside c =
    let has = IsFunctionOf c.args.self.now.machine.maker in
    rw (c.deref.ensures.value, c.in_ok-all.ensures) (All-append has c.args.names.now.functions c.args.kept.now c.requires.named c.requires.inside)

pub put_back-requires : goal.put_back-requires
put_back-requires c =
    omega (
      arith,
      c.in_ok-found.ensures.moved.counted,
      ap (λ (list : List Function). length list) (c.deref.ensures.value ∙ c.in_ok-all.ensures),
      length-append c.args.names.now.functions c.args.kept.now,
    )

pub returns-in_err-all-clause-tidied : goal.returns-in_err-all-clause-tidied
returns-in_err-all-clause-tidied c =
    IsTidied-none c.args.self.now c.args.self.now c.args.names.now c.args.kept.now c.requires.named c.requires.inside refl refl

pub returns-in_err-found-clause-tidied : goal.returns-in_err-found-clause-tidied
returns-in_err-found-clause-tidied c =
    IsTidied-none c.args.self.now c.compact.new.self c.args.names.now c.args.kept.now c.requires.named c.requires.inside c.in_err-found.ensures.err
    c.compact.ensures.built

pub returns-clause-tidied : goal.returns-clause-tidied
returns-clause-tidied c =
    let old = c.args.self.now in
    let new = c.compact.new.self in
    let are : AreMoved old.machine.maker new.machine.maker (c.args.names.now.functions ++ c.args.kept.now) c.in_ok-found.found.items =
    subst (λ (list : List Function). AreMoved old.machine.maker new.machine.maker list c.in_ok-found.found.items) (c.deref.ensures.value ∙ c.in_ok-all.ensures)
    c.in_ok-found.ensures.moved in
    IsTidied-done old new c.args.names.now c.args.kept.now c.in_ok-found.found.items c.put_back.new.names c.put_back.new.kept are c.put_back.ensures.names c.put_back.ensures.kept
    c.in_ok-found.ensures.states c.compact.ensures.fits c.compact.ensures.built
