-- No group is stepped by vicinities, since all codes are asked for and no larger groups are accepted.
use Rattle.std.proofs.Common.{refl, ap, subst, ◌∙◌}
use Rattle.switch_paths.specs.Graphs.{nodes}
use Rattle.truth_makers.specs.Makers.{IsFunctionOf}
use Rattle.truth_makers.specs.declared.symbols.Symbols.{Symbols}
use Rattle.truth_machine.specs.Gears.{IsGear}
use Rattle.symbol_stage.specs.Stages.{StageData}
use Rattle.symbol_stage.proofs.stage.SymbolStage.gear_of.Goals as goal

pub gear_for-requires : goal.gear_for-requires
gear_for-requires g c = record { machine = c.in_ok-machine.ensures.fits; without = c.in_ok-machine.ensures.without refl refl }

pub returns-clause-gear : goal.returns-clause-gear
returns-clause-gear g c =
    subst (λ (symbols : Symbols). IsGear c.args.graph.now (IsFunctionOf symbols) (nodes c.args.graph.now) c.in_ok-gear.gear)
    (c.truths.ensures ∙ ap (λ (stage : StageData). stage.machine.maker) c.self.view_is) c.in_ok-gear.ensures
