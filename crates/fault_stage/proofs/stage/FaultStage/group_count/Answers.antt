-- The numbers are those of what is held.
use Rattle.std.proofs.Common.{◌≡◌, ℕ, List, length, sym, subst}
use Rattle.switch_paths.specs.Graphs.{GraphData}
use Rattle.group_text.specs.Texts.{GroupTextData}
use Rattle.circuit_texts.specs.Building.{HasTexts}
use Rattle.fault_stage.specs.declared.held.Held.{Held}
use Rattle.fault_stage.specs.Runs.{IsWell}
use Rattle.fault_stage.specs.Stages.{FaultData, FitsIn, data_of}
use Rattle.fault_stage.proofs.stage.FaultStage.group_count.Goals as goal

pub groups-requires : goal.groups-requires
groups-requires c =
    subst (λ (held : Held). FitsIn (data_of held) c.args.graph.now) c.in-Whole.is
    (subst (λ (stage : FaultData). FitsIn stage c.args.graph.now) (sym c.self.view_is) c.requires)

pub returns-in-Whole : goal.returns-in-Whole
returns-in-Whole c = c.groups.ensures

pub group_count-requires : goal.group_count-requires
group_count-requires c = subst IsWell c.in-Built.is c.self.invariant

pub returns-in-Built : goal.returns-in-Built
returns-in-Built c =
    let fits : c.args.graph.now ≡ c.in-Built.built.graph =
    subst (λ (held : Held). FitsIn (data_of held) c.args.graph.now) c.in-Built.is
    (subst (λ (stage : FaultData). FitsIn stage c.args.graph.now) (sym c.self.view_is) c.requires) in
    subst (λ (h : GraphData). (large : ℕ) (texts : List GroupTextData) (has : HasTexts large h texts) → c.group_count.result ≡ length has.groups) (sym fits)
    c.group_count.ensures

pub returns-in-Waiting : goal.returns-in-Waiting
returns-in-Waiting c =
    absurd (subst (λ (held : Held). FitsIn (data_of held) c.args.graph.now) c.in-Waiting.is
    (subst (λ (stage : FaultData). FitsIn stage c.args.graph.now) (sym c.self.view_is) c.requires))
