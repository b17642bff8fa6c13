-- The groups are those of what is held.
use Rattle.std.proofs.Common.{sym, subst}
use Rattle.std.specs.Prelude.{IfSome}
use Rattle.switch_paths.specs.Graphs.{GraphData}
use Rattle.channel_groups.specs.Grouping.{AreOf}
use Rattle.fault_stage.specs.declared.held.Held.{Held}
use Rattle.fault_stage.specs.Runs.{IsWell}
use Rattle.fault_stage.specs.Stages.{FaultData, ServesIn, ServesReady, data_of, ready_of}
use Rattle.fault_stage.proofs.stage.FaultStage.groups_there.Goals as goal

pub grouping-requires : goal.grouping-requires
grouping-requires c =
    let (kept, serves) = c.requires in (
      kept,
      subst (λ (held : Held). ServesIn (data_of held) c.args.graph.now kept) c.in-Whole.is
          (subst (λ (stage : FaultData). ServesIn stage c.args.graph.now kept) (sym c.self.view_is) serves),
    )

pub returns-in-Whole : goal.returns-in-Whole
returns-in-Whole c = c.grouping.ensures

pub groups_there-requires : goal.groups_there-requires
groups_there-requires c = subst IsWell c.in-Built.is c.self.invariant

pub returns-in-Built : goal.returns-in-Built
returns-in-Built c =
    let (kept, serves) = c.requires in
    let was : ServesReady (ready_of c.in-Built.built) c.args.graph.now kept =
    subst (λ (held : Held). ServesIn (data_of held) c.args.graph.now kept) c.in-Built.is
    (subst (λ (stage : FaultData). ServesIn stage c.args.graph.now kept) (sym c.self.view_is) serves) in
    subst (λ (h : GraphData). IfSome c.groups_there.result (λ groups. AreOf h groups.now)) (sym was.graph) c.groups_there.ensures
