-- What is held is built.
use Rattle.std.proofs.Common.{Ok, sym, subst}
use Rattle.std.proofs.lemmas.Bool.{OnTrue_at}
use Rattle.group_analysis.specs.Using.{used_texts}
use Rattle.analysis_cache.specs.Keeping.{texts_of}
use Rattle.column_stage.specs.Columns.{AreAmong, IsSoundState}
use Rattle.fault_stage.specs.Building.{BuildsStage}
use Rattle.fault_stage.specs.Stages.{FaultData, ServesIn, data_of, last_in, state_of}
use Rattle.fault_stage.proofs.BuildingLemmas.{stays_again}
use Rattle.fault_stage.proofs.stage.FaultStage.make.Goals as goal

pub returns-then-stays_built-clause-builds : goal.returns-then-stays_built-clause-builds
returns-then-stays_built-clause-builds g c =
    let kept = c.args.kept.now in
    let serves = subst (λ (stage : FaultData). ServesIn stage c.args.graph.now (used_texts (last_in stage) (texts_of kept))) (sym c.self.view_is) c.requires.serves in
    subst (λ (stage : FaultData). BuildsStage c.args.large c.args.graph.now kept.bound stage stage (texts_of kept) (texts_of kept)
    (g.A.Analyst.analysed c.args.analyst.now) (g.A.Analyst.analysed c.args.analyst.now) (Ok 0)) c.self.view_is
    (stays_again c.args.large c.args.graph.now kept c.self.inside.held _ (OnTrue_at c.if-stays_built.true c.stays_built.ensures) serves)

pub build_in-requires : goal.build_in-requires
build_in-requires g c =
    let is = sym c.self.view_is in
    let kept = c.args.kept.now in record {
      well = c.self.invariant;
      railed = c.requires.railed;
      sound = subst (λ (stage : FaultData). IsSoundState c.args.graph.now (state_of stage)) is c.requires.sound;
      serves = subst (λ (stage : FaultData). ServesIn stage c.args.graph.now (used_texts (last_in stage) (texts_of kept))) is c.requires.serves;
      last = subst (λ (stage : FaultData). AreAmong (last_in stage) (texts_of kept)) is c.requires.last;
    }

pub invariant_of-self : goal.invariant_of-self
invariant_of-self g c = c.build_in.ensures.well

pub returns-clause-builds : goal.returns-clause-builds
returns-clause-builds g c =
    subst (λ (stage : FaultData). BuildsStage c.args.large c.args.graph.now c.args.kept.now.bound stage (data_of c.build_in.new.slot) (texts_of c.args.kept.now)
    (texts_of c.build_in.new.kept) (g.A.Analyst.analysed c.args.analyst.now) (g.A.Analyst.analysed c.build_in.new.analyst) c.build_in.result) c.self.view_is
    c.build_in.ensures.builds
