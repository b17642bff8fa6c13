-- What is held is built.
use Rattle.std.proofs.Common.{◌≡◌, sym, ap, subst}
use Rattle.group_analysis.specs.Using.{used_texts}
use Rattle.analysis_cache.specs.Keeping.{texts_of}
use Rattle.column_stage.specs.Columns.{AreAmong, IsSoundState}
use Rattle.fault_stage.specs.Building.{BuildsStage}
use Rattle.fault_stage.specs.Runs.{IsWell}
use Rattle.fault_stage.specs.Stages.{FaultData, ServesIn, data_of, last_in, state_of}
use Rattle.fault_stage.proofs.building.build_in.Goals as goal

pub build_held-held-requires : goal.build_held-held-requires
build_held-held-requires g c =
    let is : data_of c.replace-held.result ≡ data_of c.args.slot.now = ap data_of c.replace-held.ensures.value in
    let kept = c.args.kept.now in record {
      well = subst IsWell (sym c.replace-held.ensures.value) c.requires.well;
      starts = record {
        railed = c.requires.railed;
        sound = subst (λ (stage : FaultData). IsSoundState c.args.graph.now (state_of stage)) (sym is) c.requires.sound;
      };
      serves = subst (λ (stage : FaultData). ServesIn stage c.args.graph.now (used_texts (last_in stage) (texts_of kept))) (sym is) c.requires.serves;
      last = subst (λ (stage : FaultData). AreAmong (last_in stage) (texts_of kept)) (sym is) c.requires.last;
    }

pub returns-clause-well : goal.returns-clause-well
returns-clause-well g c = c.build_held-held.ensures.well

pub returns-clause-builds : goal.returns-clause-builds
returns-clause-builds g c =
    let is : data_of c.replace-held.result ≡ data_of c.args.slot.now = ap data_of c.replace-held.ensures.value in
    subst (λ (stage : FaultData). BuildsStage c.args.large c.args.graph.now c.args.kept.now.bound stage (data_of c.build_held-held.result.0) (texts_of c.args.kept.now)
    (texts_of c.build_held-held.new.kept) (g.A.Analyst.analysed c.args.analyst.now) (g.A.Analyst.analysed c.build_held-held.new.analyst) c.build_held-held.result.1) is
    c.build_held-held.ensures.builds

pub returns-clause-bound : goal.returns-clause-bound
returns-clause-bound g c = c.build_held-held.ensures.bound

pub returns-clause-refused : goal.returns-clause-refused
returns-clause-refused g c = c.build_held-held.ensures.refused
