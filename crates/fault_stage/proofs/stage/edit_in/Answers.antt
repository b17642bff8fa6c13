-- What is held follows the edit.
use Rattle.std.proofs.Common.{◌≡◌, ◌+◌, ◌≤◌, sym, ap, subst}
use Rattle.switch_paths.specs.Graphs.{GraphData, nodes}
use Rattle.group_analysis.specs.Using.{used_texts}
use Rattle.analysis_cache.specs.Keeping.{texts_of}
use Rattle.column_stage.specs.Columns.{AreAmong, IsSoundState}
use Rattle.column_stage.specs.Edits.{IsUndone}
use Rattle.fault_stage.specs.Runs.{IsWell}
use Rattle.fault_stage.specs.Stages.{EditsStage, FaultData, ServesIn, data_of, last_in, spare_in, state_of}
use Rattle.fault_stage.proofs.stage.edit_in.Goals as goal

pub edited-requires : goal.edited-requires
edited-requires c =
    let is : data_of c.replace-held.result ≡ data_of c.args.slot.now = ap data_of c.replace-held.ensures.value in
    let kept = texts_of c.args.kept.now in record {
      well = subst IsWell (sym c.replace-held.ensures.value) c.requires.well;
      before = subst (λ (stage : FaultData). (before : GraphData) × IsUndone before c.args.graph.now c.args.change.now × IsSoundState before (state_of stage)
          × (nodes c.args.graph.now ≤ nodes before + spare_in stage) × ServesIn stage before (used_texts (last_in stage) kept)) (sym is) c.requires.before;
      last = subst (λ (stage : FaultData). AreAmong (last_in stage) kept) (sym is) c.requires.last;
    }

pub returns-clause-edits : goal.returns-clause-edits
returns-clause-edits c =
    let is : data_of c.replace-held.result ≡ data_of c.args.slot.now = ap data_of c.replace-held.ensures.value in
    subst (λ (stage : FaultData). EditsStage c.args.graph.now stage (data_of c.edited.result) (texts_of c.args.kept.now) (texts_of c.edited.new.kept)) is
    c.edited.ensures.edits
