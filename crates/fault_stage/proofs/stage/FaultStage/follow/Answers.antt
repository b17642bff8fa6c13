-- What is held follows the edit.
use Rattle.std.proofs.Common.{◌≡◌, ◌+◌, ◌≤◌, length, sym, ap, subst, ◌∙◌, arith}
use Rattle.std.proofs.lemmas.Bool.{OnFalse_at, OnTrue_at}
use Rattle.switch_paths.specs.Graphs.{GraphData, nodes}
use Rattle.group_analysis.specs.Using.{used_texts}
use Rattle.analysis_cache.specs.Keeping.{texts_of}
use Rattle.column_stage.specs.Columns.{AreAmong, IsSoundState}
use Rattle.column_stage.specs.Edits.{IsUndone}
use Rattle.fault_stage.specs.Runs.{IsWell}
use Rattle.fault_stage.specs.Stages.{EditsStage, FaultData, ServesIn, data_of, last_in, spare_in, state_of}
use Rattle.fault_stage.proofs.StayingLemmas.{waits_followed}
use Rattle.fault_stage.proofs.stage.FaultStage.follow.Goals as goal

pub wait_on-requires-clause-well : goal.wait_on-requires-clause-well
wait_on-requires-clause-well c = c.self.invariant

pub wait_on-requires-clause-room : goal.wait_on-requires-clause-room
wait_on-requires-clause-room c =
    let (before, undone, sound, room, serves) = c.requires.before in
    subst (λ (stage : FaultData). nodes c.args.graph.now ≤ length (state_of stage) + spare_in stage) (sym c.self.view_is)
    (omega (arith, room, sound.counted))

pub returns-then-wait_on-clause-edits : goal.returns-then-wait_on-clause-edits
returns-then-wait_on-clause-edits c =
    let (before, undone, sound, room, serves) = c.requires.before in
    let kept = texts_of c.args.kept.now in
    let served = subst (λ (stage : FaultData). ServesIn stage before (used_texts (last_in stage) kept)) (sym c.self.view_is) serves in
    subst (λ (stage : FaultData). EditsStage c.args.graph.now stage (data_of c.wait_on.new.held) kept kept) c.self.view_is
    (waits_followed c.args.graph.now before c.self.inside.held c.wait_on.new.held kept (OnTrue_at c.if-wait_on.true c.wait_on.ensures.waits) served)

pub edit_in-requires : goal.edit_in-requires
edit_in-requires c =
    let held = OnFalse_at c.if-wait_on.false c.wait_on.ensures.same in
    let is : data_of c.wait_on.new.held ≡ c.args.self.now = ap data_of held ∙ c.self.view_is in
    let kept = texts_of c.args.kept.now in record {
      well = subst IsWell (sym held) c.self.invariant;
      before = subst (λ (stage : FaultData). (before : GraphData) × IsUndone before c.args.graph.now c.args.change.now × IsSoundState before (state_of stage)
          × (nodes c.args.graph.now ≤ nodes before + spare_in stage) × ServesIn stage before (used_texts (last_in stage) kept)) (sym is) c.requires.before;
      last = subst (λ (stage : FaultData). AreAmong (last_in stage) kept) (sym is) c.requires.last;
    }

pub invariant_of-self : goal.invariant_of-self
invariant_of-self c = c.wait_on.ensures.well

pub invariant_of-self-2 : goal.invariant_of-self-2
invariant_of-self-2 c = c.edit_in.ensures.well

pub returns-clause-edits : goal.returns-clause-edits
returns-clause-edits c =
    let is : data_of c.wait_on.new.held ≡ c.args.self.now = ap data_of (OnFalse_at c.if-wait_on.false c.wait_on.ensures.same) ∙ c.self.view_is in
    subst (λ (stage : FaultData). EditsStage c.args.graph.now stage (data_of c.edit_in.new.slot) (texts_of c.args.kept.now) (texts_of c.edit_in.new.kept)) is
    c.edit_in.ensures.edits
