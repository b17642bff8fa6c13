-- What a stage serves and fits after what was done to it.
use Rattle.std.proofs.Common.{◌≡◌, List, [], refl, sym, ap, subst, ◌∙◌}
use Rattle.ternary.specs.declared.tern.Tern.{Tern}
use Rattle.switch_paths.specs.Graphs.{GraphData, nodes}
use Rattle.group_text.specs.Texts.{GroupTextData}
use Rattle.group_analysis.specs.Using.{used_texts}
use Rattle.column_stage.specs.Columns.{AreAmong, with_new_nodes}
use Rattle.column_stage.proofs.FrontLemmas.{none_missing}
use Rattle.machine_stage.specs.Machines as whole
use Rattle.machine_stage.specs.Machines.{StageData}
use Rattle.fault_stage.specs.declared.held.Held.{Held}
use Rattle.fault_stage.specs.declared.held.Held.TheVariants as held
use Rattle.fault_stage.specs.Stages.{EditsStage, Plain, Ready, ReadyData, ServesIn, ServesReady, StandInFront, StaysOn, WaitData, Waits, WaitsOn, data_of, last_in, wait_of}

-- one that is built, in another state
pub ready_moved : (g : GraphData) (old new : ReadyData) (state : List Tern) → new ≡ record old { state = state } → StaysOn g (Ready old) (Ready new)
ready_moved g old new state same = record {
  last = refl;
  serves = λ kept serves. subst (λ (ready : ReadyData). ServesReady ready g kept) (sym same)
      (record { graph = serves.graph; first = serves.first; front = serves.front });
  fits = λ is. is ∙ sym (ap (λ (ready : ReadyData). ready.graph) same);
}

-- one that waits, in another state
pub waits_moved : (g : GraphData) (old new : WaitData) → new.texts ≡ old.texts → StaysOn g (Waits old) (Waits new)
waits_moved g old new same = record {
  last = refl;
  serves = λ kept serves. subst (λ (texts : List GroupTextData). StandInFront texts kept) (sym same) serves;
  fits = λ none. none;
}

-- ---- edits

-- one that was built is let go
pub ready_edited : (g : GraphData) (old : ReadyData) (new : StageData) (kept : List GroupTextData) → new.state ≡ with_new_nodes old.state (nodes g) →
    whole.last_in new.machine ≡ [] → ((h : GraphData) (texts : List GroupTextData) → whole.ServesIn new h texts) → EditsStage g (Ready old) (Plain new) kept kept
ready_edited g old new kept state none serves = record {
  state = state;
  kept_is = ap (λ (texts : List GroupTextData). used_texts texts kept) none;
  last = subst (λ (texts : List GroupTextData). AreAmong texts kept) (sym none) (none_missing kept);
  serves = serves g (used_texts [] kept);
}

-- one that waits goes on waiting
pub waits_edited : (g before : GraphData) (old new : WaitData) (kept : List GroupTextData) → new.state ≡ with_new_nodes old.state (nodes g) →
    new.texts ≡ old.texts → ServesIn (Waits old) before (used_texts [] kept) → EditsStage g (Waits old) (Waits new) kept kept
waits_edited g before old new kept state same serves = record {
  state = state;
  kept_is = refl;
  last = none_missing kept;
  serves = subst (λ (texts : List GroupTextData). StandInFront texts (used_texts [] kept)) (sym same) serves;
}

pub waits_followed : (g before : GraphData) (old new : Held) (kept : List GroupTextData) → WaitsOn g old new →
    ServesIn (data_of old) before (used_texts (last_in (data_of old)) kept) → EditsStage g (data_of old) (data_of new) kept kept
waits_followed g before (held.Waiting old) (held.Waiting new) kept (state, same) serves =
    waits_edited g before (wait_of old) (wait_of new) kept state same serves
waits_followed g before (held.Waiting old) (held.Whole new) kept none serves = absurd none
waits_followed g before (held.Waiting old) (held.Built new) kept none serves = absurd none
waits_followed g before (held.Whole old) new kept none serves = absurd none
waits_followed g before (held.Built old) new kept none serves = absurd none
