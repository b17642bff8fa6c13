-- A session whose stage moved is one still, if the stage has as many columns, sound states in each, serves as before, and used last what it used.
use Rattle.std.proofs.Common.{◌≡◌, ℕ, ◌<◌, ◌≤◌, List, refl, sym, ap, subst, ◌∙◌, arith}
use Rattle.std.specs.Prelude.{slice_set}
use Rattle.ternary.specs.declared.tern.Tern.{Tern}
use Rattle.switch_paths.specs.Graphs.{GraphData}
use Rattle.switch_paths.specs.declared.TheConstants.{RAILS}
use Rattle.group_text.specs.Texts.{GroupTextData}
use Rattle.group_analysis.specs.Using.{used_texts}
use Rattle.column_stage.specs.Columns.{AreAmong, AreSound}
use Rattle.column_stage.proofs.FrontLemmas.{same_among}
use Rattle.session_meaning.specs.Sessions.{HeldSession, IsHeldSession}
use Rattle.session_meaning.proofs.ActLemmas.{sound_put}
use Rattle.session_meaning.proofs.StayingLemmas.{held_beside}
use Rattle.cosmos_session.specs.Keeping.{KeepsStage}

-- what is kept is read anew, and is the same
pub used_same : (now last table : List GroupTextData) → now ≡ last → used_texts now table ≡ used_texts last table
used_same now last table same = ap (λ (texts : List GroupTextData). used_texts texts table) same

pub stage_moved : {M : Type 0} (columns : M → ℕ) (states : M → ℕ → List Tern) (serves : M → GraphData → List GroupTextData → Type 0)
    (last : M → List GroupTextData) (table : List GroupTextData) (session : HeldSession M) (stage : M) (count : ℕ) →
    IsHeldSession columns states serves session × AreAmong (last session.stage) table → session.core.kept ≡ used_texts (last session.stage) table →
    last stage ≡ last session.stage → columns stage ≡ columns session.stage → AreSound session.core.circuit.graph (columns stage) (states stage) →
    ((kept : List GroupTextData) → serves session.stage session.core.circuit.graph kept → serves stage session.core.circuit.graph kept) →
    IsHeldSession columns states serves
    (record { core = record session.core { state = states stage 0; count = count; kept = used_texts (last stage) table }; stage = stage })
    × AreAmong (last stage) table
stage_moved columns states serves last table session stage count is kept same alike sound serving =
    let held = is.0 in (
      held_beside columns states serves session stage count (used_texts (last stage) table)
          (used_same (last stage) (last session.stage) table same ∙ sym kept) (subst (λ (n : ℕ). 1 ≤ n) (sym alike) held.some) sound
          (serving session.core.kept held.served) held,
      same_among (last session.stage) (last stage) table same is.1,
    )

-- so if no line is counted, with what a step over the session's graph says
pub stage_stays : {M : Type 0} {columns : M → ℕ} {states : M → ℕ → List Tern} {serves : M → GraphData → List GroupTextData → Type 0} {session : HeldSession M}
    {graph : GraphData} (last : M → List GroupTextData) (table : List GroupTextData) (stage : M) →
    IsHeldSession columns states serves session × AreAmong (last session.stage) table → session.core.kept ≡ used_texts (last session.stage) table →
    last stage ≡ last session.stage → columns stage ≡ columns session.stage → graph ≡ session.core.circuit.graph → AreSound graph (columns stage) (states stage) →
    ((kept : List GroupTextData) → serves session.stage graph kept → serves stage graph kept) →
    IsHeldSession columns states serves (record { core = record session.core { state = states stage 0; kept = used_texts (last stage) table }; stage = stage })
    × AreAmong (last stage) table
stage_stays {columns = columns} {states = states} {serves = serves} {session = session} last table stage is kept same alike there sound serving =
    stage_moved columns states serves last table session stage session.core.count is kept same alike
    (subst (λ (g : GraphData). AreSound g (columns stage) (states stage)) there sound)
    (subst (λ (g : GraphData). (kept : List GroupTextData) → serves session.stage g kept → serves stage g kept) there serving)

-- ---- other states

-- the states are sound still if a node past the rails has another in each column
pub sounds_put : {M : Type 0} (columns : M → ℕ) (states : M → ℕ → List Tern) (g : GraphData) (node : ℕ) (letter : ℕ → Tern) (old new : M) → RAILS ≤ node →
    columns new ≡ columns old → ((column : ℕ) → column < columns old → states new column ≡ slice_set (states old column) node (letter column)) →
    AreSound g (columns old) (states old) → AreSound g (columns new) (states new)
sounds_put columns states g node letter old new past same put sound column inside =
    let within : column < columns old = subst (λ (n : ℕ). column < n) same inside in
    sound_put g node (letter column) (states old column) (states new column) past (put column within) (sound column within)

module _ {M : Type 0} (columns : M → ℕ) (states : M → ℕ → List Tern) (last : M → List GroupTextData)
    (serves : M → GraphData → List GroupTextData → Type 0) (fits : M → GraphData → Type 0) (g : GraphData) where
  -- a stage that stays is as it was
  pub keeps_stage-none : (old : M) → AreSound g (columns old) (states old) → KeepsStage columns states last serves fits g old old
  keeps_stage-none old sound = record { count = refl; sound = sound; texts = refl; serving = λ kept is. is; fitting = λ is. is }

  -- and so is one that was given states twice
  pub keeps_stage-both : (old mid new : M) → KeepsStage columns states last serves fits g old mid → KeepsStage columns states last serves fits g mid new →
      KeepsStage columns states last serves fits g old new
  keeps_stage-both old mid new first then = record {
    count = then.count ∙ first.count;
    sound = then.sound;
    texts = then.texts ∙ first.texts;
    serving = λ kept is. then.serving kept (first.serving kept is);
    fitting = λ is. then.fitting (first.fitting is);
  }

-- a stage of one column is at a start if that one is
pub start_alone : {M : Type 0} (columns : M → ℕ) (states : M → ℕ → List Tern) (stage : M) (state : List Tern) → columns stage ≡ 1 → states stage 0 ≡ state →
    (column : ℕ) → column < columns stage → states stage column ≡ state
start_alone columns states stage state one first column inside =
    let at : column ≡ 0 = omega (arith, one, inside) in subst (λ (n : ℕ). states stage n ≡ state) (sym at) first
