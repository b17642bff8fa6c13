-- A stage serves a graph still after each act, and what a move makes of its states.
use Rattle.std.proofs.Common.{◌≡◌, ◌⊎◌, inl, inr, ℕ, Bool, List, [], ◌∷◌, ◌++◌, Option, None, Some, Ok, Err, refl, sym, ap, subst, ◌∙◌}
use Rattle.std.specs.Prelude.{Result, IfSome, IfOk, OnOk, OnErr}
use Rattle.std.proofs.lemmas.List.{map-append}
use Rattle.std.proofs.lemmas.List.Elements.{All-nil, All-cons, All-append}
use Rattle.ternary.specs.declared.tern.Tern.{Tern}
use Rattle.switch_paths.specs.Graphs.{GraphData, IsWired, FitsPlace, nodes}
use Rattle.switch_paths.specs.Step.{IsStep}
use Rattle.settling.specs.Settling.{Settles}
use Rattle.straight_code.specs.Code.{CodeData}
use Rattle.group_text.specs.Texts.{GroupTextData}
use Rattle.group_analysis.specs.Using.{used_texts}
use Rattle.analysis_cache.specs.Keeping.{KeptData, IsGrown, entry_texts, texts_of}
use Rattle.channel_groups.specs.declared.change.Change.{Change}
use Rattle.channel_groups.specs.Changes.{undo}
use Rattle.circuit_texts.specs.declared.texts.BuildFault.{BuildFault}
use Rattle.circuit_texts.specs.Building.{Builds}
use Rattle.column_stage.specs.Columns.{AreAmong}
use Rattle.column_stage.specs.Edits.{IsUndone}
use Rattle.machine_laws.specs.Machines.{MachineData}
use Rattle.machine_laws.specs.Fitting.{FitsGraph}
use Rattle.machine_laws.specs.Editing.{with_new_nodes}
use Rattle.machine_laws.specs.Laws.{with_empty_place}
use Rattle.machine_laws.proofs.KeptLemmas.{fitting_machines_share_texts, built_texts_are_kept, placing_keeps_texts, edits_keep_texts, empty_places_are_covered, empty_places_keep_texts}
use Rattle.machine_stage.specs.Machines.{StageData, Serves, ServesIn, FitsIn, kept_in, last_in}
use Rattle.machine_stage.specs.Stages.{MovesBy, PutsIn, BuiltFrom, EditsFrom, TakesStep, TakesPhase}
use Rattle.machine_stage.proofs.LastLemmas.{more_keep, still_among, table_keeps}
use Rattle.machine_stage.proofs.PlacingLemmas.{fits_there}

-- ---- what is kept

-- more entries that are kept are more texts
texts-grown : (old new : KeptData) → IsGrown old new → (more : List GroupTextData) × (texts_of new ≡ texts_of old ++ more)
texts-grown old new grown =
    (entry_texts grown.more, ap (λ entries. entry_texts entries) grown.grown ∙ map-append (λ (entry : GroupTextData × CodeData). entry.0) old.entries grown.more)

-- it serves with the table alone, if it does with the last texts in front
pub serves-table : (g : GraphData) (states : List Tern) (table : List GroupTextData) (found : Option MachineData) → AreAmong (last_in found) table →
    IfSome found (Serves g states (used_texts (last_in found) table)) → IfSome found (Serves g states table)
serves-table g states table None among serves = tt
serves-table g states table (Some machine) among serves = record {
  covers = serves.covers;
  same = serves.same;
  known = table_keeps g machine.last (used_texts machine.last table) table machine refl among serves.known;
}

-- and it does if more is kept
serves-more : (g : GraphData) (states : List Tern) (table more new : List GroupTextData) (found : Option MachineData) → new ≡ table ++ more →
    IfSome found (Serves g states (kept_in found table)) → IfSome found (Serves g states (kept_in found new))
serves-more g states table more new None grown serves = tt
serves-more g states table more new (Some machine) grown serves = record {
  covers = serves.covers;
  same = serves.same;
  known = more_keep g machine.last (used_texts machine.last table) table more new machine refl grown serves.known;
}

-- ---- builds

module _ (large : ℕ) (g : GraphData) (old new : StageData) where
  -- a build was done
  serves-built : (bound : Option ℕ) (kept shown before after : List GroupTextData) (count : ℕ) → BuiltFrom large g old new →
      Builds large g bound kept shown before after count → ServesIn new g shown
  serves-built bound kept shown before after count built builds =
      subst (λ (found : Option MachineData). IfSome found (Serves g new.state shown)) (sym built.there) (record {
        covers = built.fits.covers;
        same = built.same ∙ sym built.state;
        known = built_texts_are_kept large g bound kept shown before after count built.machine built.fits builds;
      })

  -- it fits then
  pub fits_built : (result : Result ℕ BuildFault) → OnOk result (BuiltFrom large g old new) → OnOk result (FitsIn g new.machine)
  fits_built (Ok count) built = record { machine = built.machine; there = built.there; fits = built.fits }
  fits_built (Err fault) built = tt

  -- a build was done or refused: the stage serves
  pub serves_made : (bound : Option ℕ) (kept later : KeptData) (before after : List GroupTextData) (result : Result ℕ BuildFault) →
      ServesIn old g (kept_in old.machine (texts_of kept)) → OnOk result (BuiltFrom large g old new) →
      IfOk result (Builds large g bound (kept_in old.machine (texts_of kept)) (kept_in new.machine (texts_of later)) before after) →
      OnErr result (new ≡ old) → OnErr result (IsGrown kept later) → ServesIn new g (kept_in new.machine (texts_of later))
  serves_made bound kept later before after (Ok count) serves built builds same grown =
      serves-built bound (kept_in old.machine (texts_of kept)) (kept_in new.machine (texts_of later)) before after count built builds
  serves_made bound kept later before after (Err fault) serves built builds same grown =
      let (more, texts) = texts-grown kept later grown in
      subst (λ (stage : StageData). ServesIn stage g (kept_in stage.machine (texts_of later))) (sym same)
      (serves-more g old.state (texts_of kept) more (texts_of later) old.machine texts serves)

  -- and the texts of the last build are kept
  pub last_made : (kept later : KeptData) (result : Result ℕ BuildFault) → AreAmong (last_in old.machine) (texts_of kept) →
      OnOk result (AreAmong (last_in new.machine) (texts_of later)) → OnErr result (new ≡ old) → OnErr result (IsGrown kept later) →
      AreAmong (last_in new.machine) (texts_of later)
  last_made kept later (Ok count) among last same grown = last
  last_made kept later (Err fault) among last same grown =
      let (more, texts) = texts-grown kept later grown in
      subst (λ (stage : StageData). AreAmong (last_in stage.machine) (texts_of later)) (sym same)
      (still_among (last_in old.machine) (texts_of kept) more (texts_of later) texts among)

-- ---- steps and phases

module _ (g : GraphData) (old new : StageData) where
  -- a stage that fits serves after a move to a machine that fits
  serves-moved : (kept : List GroupTextData) (Leads : MachineData → MachineData → Type 0) → FitsIn g old.machine → (moves : MovesBy Leads old new) →
      FitsGraph g moves.after → ServesIn old g kept → ServesIn new g kept
  serves-moved kept Leads built moves fits serves =
      let was = subst (λ (found : Option MachineData). IfSome found (Serves g old.state kept)) moves.was serves in
      subst (λ (found : Option MachineData). IfSome found (Serves g new.state kept)) (sym moves.there) (record {
        covers = fits.covers;
        same = moves.to;
        known = fitting_machines_share_texts g kept moves.before moves.after (fits_there g old.machine moves.before built moves.was) fits was.known;
      })

  module _ (moves : MovesBy (TakesStep g) old new) where
    pub serves_stepped : (kept : List GroupTextData) → FitsIn g old.machine → ServesIn old g kept → ServesIn new g kept
    serves_stepped kept built serves = serves-moved kept (TakesStep g) built moves moves.leads.fits serves

    pub step_between : IsStep g old.state new.state
    step_between =
        subst (λ (state : List Tern). IsStep g old.state state) moves.to
        (subst (λ (state : List Tern). IsStep g state moves.after.state) moves.from moves.leads.step)

    pub fits_stepped : FitsIn g new.machine
    fits_stepped = record { machine = moves.after; there = moves.there; fits = moves.leads.fits }

    pub last_stepped : last_in new.machine ≡ last_in old.machine
    last_stepped = ap last_in moves.there ∙ moves.leads.last ∙ ap last_in (sym moves.was)

  module _ (limit steps : ℕ) (joined : Bool) (moves : MovesBy (λ before after. TakesPhase g limit before after steps joined) old new) where
    pub serves_settled : (kept : List GroupTextData) → FitsIn g old.machine → ServesIn old g kept → ServesIn new g kept
    serves_settled kept built serves = serves-moved kept (λ before after. TakesPhase g limit before after steps joined) built moves moves.leads.fits serves

    pub phase_between : Settles g old.state limit new.state steps joined
    phase_between =
        subst (λ (state : List Tern). Settles g old.state limit state steps joined) moves.to
        (subst (λ (state : List Tern). Settles g state limit moves.after.state steps joined) moves.from moves.leads.settles)

    pub fits_settled : FitsIn g new.machine
    fits_settled = record { machine = moves.after; there = moves.there; fits = moves.leads.fits }

    pub last_settled : last_in new.machine ≡ last_in old.machine
    last_settled = ap last_in moves.there ∙ moves.leads.last ∙ ap last_in (sym moves.was)

-- ---- a node that is placed

module _ (g : GraphData) (node : ℕ) (value : Tern) where
  pub serves_put : (kept : List GroupTextData) (states next : List Tern) (old new : Option MachineData) → PutsIn g node value old new →
      IfSome new (λ machine. machine.state ≡ next) → IfSome old (Serves g states kept) → IfSome new (Serves g next kept)
  serves_put kept states next None new none same serves = subst (λ (found : Option MachineData). IfSome found (Serves g next kept)) (sym none) tt
  serves_put kept states next (Some machine) new (after, there, puts) same serves =
      subst (λ (found : Option MachineData). IfSome found (Serves g next kept)) (sym there) (record {
        covers = puts.covers serves.covers;
        same = subst (λ (found : Option MachineData). IfSome found (λ machine. machine.state ≡ next)) there same;
        known = placing_keeps_texts g kept node value machine after puts.places serves.known;
      })

  pub fits_put : (old new : Option MachineData) → PutsIn g node value old new → FitsIn g old → FitsIn g new
  fits_put old new puts built = by old refl puts
    where
      by : (found : Option MachineData) → old ≡ found → PutsIn g node value found new → FitsIn g new
      by None is none = absurd (let same : Some built.machine ≡ None = sym built.there ∙ is in cc)
      by (Some machine) is (after, there, put) = record { machine = after; there = there; fits = put.fits (fits_there g old machine built is) }

  pub last_put : (old new : Option MachineData) → PutsIn g node value old new → last_in new ≡ last_in old
  last_put None new none = ap last_in none
  last_put (Some machine) new (after, there, puts) = ap last_in there ∙ puts.places.last

-- ---- edits

-- a graph is well formed with an empty place more
wired-more : (g : GraphData) → IsWired g → IsWired (with_empty_place g)
wired-more g wired = record {
  levels = wired.levels;
  places = All-append (FitsPlace (nodes g)) g.places (None ∷ []) wired.places (All-cons (FitsPlace (nodes g)) None [] tt (All-nil (FitsPlace (nodes g))));
}

module _ (before g : GraphData) (change : Change) (undone : IsUndone before g change) where
  -- what serves the graph before an edit serves the one that the change undoes to
  pub serves_undone : (kept : List GroupTextData) (states : List Tern) (found : Option MachineData) → IfSome found (Serves before states kept) →
      IfSome found (Serves (undo g change) states kept)
  serves_undone kept states None serves = tt
  serves_undone kept states (Some machine) serves = by undone.is
    where
      by : (undo g change ≡ before) ⊎ (undo g change ≡ with_empty_place before) → Serves (undo g change) states kept machine
      by (inl same) = subst (λ (h : GraphData). Serves h states kept machine) (sym same) serves
      by (inr more) = subst (λ (h : GraphData). Serves h states kept machine) (sym more) (record {
        covers = empty_places_are_covered before machine undone.wired serves.covers;
        same = serves.same;
        known = empty_places_keep_texts before kept machine undone.wired serves.covers serves.known;
      })

  -- that graph is well formed
  pub wired_undone : IsWired (undo g change)
  wired_undone = by undone.is
    where
      by : (undo g change ≡ before) ⊎ (undo g change ≡ with_empty_place before) → IsWired (undo g change)
      by (inl same) = subst IsWired (sym same) undone.wired
      by (inr more) = subst IsWired (sym more) (wired-more before undone.wired)

  -- and after the edit the stage serves
  pub serves_edited : IsWired g → (kept : List GroupTextData) (states next : List Tern) (old found : Option MachineData) →
      next ≡ with_new_nodes states (nodes g) → IfSome found (EditsFrom g change old) → IfSome old (Serves before states kept) →
      IfSome found (Serves g next kept)
  serves_edited wired kept states next old None grown edits serves = tt
  serves_edited wired kept states next old (Some machine) grown from serves =
      let was = subst (λ (found : Option MachineData). IfSome found (Serves (undo g change) states kept)) from.was
      (serves_undone kept states old serves) in
      record {
        covers = from.edits.covers;
        same = from.edits.state ∙ ap (λ (state : List Tern). with_new_nodes state (nodes g)) was.same ∙ sym grown;
        known = edits_keep_texts g change kept from.before machine wired_undone wired was.covers from.edits was.known;
      }
