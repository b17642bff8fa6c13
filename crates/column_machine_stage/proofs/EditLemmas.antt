-- What an edit of the graph leaves of a stage of columns: what served the graph before it can follow, and serves the one after it.
use Rattle.std.proofs.Common.{◌≡◌, ℕ, ◌⊎◌, inl, inr, List, [], ◌∷◌, Option, None, Some, sym, ap, subst, ◌∙◌}
use Rattle.std.specs.Prelude.{IfSome, slice_get}
use Rattle.std.proofs.lemmas.List.Elements.{All-nil, All-cons, All-append}
use Rattle.switch_paths.specs.Graphs.{GraphData, IsWired, FitsPlace, nodes}
use Rattle.group_meaning.specs.Groups.{Group}
use Rattle.group_meaning.proofs.UniqueGroups.{unique}
use Rattle.channel_groups.specs.Grouping.{GroupsData}
use Rattle.channel_groups.specs.declared.change.Change.{Change}
use Rattle.channel_groups.specs.Changes.{undo}
use Rattle.group_text.specs.Texts.{GroupTextData}
use Rattle.machine_laws.specs.Fitting.{IsKeptBy}
use Rattle.machine_laws.specs.Laws.{with_empty_place}
use Rattle.machine_laws.proofs.KeptLemmas.{edits_keep_texts, empty_places_are_covered, empty_places_keep_texts}
use Rattle.column_machines.specs.Columns.{WordData, column_states, machine_of, CoversInWords}
use Rattle.column_machines.specs.declared.column_machine.ColumnMachine.{ColumnMachine}
use Rattle.column_machines.specs.declared.column_machine.ColumnMachine.TheVariants.{Together, InTurn}
use Rattle.column_machines.specs.Moving.{columns_of, highs_of, lows_of, last_in, CanFollow, EditsColumns}
use Rattle.column_stage.specs.Edits.{IsUndone}
use Rattle.column_machine_stage.specs.declared.stage.Held.TheVariants.{Built}
use Rattle.column_machine_stage.specs.Stages.{StageData, Serves, ServesIn, EditsFrom, GrowsHeld}

-- ---- an empty place

-- a graph is well formed with an empty place more
wired_more : (g : GraphData) → IsWired g → IsWired (with_empty_place g)
wired_more g wired = record {
  levels = wired.levels;
  places = All-append (FitsPlace (nodes g)) g.places (None ∷ []) wired.places (All-cons (FitsPlace (nodes g)) None [] tt (All-nil (FitsPlace (nodes g))));
}

-- columns cover it then
covers_more : (g : GraphData) (m : WordData) → IsWired g → CoversInWords g m → CoversInWords (with_empty_place g) m
covers_more g m wired covers =
    let now = empty_places_are_covered g m.machine wired covers.plain in
    record {
      plain = now;
      sound = covers.sound;
      without = covers.without;
      untold = covers.untold;
      fit = λ groups are k group at.
          let both : Some now.groups ≡ Some covers.plain.groups = sym now.kept ∙ covers.plain.kept in
          let held : now.groups ≡ covers.plain.groups = cc in
          let same : covers.plain.groups.groups ≡ groups =
          ap (λ (one : GroupsData). one.groups) (sym held) ∙ unique (with_empty_place g) now.groups.groups groups now.are.are are in
          covers.fit covers.plain.groups.groups covers.plain.are.are k group (subst (λ (list : List Group). slice_get list k ≡ Some group) (sym same) at);
      each = λ column inside. empty_places_are_covered g (machine_of m column) wired (covers.each column inside);
    }

-- ---- before an edit

module _ (before g : GraphData) (change : Change) (undone : IsUndone before g change) where
  -- the graph that the change undoes to is well formed
  pub wired_undone : IsWired (undo g change)
  wired_undone = by undone.is
    where
      by : (undo g change ≡ before) ⊎ (undo g change ≡ with_empty_place before) → IsWired (undo g change)
      by (inl same) = subst IsWired (sym same) undone.wired
      by (inr more) = subst IsWired (sym more) (wired_more before undone.wired)

  -- what covers the graph before covers that one
  covers_undone : (m : WordData) → CoversInWords before m → CoversInWords (undo g change) m
  covers_undone m covers = by undone.is
    where
      by : (undo g change ≡ before) ⊎ (undo g change ≡ with_empty_place before) → CoversInWords (undo g change) m
      by (inl same) = subst (λ (h : GraphData). CoversInWords h m) (sym same) covers
      by (inr more) = subst (λ (h : GraphData). CoversInWords h m) (sym more) (covers_more before m undone.wired covers)

  -- with the same texts
  known_undone : (kept : List GroupTextData) (m : WordData) → CoversInWords before m → IsKeptBy before kept m.machine → IsKeptBy (undo g change) kept m.machine
  known_undone kept m covers known = by undone.is
    where
      by : (undo g change ≡ before) ⊎ (undo g change ≡ with_empty_place before) → IsKeptBy (undo g change) kept m.machine
      by (inl same) = subst (λ (h : GraphData). IsKeptBy h kept m.machine) (sym same) known
      by (inr more) =
          subst (λ (h : GraphData). IsKeptBy h kept m.machine) (sym more) (empty_places_keep_texts before kept m.machine undone.wired covers.plain known)

  -- so what serves can follow
  pub follows_served : (large : ℕ) (kept : List GroupTextData) (found : Option ColumnMachine) → IfSome found (Serves large before kept) →
      IfSome found (CanFollow (undo g change))
  follows_served large kept None serves = tt
  follows_served large kept (Some (Together m)) serves = covers_undone m serves.covers
  follows_served large kept (Some (InTurn m)) serves = tt

  -- and what followed serves
  served_edited : IsWired g → (large : ℕ) (kept : List GroupTextData) (machine next : ColumnMachine) → EditsColumns g change machine next →
      Serves large before kept machine → Serves large g kept next
  served_edited wired large kept (Together m) next (now, is, edits) serves =
      subst (λ (one : ColumnMachine). Serves large g kept one) (sym is) (record {
        covers = edits.covers;
        known = edits_keep_texts g change kept m.machine now.machine wired_undone wired (covers_undone m serves.covers).plain edits.machine
            (known_undone kept m serves.covers serves.known);
        first = tt;
      })
  served_edited wired large kept (InTurn m) next edits serves = absurd edits

  pub serves_edited : IsWired g → (kept : List GroupTextData) (old new : StageData) → IfSome new.machine (EditsFrom g change old.machine) → new.large ≡ old.large →
      ServesIn old before kept → ServesIn new g kept
  serves_edited wired kept old new from large serves =
      subst (λ (n : ℕ). IfSome new.machine (Serves n g kept)) (sym large) (by new.machine from)
    where
      by : (found : Option ColumnMachine) → IfSome found (EditsFrom g change old.machine) → IfSome found (Serves old.large g kept)
      by None none = tt
      by (Some next) (machine, was, edits) =
          served_edited wired old.large kept machine next edits
          (subst (λ (one : Option ColumnMachine). IfSome one (Serves old.large before kept)) was serves)

-- ---- after an edit

-- the columns grew
pub grows_edited : (g : GraphData) (change : Change) (machine next : ColumnMachine) → EditsColumns g change machine next →
    GrowsHeld g (columns_of machine) (highs_of machine) (lows_of machine) (Built next)
grows_edited g change (Together m) next (now, is, edits) = record {
  each = λ column inside. ap (λ (one : ColumnMachine). column_states column (highs_of one) (lows_of one)) is ∙ edits.each column inside;
  columns_are = tt;
  same = ap columns_of is ∙ edits.columns;
}
grows_edited g change (InTurn m) next edits = absurd edits

-- and the texts of the last build are the same
pub last_edited : (g : GraphData) (change : Change) (machine next : ColumnMachine) → EditsColumns g change machine next → last_in next ≡ last_in machine
last_edited g change (Together m) next (now, is, edits) = ap last_in is ∙ edits.machine.last
last_edited g change (InTurn m) next edits = absurd edits
