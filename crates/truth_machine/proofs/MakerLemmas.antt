-- A machine whose maker made more, and one that goes on over another maker.
use Rattle.std.proofs.Common.{◌≡◌, ℕ, ◌<◌, Bool, true, List, length, All, Vec, Global, refl, sym, subst}
use Rattle.ternary.specs.declared.tern.Tern.{Tern}
use Rattle.switch_paths.specs.Graphs.{GraphData}
use Rattle.machine_parts.specs.declared.part.MachinePart.{MachinePart}
use Rattle.part_lists.specs.Listing.{AreLists}
use Rattle.decision_graph.specs.declared.vertex.Function.{Function}
use Rattle.decision_graph.specs.Vertices.{Extends}
use Rattle.decision_graph.specs.Graphs as graph
use Rattle.truth_columns.specs.Columns.{AreKept}
use Rattle.truth_columns.proofs.ColumnLemmas.{All-kept}
use Rattle.truth_makers.specs.declared.symbols.Symbols.{Symbols}
use Rattle.truth_makers.specs.Makers.{columns_in, function_holds, IsFunctionOf}
use Rattle.truth_makers.proofs.SymbolLemmas.{functions-kept}
use Rattle.truth_parts.specs.declared.workspace.Workspace.{Workspace}
use Rattle.truth_parts.specs.Columns.{AreColumns}
use Rattle.truth_parts.specs.Evaluating.{Rooms, rooms, IsWorkspace, IsSeated, HasRoomFor}
use Rattle.truth_parts.specs.Fitting.{HasFit}
use Rattle.truth_parts.specs.Stepping.{IsRunnable}
use Rattle.truth_machine.specs.Machines.{IsTruthMachine, TruthData, column_of, FitsInMachine}
use Rattle.truth_machine.specs.Moving.{Rests}
use Rattle.truth_machine.specs.Symbols.{MakesMore}
use Rattle.truth_machine.proofs.MakingLemmas.{IsTruthMachine-again}
use Rattle.truth_machine.proofs.MovingLemmas.{AreColumns-rest, column-rests, FitsInMachine-rests}

-- seated parts have room at another workspace that is large enough
reseated : (count : ℕ) (parts : List MachinePart) (room new_room : Rooms) → All (IsSeated count room) parts → HasRoomFor parts new_room → All (IsSeated count new_room) parts
reseated count parts room new_room seated fits k d inside =
    let own = seated k d inside in
    record { other = own.other; seated = own.seated; value_room = fits.values k d inside; out_room = fits.outs k d inside }

-- with rails of another maker and another workspace it is a machine over truths again
pub IsTruthMachine-moved : {A : Type 0} → (columns : ℕ) (has : A → Type 0) (holds : A → ℕ → Bool) (later : ℕ) (later_has : A → Type 0) (later_holds : A → ℕ → Bool)
    (parts : List MachinePart) (marks : List Bool) (readers owners : List (Vec ℕ Global)) (hi lo new_hi new_lo : List A) (room new_room : Rooms) →
    length new_hi ≡ length hi → HasRoomFor parts new_room → AreColumns later later_holds new_hi new_lo → All later_has new_hi → All later_has new_lo →
    IsTruthMachine columns has holds parts marks readers owners hi lo room →
    IsTruthMachine later later_has later_holds parts marks readers owners new_hi new_lo new_room
IsTruthMachine-moved columns has holds later later_has later_holds parts marks readers owners hi lo new_hi new_lo room new_room long fits are highs lows machine = record {
  runs = subst (λ n. IsRunnable parts marks n readers new_room) (sym long) (record {
    counted = machine.runs.counted;
    seated = reseated (length hi) parts room new_room machine.runs.seated fits;
    apart = machine.runs.apart;
    fresh = machine.runs.fresh;
    readers_are = machine.runs.readers_are;
    changes_room = fits.changes;
    parts_room = fits.parts_room;
  });
  owners_are = subst (λ n. AreLists true parts n owners) (sym long) machine.owners_are;
  columns = are;
  highs = highs;
  lows = lows;
}

-- what fits a graph fits it still, if its columns have the states that they had
pub FitsInMachine-moved : {A M : Type 0} → (columns : M → ℕ) (holds : M → A → ℕ → Bool) (old new : TruthData A M) → new.parts ≡ old.parts → new.marks ≡ old.marks →
    columns new.maker ≡ columns old.maker → ((column : ℕ) → column < columns new.maker → column_of holds new column ≡ column_of holds old column) →
    (g : GraphData) → FitsInMachine columns holds g old → FitsInMachine columns holds g new
FitsInMachine-moved columns holds old new parts marks count states g fits column inside =
    let before : column < columns old.maker = subst (λ n. column < n) count inside in
    subst (λ (state : List Tern). HasFit g new.parts new.marks state) (sym (states column inside))
    (subst (λ (list : List Bool). HasFit g new.parts list (column_of holds old column)) (sym marks)
    (subst (λ (list : List MachinePart). HasFit g list old.marks (column_of holds old column)) (sym parts) (fits column before)))

-- a maker of functions
abbrev maker_of : graph.GraphData → Symbols
maker_of g = record { graph = g }

-- the machine with these parts, marks and rails over a maker
abbrev machine_of : graph.GraphData → List MachinePart → List Bool → List Function → List Function → TruthData Function Symbols
machine_of g parts marks hi lo = record { maker = maker_of g; parts = parts; marks = marks; hi = hi; lo = lo }

module _ (old new : graph.GraphData) (shape : graph.SameShape old new) (extends : Extends old.vertices new.vertices) where
  -- a maker that made more has all functions that it had
  pub makers-kept : AreKept (columns_in (maker_of old)) (IsFunctionOf (maker_of old)) (function_holds (maker_of old))
      (columns_in (maker_of new)) (IsFunctionOf (maker_of new)) (function_holds (maker_of new))
  makers-kept = functions-kept old.variables new.variables old.vertices new.vertices shape.variables extends

  -- and room for a step has functions of it
  IsWorkspace-made : (workspace : Workspace Function) → IsWorkspace (IsFunctionOf (maker_of old)) workspace →
      IsWorkspace (IsFunctionOf (maker_of new)) workspace
  IsWorkspace-made workspace is = record {
    even = is.even;
    values = All-kept _ _ _ _ _ _ workspace.values.items makers-kept is.values;
    highs = All-kept _ _ _ _ _ _ workspace.out_hi.items makers-kept is.highs;
    lows = All-kept _ _ _ _ _ _ workspace.out_lo.items makers-kept is.lows;
  }

  module _ (parts : List MachinePart) (marks : List Bool) (hi lo : List Function)
      (are : AreColumns (columns_in (maker_of old)) (function_holds (maker_of old)) hi lo)
      (highs : All (IsFunctionOf (maker_of old)) hi) (lows : All (IsFunctionOf (maker_of old)) lo) where
    rests : Rests (machine_of old parts marks hi lo) (machine_of new parts marks hi lo)
    rests = record { parts = refl; marks = refl; highs = refl; lows = refl }

    -- the machine is as before over such a maker
    makes_more : MakesMore (machine_of old parts marks hi lo) (machine_of new parts marks hi lo)
    makes_more = record {
      shape = shape;
      extends = extends;
      rests = rests;
      states = λ column inside.
          column-rests columns_in IsFunctionOf function_holds (machine_of old parts marks hi lo) (machine_of new parts marks hi lo) makers-kept highs lows rests column inside;
      fits = λ g fits.
          FitsInMachine-rests columns_in IsFunctionOf function_holds (machine_of old parts marks hi lo) (machine_of new parts marks hi lo) makers-kept highs lows g rests fits;
    }

    -- and a machine over truths
    IsTruthMachine-made_more : (readers owners : List (Vec ℕ Global)) (room : Rooms) →
        IsTruthMachine (columns_in (maker_of old)) (IsFunctionOf (maker_of old)) (function_holds (maker_of old)) parts marks readers owners hi lo room →
        IsTruthMachine (columns_in (maker_of new)) (IsFunctionOf (maker_of new)) (function_holds (maker_of new)) parts marks readers owners hi lo room
    IsTruthMachine-made_more readers owners room machine =
        IsTruthMachine-again (columns_in (maker_of old)) (IsFunctionOf (maker_of old)) (function_holds (maker_of old))
        (columns_in (maker_of new)) (IsFunctionOf (maker_of new)) (function_holds (maker_of new)) parts marks marks readers owners hi lo hi lo room room refl refl refl
        (AreColumns-rest columns_in IsFunctionOf function_holds (machine_of old parts marks hi lo) (machine_of new parts marks hi lo) makers-kept highs lows are rests)
        (All-kept _ _ _ _ _ _ hi makers-kept highs) (All-kept _ _ _ _ _ _ lo makers-kept lows) machine

  -- a machine over such a maker is one still, with its room for a step
  module _ {parts : List MachinePart} {marks : List Bool} {hi lo : List Function} {readers owners : List (Vec ℕ Global)} {workspace : Workspace Function}
      (whole : IsTruthMachine (columns_in (maker_of old)) (IsFunctionOf (maker_of old)) (function_holds (maker_of old)) parts marks readers owners hi lo (rooms workspace)
      × IsWorkspace (IsFunctionOf (maker_of old)) workspace) where
    pub stays_whole : IsTruthMachine (columns_in (maker_of new)) (IsFunctionOf (maker_of new)) (function_holds (maker_of new)) parts marks readers owners hi lo (rooms workspace)
        × IsWorkspace (IsFunctionOf (maker_of new)) workspace
    stays_whole = (
      IsTruthMachine-made_more parts marks hi lo whole.0.columns whole.0.highs whole.0.lows readers owners (rooms workspace) whole.0,
      IsWorkspace-made workspace whole.1,
    )

    -- and as before else
    pub whole_makes : MakesMore (machine_of old parts marks hi lo) (machine_of new parts marks hi lo)
    whole_makes = makes_more parts marks hi lo whole.0.columns whole.0.highs whole.0.lows
