-- Each column is a machine that fits the graph: at first, after a step, and after words were placed.
use Rattle.std.proofs.Common.{◌≡◌, ℕ, ◌<◌, ◌≤◌, Bool, true, false, ◌||◌, inl, inr, List, length, refl, sym, ap, ap₂, subst, ◌∙◌, Result, Ok, Err, arith}
use Rattle.std.specs.Prelude.{slice_set, slice_index, replicate, Option, None, IfOk}
use Rattle.std.proofs.lemmas.Bool.{cases_eq}
use Rattle.std.proofs.lemmas.List.{ext_get_or, get_or-set_same, get_or-set_other, length-set, get_or-replicate}
use Rattle.ternary.specs.declared.tern.Tern.{Tern}
use Rattle.ternary.specs.declared.tern.Tern.TheVariants.{Zero}
use Rattle.switch_paths.specs.declared.TheConstants.{RAILS}
use Rattle.switch_paths.specs.Switching.{state_at}
use Rattle.switch_paths.specs.Graphs.{GraphData, IsWired}
use Rattle.switch_paths.specs.Rails.{IsSound}
use Rattle.switch_paths.specs.Step.{IsStep}
use Rattle.settling.specs.Settling.{IsJoinStep}
use Rattle.word_columns.specs.Columns.{is_in_column, AreRailsIn}
use Rattle.word_columns.proofs.RunLemmas.{high_at_node, low_at_node}
use Rattle.vicinity.specs.Wides.{WideData}
use Rattle.wide_groups.specs.Moving.{MovesIn, RetouchesIn, PlacesIn}
use Rattle.wide_groups.proofs.WideCases.{moves_without}
use Rattle.machine_laws.specs.Machines.{MachineData, Places}
use Rattle.machine_laws.specs.Columns.{AdvancesInColumn, HasNoTexts, in_column}
use Rattle.machine_laws.specs.Fitting.{Covers, FitsGraph}
use Rattle.machine_laws.specs.Beginnings.{HasLast}
use Rattle.machine_laws.proofs.ColumnEdits.{fitting_machines_fit_all}
use Rattle.machine_laws.proofs.FittingLemmas as unit
use Rattle.machine_laws.proofs.PlacingLemmas.{placing_keeps_cover, placing_keeps_fit, Places-beside}
use Rattle.column_machines.specs.Columns.{WordData, state_with, column_states, column_of, machine_of, CoversInWords, FitsInWords, HasSoundColumn}
use Rattle.column_machines.specs.Making.{IsMadeOf}
use Rattle.column_machines.specs.Running.{StepsTo, AreColumns}
use Rattle.column_machines.specs.Stepping.{StepsColumns}
use Rattle.column_machines.specs.Placing.{PlacesWords}
use Rattle.column_machines.proofs.ColumnLemmas.{length-column_states, column_states-at, column_states-has, AreRailsIn-each, rails_of-state_with}

module _ (g : GraphData) (wired : IsWired g) (m : MachineData) (without : m.wide ≡ None) (marks new_marks : List Bool) (state next : List Tern) (bit : Bool)
    (fits : FitsGraph g (in_column m marks state)) where
  -- a column's step is one of a machine that fits the graph
  advances : (joining : Bool) → StepsTo joining m.parts marks new_marks state next bit →
      AdvancesInColumn joining (in_column m marks state) (in_column m new_marks next)
  advances joining steps = record {
    step = record {
      moves = subst (λ (wide : Option WideData). MovesIn joining m.parts marks wide state next) (sym without) (moves_without joining m.parts marks state next steps.moves);
      wide = subst (λ (wide : Option WideData). RetouchesIn joining wide wide state next) (sym without) tt;
      build = record { groups = refl; last = refl; spare = refl };
      held = record { parts = refl; uses = refl; texts = refl };
    };
    marks = steps.keeps;
  }

  -- so it is the unit step, or the joining step
  pub plain_step : StepsTo false m.parts marks new_marks state next bit → IsStep g state next
  plain_step steps = (unit.columns_step_apart g _ _ wired fits (advances false steps)).0

  pub join_step : StepsTo true m.parts marks new_marks state next bit → IsJoinStep g state next
  join_step steps = (unit.columns_join_apart g _ _ wired fits (advances true steps)).0

  -- and the column fits the graph again
  pub fits_again : (joining : Bool) → StepsTo joining m.parts marks new_marks state next bit → FitsGraph g (in_column m new_marks next)
  fits_again true steps = (unit.columns_join_apart g _ _ wired fits (advances true steps)).1
  fits_again false steps = (unit.columns_step_apart g _ _ wired fits (advances false steps)).1

-- the columns fit the graph after a step
pub FitsInWords-stepped : (g : GraphData) → IsWired g → (joining : Bool) (old new : WordData) (changed : ℕ) → StepsColumns joining old new changed →
    FitsInWords g old → FitsInWords g new
FitsInWords-stepped g wired joining old new changed steps fits = record {
  plain = subst (FitsGraph g) (sym steps.machine) fits.plain;
  without = ap (λ (m : MachineData). m.wide) steps.machine ∙ fits.without;
  last = subst (λ (m : MachineData). HasLast g m.last) (sym steps.machine) fits.last;
  each = λ column inside.
      let was : column < old.columns = subst (λ n. column < n) steps.columns inside in
      subst (λ (m : MachineData). FitsGraph g (in_column m new.marks (column_of new column))) (sym steps.machine)
      (fits_again g wired old.machine fits.without old.marks new.marks (column_of old column) (column_of new column) (is_in_column column changed) (fits.each column was) joining
      (steps.each column was));
}

-- each column takes the graph's step
pub IsStep-in_column : (g : GraphData) → IsWired g → (old new : WordData) (changed : ℕ) → StepsColumns false old new changed → FitsInWords g old →
    (column : ℕ) → column < old.columns → IsStep g (column_of old column) (column_of new column)
IsStep-in_column g wired old new changed steps fits column inside =
    plain_step g wired old.machine fits.without old.marks new.marks (column_of old column) (column_of new column) (is_in_column column changed) (fits.each column inside)
    (steps.each column inside)

pub IsJoinStep-in_column : (g : GraphData) → IsWired g → (old new : WordData) (changed : ℕ) → StepsColumns true old new changed → FitsInWords g old →
    (column : ℕ) → column < old.columns → IsJoinStep g (column_of old column) (column_of new column)
IsJoinStep-in_column g wired old new changed steps fits column inside =
    join_step g wired old.machine fits.without old.marks new.marks (column_of old column) (column_of new column) (is_in_column column changed) (fits.each column inside)
    (steps.each column inside)

-- ---- at first

-- a machine that fits the graph does so in each column, where all parts are marked
pub FitsInWords-fresh : (g : GraphData) (m : MachineData) (columns : ℕ) (hi lo : List ℕ) (made : WordData) → FitsGraph g m → m.wide ≡ None → HasLast g m.last →
    length lo ≡ length hi → ((column : ℕ) → column < columns → HasSoundColumn g hi lo column) → IsMadeOf columns m hi lo made → FitsInWords g made
FitsInWords-fresh g m columns hi lo made fits without last even sound is = record {
  plain = subst (FitsGraph g) (sym is.machine_is) fits;
  without = ap (λ (one : MachineData). one.wide) is.machine_is ∙ without;
  last = subst (λ (one : MachineData). HasLast g one.last) (sym is.machine_is) last;
  each = λ column inside.
      let has = sound column (subst (λ n. column < n) is.columns_are inside) in
      let same : column_of made column ≡ has.state =
      ap₂ (column_states column) is.highs is.lows ∙ column_states-has column hi lo even has.state has.has in
      let marks = replicate (length m.parts) true in
      let fit = unit.marked_machines_fit g m marks has.state fits without
      (λ k within. get_or-replicate (length m.parts) k true false (omega (arith, within))) has.counted has.sound in
      subst (λ (one : MachineData). FitsGraph g (in_column one made.marks (column_of made column))) (sym is.machine_is)
      (subst (λ (list : List Bool). FitsGraph g (in_column m list (column_of made column))) (sym is.marks_are)
      (subst (λ (state : List Tern). FitsGraph g (in_column m marks state)) (sym same) fit));
}

-- the columns are states
pub AreColumns-sound : (g : GraphData) (columns : ℕ) (hi lo : List ℕ) → length lo ≡ length hi → ((column : ℕ) → column < columns → HasSoundColumn g hi lo column) →
    AreColumns columns hi lo
AreColumns-sound g columns hi lo even sound = record {
  counted = even;
  each = λ column inside.
      let has = sound column inside in
      subst (AreRailsIn column hi lo) (sym (column_states-has column hi lo even has.state has.has)) has.has;
}

-- ---- placed words

module _ (column node high low : ℕ) (hi lo : List ℕ) (even : length lo ≡ length hi) (inside : node < length hi) where
  abbrev s : Tern
  s = state_with (is_in_column column high) (is_in_column column low)

  new_even : length (slice_set lo node low) ≡ length (slice_set hi node high)
  new_even = length-set lo node low ∙ (even ∙ sym (length-set hi node high))

  -- the column has the placed state at the node, and else its own
  pub column_states-placed : column_states column (slice_set hi node high) (slice_set lo node low) ≡ slice_set (column_states column hi lo) node s
  column_states-placed =
      let long = length-column_states column (slice_set hi node high) (slice_set lo node low) new_even in
      ext_get_or Zero _ (slice_set (column_states column hi lo) node s)
      (long ∙ (length-set hi node high ∙ sym (length-set (column_states column hi lo) node s ∙ length-column_states column hi lo even)))
      (λ other within.
      let there : other < length (slice_set hi node high) = omega (arith, within, long) in
      let at : other < length hi = omega (arith, there, length-set hi node high) in
      let read = column_states-at column (slice_set hi node high) (slice_set lo node low) new_even other there in
      elim (cases_eq other node) [
        | inl same ↦
            let one = ap (slice_index (slice_set hi node high)) same ∙ get_or-set_same hi node high 0 inside in
            let two = ap (slice_index (slice_set lo node low)) same ∙ get_or-set_same lo node low 0 (omega (arith, inside, even)) in
            read ∙ ap₂ (λ a b. state_with (is_in_column column a) (is_in_column column b)) one two
            ∙ sym (ap (state_at (slice_set (column_states column hi lo) node s)) same ∙ get_or-set_same (column_states column hi lo) node s Zero (omega (arith, inside, length-column_states column hi lo even)))
        | inr differs ↦
            let one = get_or-set_other hi node other high 0 differs in
            let two = get_or-set_other lo node other low 0 differs in
            read ∙ ap₂ (λ a b. state_with (is_in_column column a) (is_in_column column b)) one two
            ∙ sym (get_or-set_other (column_states column hi lo) node other s Zero differs ∙ column_states-at column hi lo even other at)
      ])

  -- and the words are states again
  pub AreRailsIn-placed : (is_in_column column high || is_in_column column low) ≡ true → AreRailsIn column hi lo (column_states column hi lo) →
      AreRailsIn column (slice_set hi node high) (slice_set lo node low) (column_states column (slice_set hi node high) (slice_set lo node low))
  AreRailsIn-placed some has =
      AreRailsIn-each column (slice_set hi node high) (slice_set lo node low) new_even (λ other within.
      let at : other < length hi = omega (arith, within, length-set hi node high) in
      elim (cases_eq other node) [
        | inl same ↦
            let (one, two) = rails_of-state_with (is_in_column column high) (is_in_column column low) some in (
              s,
              ap (is_in_column column) (ap (slice_index (slice_set hi node high)) same ∙ get_or-set_same hi node high 0 inside) ∙ one,
              ap (is_in_column column) (ap (slice_index (slice_set lo node low)) same ∙ get_or-set_same lo node low 0 (omega (arith, inside, even))) ∙ two,
            )
        | inr differs ↦ (
          state_at (column_states column hi lo) other,
          ap (is_in_column column) (get_or-set_other hi node other high 0 differs)
              ∙ high_at_node column hi lo (column_states column hi lo) has other at,
          ap (is_in_column column) (get_or-set_other lo node other low 0 differs)
              ∙ low_at_node column hi lo (column_states column hi lo) has even other at,
        )
      ])

module _ (g : GraphData) (wired : IsWired g) (node high low : ℕ) (old new : WordData) (even : length old.lo ≡ length old.hi) (inside : node < length old.hi)
    (places : PlacesWords node high low old new) (without : old.machine.wide ≡ None) (column : ℕ) where
  abbrev value : Tern
  value = state_with (is_in_column column high) (is_in_column column low)

  -- in a column it is a node that is placed in a machine
  placed_in : Places node value (machine_of old column) (in_column old.machine new.marks (column_of new column))
  placed_in =
      let next : column_of new column ≡ slice_set (column_of old column) node value =
      ap₂ (column_states column) places.highs places.lows ∙ column_states-placed column node high low old.hi old.lo even inside in
      let one : MachineData = machine_of old column in
      Places-beside node value one new.marks (column_of new column) one.placed one.wide next places.marks.count places.marks.stays places.marks.set places.marks.only
      (subst (λ (wide : Option WideData). PlacesIn node wide wide (column_of old column) (column_of new column)) (sym without) tt)

  column_fits : RAILS ≤ node → FitsGraph g (machine_of old column) → FitsGraph g (machine_of new column)
  column_fits no_rail fits =
      subst (λ (m : MachineData). FitsGraph g (in_column m new.marks (column_of new column))) (sym places.machine)
      (placing_keeps_fit g node value _ _ wired no_rail fits placed_in)

  column_covers : Covers g (machine_of old column) → Covers g (machine_of new column)
  column_covers covers =
      subst (λ (m : MachineData). Covers g (in_column m new.marks (column_of new column))) (sym places.machine)
      (placing_keeps_cover g node value _ _ wired covers placed_in)

-- the columns fit the graph after words were placed
pub FitsInWords-placed : (g : GraphData) → IsWired g → (node high low : ℕ) (old new : WordData) → length old.lo ≡ length old.hi →
    node < length old.hi → RAILS ≤ node → PlacesWords node high low old new → FitsInWords g old → FitsInWords g new
FitsInWords-placed g wired node high low old new even inside no_rail places fits = record {
  plain = subst (FitsGraph g) (sym places.machine) fits.plain;
  without = ap (λ (m : MachineData). m.wide) places.machine ∙ fits.without;
  last = subst (λ (m : MachineData). HasLast g m.last) (sym places.machine) fits.last;
  each = λ column within.
      column_fits g wired node high low old new even inside places fits.without column no_rail (fits.each column (subst (λ n. column < n) places.columns within));
}

-- and cover it
pub CoversInWords-placed : (g : GraphData) → IsWired g → (node high low : ℕ) (old new : WordData) → length old.lo ≡ length old.hi →
    node < length old.hi → PlacesWords node high low old new → CoversInWords g old → CoversInWords g new
CoversInWords-placed g wired node high low old new even inside places covers = record {
  plain = subst (Covers g) (sym places.machine) covers.plain;
  sound = subst (λ (m : MachineData). IsSound m.state) (sym places.machine) covers.sound;
  without = ap (λ (m : MachineData). m.wide) places.machine ∙ covers.without;
  untold = subst HasNoTexts (sym places.machine) covers.untold;
  fit = covers.fit;
  each = λ column within.
      column_covers g wired node high low old new even inside places covers.without column (covers.each column (subst (λ n. column < n) places.columns within));
}

-- columns that fit the graph cover it
pub CoversInWords-fits : (g : GraphData) (m : WordData) → FitsInWords g m → CoversInWords g m
CoversInWords-fits g m fits =
    let (fit, none) = fitting_machines_fit_all g m.machine fits.plain fits.without in
    record {
      plain = fits.plain.covers;
      sound = fits.plain.sound;
      without = fits.without;
      untold = λ k stale. absurd (none k stale);
      fit = fit;
      each = λ column inside. (fits.each column inside).covers;
    }

-- the columns of one graph that fit it have the same texts of the last build
pub last_fits : (g : GraphData) (one two : WordData) → FitsInWords g one → FitsInWords g two → two.machine.last ≡ one.machine.last
last_fits g one two fits fits_too =
    let groups = fits.plain.covers.groups.groups in
    let are = fits.plain.covers.are.are in
    fits_too.last groups are ∙ sym (fits.last groups are)

-- what holds of what was made so
pub if_made : {E : Type 0} (Is P : WordData → Type 0) (result : Result WordData E) → IfOk result Is → ((made : WordData) → Is made → P made) → IfOk result P
if_made Is P (Ok machine) is then = then machine is
if_made Is P (Err fault) is then = is
