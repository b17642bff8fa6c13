-- Truths that are placed: in each column a state is, and the machine fits the graph as before.
use Rattle.std.proofs.Common.{◌≡◌, ℕ, ◌<◌, ◌≤◌, Bool, true, false, ◌||◌, inl, inr, List, length, get_or, refl, sym, ap, ap₂, subst, ◌∙◌, arith}
use Rattle.std.specs.Prelude.{slice_set, Option}
use Rattle.std.proofs.lemmas.Bool.{cases_eq}
use Rattle.std.proofs.lemmas.List.{ext_get_or, get_or-set_same, get_or-set_other, length-set}
use Rattle.ternary.specs.declared.tern.Tern.{Tern}
use Rattle.ternary.specs.declared.tern.Tern.TheVariants.{Zero}
use Rattle.switch_paths.specs.declared.TheConstants.{RAILS}
use Rattle.switch_paths.specs.Switching.{state_at}
use Rattle.switch_paths.specs.Graphs.{GraphData, IsWired}
use Rattle.vicinity.specs.Wides.{WideData}
use Rattle.wide_groups.specs.Moving.{PlacesIn}
use Rattle.machine_laws.specs.Machines.{MachineData, Places}
use Rattle.machine_laws.proofs.PlacingLemmas.{placing_keeps_fit, Places-beside}
use Rattle.truth_columns.specs.Columns.{values_in, HasColumn}
use Rattle.truth_columns.proofs.ColumnLemmas.{high_rail, length-values_in, low_rail, values_in-set}
use Rattle.truth_parts.specs.Columns.{state_with, states_in, states_of}
use Rattle.truth_parts.proofs.ColumnLemmas.{HasColumn-each, length-states_of, rails_of-state_with, states_of-at}
use Rattle.truth_parts.proofs.FittingLemmas.{column_machine}
use Rattle.truth_machine.specs.Machines.{TruthData, column_of, FitsInMachine}
use Rattle.truth_machine.specs.Moving.{PlacesTruths}

-- states with other rails at one place
states_of-set : (ones zeros : List Bool) (node : ℕ) (high low : Bool) → length zeros ≡ length ones → node < length ones →
    states_of (slice_set ones node high) (slice_set zeros node low) ≡ slice_set (states_of ones zeros) node (state_with high low)
states_of-set ones zeros node high low even inside =
    let new_even : length (slice_set zeros node low) ≡ length (slice_set ones node high) = length-set zeros node low ∙ (even ∙ sym (length-set ones node high)) in
    let long : length (states_of (slice_set ones node high) (slice_set zeros node low)) ≡ length ones =
    length-states_of (slice_set ones node high) (slice_set zeros node low) new_even ∙ length-set ones node high in
    ext_get_or Zero _ (slice_set (states_of ones zeros) node (state_with high low))
    (long ∙ sym (length-set (states_of ones zeros) node (state_with high low) ∙ length-states_of ones zeros even))
    (λ other within.
    let at : other < length ones = omega (arith, within, long) in
    let read = states_of-at (slice_set ones node high) (slice_set zeros node low) new_even other (omega (arith, at, length-set ones node high)) in
    elim (cases_eq other node) [
      | inl same ↦
          read
          ∙ ap₂ state_with (ap (λ n. get_or (slice_set ones node high) n false) same ∙ get_or-set_same ones node high false inside)
          (ap (λ n. get_or (slice_set zeros node low) n false) same ∙ get_or-set_same zeros node low false (omega (arith, inside, even)))
          ∙ sym (ap (state_at (slice_set (states_of ones zeros) node (state_with high low))) same
          ∙ get_or-set_same (states_of ones zeros) node (state_with high low) Zero (omega (arith, inside, length-states_of ones zeros even)))
      | inr differs ↦
          read
          ∙ ap₂ state_with (get_or-set_other ones node other high false differs) (get_or-set_other zeros node other low false differs)
          ∙ sym (get_or-set_other (states_of ones zeros) node other (state_with high low) Zero differs ∙ states_of-at ones zeros even other at)
    ])

module _ {A : Type 0} (holds : A → ℕ → Bool) (column node : ℕ) (high low : A) (hi lo : List A) (even : length lo ≡ length hi) (inside : node < length hi) where
  abbrev s : Tern
  s = state_with (holds high column) (holds low column)

  -- the column has the placed state at the node, and else its own
  pub states-placed : states_in holds column (slice_set hi node high) (slice_set lo node low) ≡
      slice_set (states_in holds column hi lo) node (state_with (holds high column) (holds low column))
  states-placed =
      ap₂ states_of (values_in-set holds column node high hi) (values_in-set holds column node low lo)
      ∙ states_of-set (values_in holds column hi) (values_in holds column lo) node (holds high column) (holds low column)
      (length-values_in holds column lo ∙ even ∙ sym (length-values_in holds column hi)) (omega (arith, inside, length-values_in holds column hi))

  new_even : length (slice_set lo node low) ≡ length (slice_set hi node high)
  new_even = length-set lo node low ∙ (even ∙ sym (length-set hi node high))

  -- and the truths are states again
  pub HasColumn-placed : (holds high column || holds low column) ≡ true → HasColumn holds column hi lo (states_in holds column hi lo) →
      HasColumn holds column (slice_set hi node high) (slice_set lo node low) (states_in holds column (slice_set hi node high) (slice_set lo node low))
  HasColumn-placed some has =
      HasColumn-each holds column (slice_set hi node high) (slice_set lo node low) new_even (λ other within.
      let at : other < length hi = omega (arith, within, length-set hi node high) in
      let ones = values_in-set holds column node high hi in
      let zeros = values_in-set holds column node low lo in
      elim (cases_eq other node) [
        | inl same ↦
            let (one, two) = rails_of-state_with (holds high column) (holds low column) some in (
              s,
              ap₂ (λ bits n. get_or bits n false) ones same
                  ∙ get_or-set_same (values_in holds column hi) node (holds high column) false (omega (arith, inside, length-values_in holds column hi)) ∙ one,
              ap₂ (λ bits n. get_or bits n false) zeros same
                  ∙ get_or-set_same (values_in holds column lo) node (holds low column) false (omega (arith, inside, even, length-values_in holds column lo)) ∙ two,
            )
        | inr differs ↦ (
          state_at (states_in holds column hi lo) other,
          ap (λ bits. get_or bits other false) ones ∙ get_or-set_other (values_in holds column hi) node other (holds high column) false differs
              ∙ high_rail holds column hi lo (states_in holds column hi lo) has other at,
          ap (λ bits. get_or bits other false) zeros ∙ get_or-set_other (values_in holds column lo) node other (holds low column) false differs
              ∙ low_rail holds column hi lo (states_in holds column hi lo) has other (omega (arith, at, even)),
        )
      ])

-- the columns fit the graph after truths were placed
pub FitsInMachine-placed : {A M : Type 0} → (columns : M → ℕ) (holds : M → A → ℕ → Bool) (g : GraphData) → IsWired g → (node : ℕ) (high low : A) (old new : TruthData A M) →
    length old.lo ≡ length old.hi → node < length old.hi → RAILS ≤ node → PlacesTruths node high low old new →
    FitsInMachine columns holds g old → FitsInMachine columns holds g new
FitsInMachine-placed {A} {M} columns holds g wired node high low old new even inside no_rail places fits column within =
    let was : column < columns old.maker = subst (λ (m : M). column < columns m) places.maker within in
    let fit = fits column was in
    let value = state_with (holds old.maker high column) (holds old.maker low column) in
    let next : column_of holds new column ≡ slice_set (column_of holds old column) node value =
    ap (λ (m : M). states_in (holds m) column new.hi new.lo) places.maker
    ∙ ap₂ (states_in (holds old.maker) column) places.highs places.lows ∙ states-placed (holds old.maker) column node high low old.hi old.lo even inside in
    let one : MachineData = record fit.machine { parts = old.parts; marks = old.marks; state = column_of holds old column } in
    let two : MachineData = record fit.machine { parts = old.parts; marks = new.marks; state = column_of holds new column } in
    let placed : Places node value one two =
    Places-beside node value one new.marks (column_of holds new column) one.placed one.wide next places.marks.count places.marks.stays places.marks.set places.marks.only
    (subst (λ (wide : Option WideData). PlacesIn node wide wide (column_of holds old column) (column_of holds new column)) (sym fit.without) tt) in
    record {
      machine = two;
      without = fit.without;
      fits = placing_keeps_fit g node value one two wired no_rail (column_machine g old.parts old.marks (column_of holds old column) fit) placed;
      parts_are = sym places.parts;
      marks_are = refl;
      state_is = refl;
    }
