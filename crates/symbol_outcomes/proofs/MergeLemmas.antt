-- Lines that can be told together are: something is told of the columns' lines.
-- The plan: what columns' lines differ in is a family of states, counts or marks, and of each family something is told of all. Lists go line by line, by
-- the lines of one column, with which those of all others can be told.
use Rattle.std.proofs.Common.{◌≡◌, ℕ, ◌<◌, Bool, false, List, [], ◌∷◌, ◌++◌, length, refl, ap, ap₂, subst, ◌∙◌}
use Rattle.ternary.specs.declared.tern.Tern.{Tern}
use Rattle.ternary.specs.declared.tern.Tern.TheVariants.{Unk}
use Rattle.switch_paths.specs.declared.switching.SwitchKind.TheVariants.{Always}
use Rattle.switch_paths.specs.declared.switching.SwitchState.TheVariants.{Unknown}
use Rattle.printed_lines.specs.declared.looks.NodeSort.{NodeSort}
use Rattle.printed_lines.specs.declared.looks.SwitchTold.{SwitchTold}
use Rattle.told_lines.specs.Lines as of_one
use Rattle.told_lines.specs.Lines.{Line}
use Rattle.symbol_meaning.specs.Told.{SwitchOfAll, SymbolTold, Wave, Shown, Looked, AtEnd, AtGate}
use Rattle.symbol_meaning.specs.Merging.{AreMerged, IsMerged, IsSwitchOfAll}
use Rattle.symbol_meaning.specs.Merging.IsMerged.{waves, shown, looked, at_end, at_gate}
use Rattle.symbol_meaning.specs.Merging.AreMerged.{no_line, one_more}
use Rattle.symbol_outcomes.specs.Shapes.{AreToldWith, IsSameSwitch, IsToldWith}
use Rattle.symbol_outcomes.proofs.SearchLemmas.{greatest_of_all, letter_of_all, letters_of_all, mark_of_all, switch_of_all}

-- ---- what a line has that may differ from column to column; of a line of another sort it is anything

abbrev count_in : Line → ℕ
count_in (of_one.Wave n k mark states) = k
count_in other = 0

abbrev mark_in : Line → Bool
mark_in (of_one.Wave n k mark states) = mark
mark_in other = false

abbrev states_in : Line → List Tern
states_in (of_one.Wave n k mark states) = states
states_in (of_one.Shown name states) = states
states_in other = []

abbrev state_in : Line → Tern
state_in (of_one.Looked name state sort) = state
state_in (of_one.AtEnd switch gate gate_state end end_state) = gate_state
state_in (of_one.AtGate switch source source_state drain drain_state) = source_state
state_in other = Unk

abbrev last_state_in : Line → Tern
last_state_in (of_one.AtEnd switch gate gate_state end end_state) = end_state
last_state_in (of_one.AtGate switch source source_state drain drain_state) = drain_state
last_state_in other = Unk

abbrev switch_in : Line → SwitchTold
switch_in (of_one.AtEnd switch gate gate_state end end_state) = switch
switch_in (of_one.AtGate switch source source_state drain drain_state) = switch
switch_in other = record { number = 0; kind = Always; strength = 0; state = Unknown }

-- ---- lines with which another can be told

as_wave : (n k : ℕ) (mark : Bool) (states : List Tern) (line : Line) → IsToldWith (of_one.Wave n k mark states) line →
    (line ≡ of_one.Wave n (count_in line) (mark_in line) (states_in line)) × (length (states_in line) ≡ length states)
as_wave n k mark states (of_one.Wave m l sign more) is = (ap (λ (number : ℕ). of_one.Wave number l sign more) is.0, is.1)
as_wave n k mark states (of_one.Unmet name wanted got m) is = absurd is
as_wave n k mark states (of_one.Shown name more) is = absurd is
as_wave n k mark states (of_one.Looked name state sort) is = absurd is
as_wave n k mark states (of_one.AtEnd switch gate gate_state end end_state) is = absurd is
as_wave n k mark states (of_one.AtGate switch source source_state drain drain_state) is = absurd is
as_wave n k mark states (of_one.Reported groups texts fresh) is = absurd is
as_wave n k mark states (of_one.Refused place code name count) is = absurd is

as_shown : (name : List ℕ) (states : List Tern) (line : Line) → IsToldWith (of_one.Shown name states) line →
    (line ≡ of_one.Shown name (states_in line)) × (length (states_in line) ≡ length states)
as_shown name states (of_one.Wave m l sign more) is = absurd is
as_shown name states (of_one.Unmet other wanted got m) is = absurd is
as_shown name states (of_one.Shown other more) is = (ap (λ (own : List ℕ). of_one.Shown own more) is.0, is.1)
as_shown name states (of_one.Looked other state sort) is = absurd is
as_shown name states (of_one.AtEnd switch gate gate_state end end_state) is = absurd is
as_shown name states (of_one.AtGate switch source source_state drain drain_state) is = absurd is
as_shown name states (of_one.Reported groups texts fresh) is = absurd is
as_shown name states (of_one.Refused place code other count) is = absurd is

as_looked : (name : List ℕ) (state : Tern) (sort : NodeSort) (line : Line) → IsToldWith (of_one.Looked name state sort) line →
    line ≡ of_one.Looked name (state_in line) sort
as_looked name state sort (of_one.Wave m l sign more) is = absurd is
as_looked name state sort (of_one.Unmet other wanted got m) is = absurd is
as_looked name state sort (of_one.Shown other more) is = absurd is
as_looked name state sort (of_one.Looked other next kind) is =
    ap₂ (λ (own : List ℕ) (own_sort : NodeSort). of_one.Looked own next own_sort) is.0 is.1
as_looked name state sort (of_one.AtEnd switch gate gate_state end end_state) is = absurd is
as_looked name state sort (of_one.AtGate switch source source_state drain drain_state) is = absurd is
as_looked name state sort (of_one.Reported groups texts fresh) is = absurd is
as_looked name state sort (of_one.Refused place code other count) is = absurd is

as_end : (switch : SwitchTold) (gate : List ℕ) (gate_state : Tern) (end : List ℕ) (end_state : Tern) (line : Line) →
    IsToldWith (of_one.AtEnd switch gate gate_state end end_state) line →
    (line ≡ of_one.AtEnd (switch_in line) gate (state_in line) end (last_state_in line)) × IsSameSwitch switch (switch_in line)
as_end switch gate gate_state end end_state (of_one.Wave m l sign more) is = absurd is
as_end switch gate gate_state end end_state (of_one.Unmet other wanted got m) is = absurd is
as_end switch gate gate_state end end_state (of_one.Shown other more) is = absurd is
as_end switch gate gate_state end end_state (of_one.Looked other state sort) is = absurd is
as_end switch gate gate_state end end_state (of_one.AtEnd other source source_state drain drain_state) is =
    (ap₂ (λ (first second : List ℕ). of_one.AtEnd other first source_state second drain_state) is.1 is.2, is.0)
as_end switch gate gate_state end end_state (of_one.AtGate other source source_state drain drain_state) is = absurd is
as_end switch gate gate_state end end_state (of_one.Reported groups texts fresh) is = absurd is
as_end switch gate gate_state end end_state (of_one.Refused place code other count) is = absurd is

as_gate : (switch : SwitchTold) (gate : List ℕ) (gate_state : Tern) (end : List ℕ) (end_state : Tern) (line : Line) →
    IsToldWith (of_one.AtGate switch gate gate_state end end_state) line →
    (line ≡ of_one.AtGate (switch_in line) gate (state_in line) end (last_state_in line)) × IsSameSwitch switch (switch_in line)
as_gate switch gate gate_state end end_state (of_one.Wave m l sign more) is = absurd is
as_gate switch gate gate_state end end_state (of_one.Unmet other wanted got m) is = absurd is
as_gate switch gate gate_state end end_state (of_one.Shown other more) is = absurd is
as_gate switch gate gate_state end end_state (of_one.Looked other state sort) is = absurd is
as_gate switch gate gate_state end end_state (of_one.AtEnd other source source_state drain drain_state) is = absurd is
as_gate switch gate gate_state end end_state (of_one.AtGate other source source_state drain drain_state) is =
    (ap₂ (λ (first second : List ℕ). of_one.AtGate other first source_state second drain_state) is.1 is.2, is.0)
as_gate switch gate gate_state end end_state (of_one.Reported groups texts fresh) is = absurd is
as_gate switch gate gate_state end end_state (of_one.Refused place code other count) is = absurd is

-- ---- one line of each column

module _ (columns : ℕ) (some : 0 < columns) where
  -- the transistor that all lines tell of
  same_switch : (switch : SwitchTold) (switches : ℕ → SwitchTold) → ((column : ℕ) → column < columns → IsSameSwitch switch (switches column)) →
      (own : SwitchOfAll) × IsSwitchOfAll columns switches own
  same_switch switch switches same =
      let (state, is) = switch_of_all columns some (λ (column : ℕ). (switches column).state) in (
        record { number = switch.number; kind = switch.kind; strength = switch.strength; state = state },
        record {
          number = λ column inside. (same column inside).0;
          kind = λ column inside. (same column inside).1;
          strength = λ column inside. (same column inside).2;
          state = is;
        },
      )

  -- lines that can be told together with one are told
  pub merged_exists : (first : Line) (lines : ℕ → Line) → ((column : ℕ) → column < columns → IsToldWith first (lines column)) →
      (told : SymbolTold) × IsMerged columns lines told
  merged_exists (of_one.Wave n k mark states) lines are =
      let each = λ (column : ℕ) (inside : column < columns). as_wave n k mark states (lines column) (are column inside) in
      let (greatest, greatest_is) = greatest_of_all columns some (λ (column : ℕ). count_in (lines column)) in
      let (marked, marked_is) = mark_of_all columns (λ (column : ℕ). mark_in (lines column)) in
      let (letters, letters_are) = letters_of_all columns some (λ (column : ℕ). states_in (lines column)) (length states) (λ column inside. (each column inside).1) in (
        Wave n greatest marked letters,
        waves n greatest marked letters (λ (column : ℕ). count_in (lines column)) (λ (column : ℕ). mark_in (lines column))
            (λ (column : ℕ). states_in (lines column)) (λ column inside. (each column inside).0) greatest_is marked_is letters_are,
      )
  merged_exists (of_one.Unmet name wanted got n) lines are = absurd (are 0 some)
  merged_exists (of_one.Shown name states) lines are =
      let each = λ (column : ℕ) (inside : column < columns). as_shown name states (lines column) (are column inside) in
      let (letters, letters_are) = letters_of_all columns some (λ (column : ℕ). states_in (lines column)) (length states) (λ column inside. (each column inside).1) in
      (Shown name letters, shown name letters (λ (column : ℕ). states_in (lines column)) (λ column inside. (each column inside).0) letters_are)
  merged_exists (of_one.Looked name state sort) lines are =
      let (letter, letter_is) = letter_of_all columns some (λ (column : ℕ). state_in (lines column)) in (
        Looked name letter sort,
        looked name letter sort (λ (column : ℕ). state_in (lines column)) (λ column inside. as_looked name state sort (lines column) (are column inside)) letter_is,
      )
  merged_exists (of_one.AtEnd switch gate gate_state end end_state) lines are =
      let each = λ (column : ℕ) (inside : column < columns). as_end switch gate gate_state end end_state (lines column) (are column inside) in
      let (own, own_is) = same_switch switch (λ (column : ℕ). switch_in (lines column)) (λ column inside. (each column inside).1) in
      let (first, first_is) = letter_of_all columns some (λ (column : ℕ). state_in (lines column)) in
      let (second, second_is) = letter_of_all columns some (λ (column : ℕ). last_state_in (lines column)) in (
        AtEnd own gate first end second,
        at_end own gate end first second (λ (column : ℕ). switch_in (lines column)) (λ (column : ℕ). state_in (lines column))
            (λ (column : ℕ). last_state_in (lines column)) (λ column inside. (each column inside).0) own_is first_is second_is,
      )
  merged_exists (of_one.AtGate switch gate gate_state end end_state) lines are =
      let each = λ (column : ℕ) (inside : column < columns). as_gate switch gate gate_state end end_state (lines column) (are column inside) in
      let (own, own_is) = same_switch switch (λ (column : ℕ). switch_in (lines column)) (λ column inside. (each column inside).1) in
      let (first, first_is) = letter_of_all columns some (λ (column : ℕ). state_in (lines column)) in
      let (second, second_is) = letter_of_all columns some (λ (column : ℕ). last_state_in (lines column)) in (
        AtGate own gate first end second,
        at_gate own gate end first second (λ (column : ℕ). switch_in (lines column)) (λ (column : ℕ). state_in (lines column))
            (λ (column : ℕ). last_state_in (lines column)) (λ column inside. (each column inside).0) own_is first_is second_is,
      )
  merged_exists (of_one.Reported groups texts fresh) lines are = absurd (are 0 some)
  merged_exists (of_one.Refused place code name count) lines are = absurd (are 0 some)

-- ---- the lines of each column

-- the first of lines, and those behind it
abbrev head_of : List Line → Line
head_of [] = of_one.Reported 0 0 0
head_of (line ∷ lines) = line

abbrev behind : List Line → List Line
behind [] = []
behind (line ∷ lines) = lines

none_with : (lines : List Line) → AreToldWith [] lines → lines ≡ []
none_with [] are = refl
none_with (line ∷ lines) are = absurd are

parted_with : (first : Line) (rest lines : List Line) → AreToldWith (first ∷ rest) lines →
    (lines ≡ head_of lines ∷ behind lines) × IsToldWith first (head_of lines) × AreToldWith rest (behind lines)
parted_with first rest [] are = absurd are
parted_with first rest (line ∷ lines) are = (refl, are.0, are.1)

module _ (columns : ℕ) (some : 0 < columns) where
  -- lines that can be told together with some are told
  pub are_merged_exist : (first : List Line) (lines : ℕ → List Line) → ((column : ℕ) → column < columns → AreToldWith first (lines column)) →
      (told : List SymbolTold) × AreMerged columns lines told
  are_merged_exist [] lines are = ([], no_line lines (λ column inside. none_with (lines column) (are column inside)))
  are_merged_exist (first ∷ rest) lines are =
      let each = λ (column : ℕ) (inside : column < columns). parted_with first rest (lines column) (are column inside) in
      let (told, told_is) = merged_exists columns some first (λ (column : ℕ). head_of (lines column)) (λ column inside. (each column inside).1) in
      let (more, more_are) = are_merged_exist rest (λ (column : ℕ). behind (lines column)) (λ column inside. (each column inside).2) in (
        told ∷ more,
        one_more lines (λ (column : ℕ). behind (lines column)) (λ (column : ℕ). head_of (lines column)) told more (λ column inside. (each column inside).0) told_is more_are,
      )

  -- and if this is told of the first of them, it is told first of all
  pub merged_first : (first : List Line) (lines others : ℕ → List Line) (told : List SymbolTold) → AreMerged columns lines told →
      ((column : ℕ) → column < columns → AreToldWith first (lines column ++ others column)) →
      (more : List SymbolTold) × AreMerged columns (λ (column : ℕ). lines column ++ others column) (told ++ more)
  merged_first first lines others [] (no_line _ nothing) are =
      are_merged_exist first (λ (column : ℕ). lines column ++ others column) are
  merged_first [] lines others (told ∷ more) (one_more _ rest own _ _ starts is after) are =
      absurd (subst (λ (all : List Line). AreToldWith [] (all ++ others 0)) (starts 0 some) (are 0 some))
  merged_first (first ∷ behind_first) lines others (told ∷ more) (one_more _ rest own _ _ starts is after) are =
      let each = λ (column : ℕ) (inside : column < columns).
      subst (λ (all : List Line). AreToldWith (first ∷ behind_first) (all ++ others column)) (starts column inside) (are column inside) in
      let (later, later_are) = merged_first behind_first rest others more after (λ column inside. (each column inside).1) in (
        later,
        one_more (λ (column : ℕ). lines column ++ others column) (λ (column : ℕ). rest column ++ others column) own told (more ++ later)
            (λ column inside. ap (λ (all : List Line). all ++ others column) (starts column inside)) is later_are,
      )

-- what is told of the same lines
pub merged_as : (columns : ℕ) (lines others : ℕ → List Line) (told : List SymbolTold) → ((column : ℕ) → column < columns → others column ≡ lines column) →
    AreMerged columns lines told → AreMerged columns others told
merged_as columns lines others told same (no_line _ nothing) = no_line others (λ column inside. same column inside ∙ nothing column inside)
merged_as columns lines others told same (one_more _ rest own first more starts is after) =
    one_more others rest own first more (λ column inside. same column inside ∙ starts column inside) is after

-- and of lines one after the other
pub merged_append : (columns : ℕ) (lines others : ℕ → List Line) (told more : List SymbolTold) → AreMerged columns lines told → AreMerged columns others more →
    AreMerged columns (λ (column : ℕ). lines column ++ others column) (told ++ more)
merged_append columns lines others told more (no_line _ nothing) later =
    merged_as columns others (λ (column : ℕ). lines column ++ others column) more
    (λ column inside. ap (λ (all : List Line). all ++ others column) (nothing column inside)) later
merged_append columns lines others told more (one_more _ rest own first front starts is after) later =
    one_more (λ (column : ℕ). lines column ++ others column) (λ (column : ℕ). rest column ++ others column) own first (front ++ more)
    (λ column inside. ap (λ (all : List Line). all ++ others column) (starts column inside)) is
    (merged_append columns rest others front more after later)
