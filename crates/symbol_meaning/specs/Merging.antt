-- What the runs under all valuations write is told together. The definitions are over any data of the columns, by their numbers: column c is the run
-- under the valuation with the number c.
use Rattle.std.specs.Prelude.{◌≡◌, ◌≢◌, ◌↔◌, ℕ, ◌<◌, ◌≤◌, Bool, true, false, List, [], ◌∷◌, ◌++◌, length, map, slice_index_or, Option, Some, None}
use Rattle.ternary.specs.declared.tern.Tern.{Tern}
use Rattle.switch_paths.specs.Switching.{state_at}
use Rattle.vector_values.specs.Values.{Letter}
use Rattle.node_values.specs.Givings.{is_vector}
use Rattle.printed_lines.specs.Lines.{wanted_letter}
use Rattle.printed_lines.specs.declared.looks.NodeSort.{NodeSort}
use Rattle.printed_lines.specs.declared.looks.SwitchTold.{SwitchTold}
use Rattle.told_lines.specs.Lines as of_one
use Rattle.told_lines.specs.Lines.{Line}
use Rattle.symbol_lines.specs.declared.items.Item.{Item}
use Rattle.symbol_lines.specs.declared.items.Item.TheVariants as item
use Rattle.symbol_lines.specs.declared.values.SymbolValue.{SymbolValue}
use Rattle.symbol_lines.specs.declared.values.SymbolValue.TheVariants as value
use Rattle.symbol_script.specs.declared.line.Assignment.{Assignment}
use Rattle.symbol_script.specs.declared.line.SymbolLine.{SymbolLine}
use Rattle.symbol_script.specs.declared.line.SymbolLine.TheVariants as line
use Rattle.symbol_script.specs.declared.line.ValueVerb.TheVariants.{Expect}
use Rattle.session_meaning.specs.Sessions.{SessionData}
use Rattle.session_meaning.specs.Effects.{unmet_line}
use Rattle.symbol_meaning.specs.Readings.{Valuations, plain_under}
use Rattle.symbol_meaning.specs.Told.{SwitchOfAll, SymbolTold, Wave, Unmet, Shown, Looked, AtEnd, AtGate}

-- ---- what is the same under all valuations

-- each column has this value; or there is none, and two columns have different ones
abbrev pub IsOfAll : {A : Type 0} → ℕ → (ℕ → A) → Option A → Type 0
IsOfAll columns values (Some own) = (column : ℕ) → column < columns → values column ≡ own
IsOfAll columns values None = (one : ℕ) × (other : ℕ) × (one < columns) × (other < columns) × (values one ≢ values other)

-- so it is with each of several states: the columns have as many
pub record AreOfAll (columns : ℕ) (states : ℕ → List Tern) (letters : List (Option Tern)) : Type 0 where
  pub count : (column : ℕ) → column < columns → length (states column) ≡ length letters
  pub each : (k : ℕ) → k < length letters → IsOfAll columns (λ column. state_at (states column) k) (slice_index_or letters k None)

-- and with a transistor that is looked at. A switch of kind n or p has the same state under two valuations exactly if its gate has
pub record IsSwitchOfAll (columns : ℕ) (switches : ℕ → SwitchTold) (own : SwitchOfAll) : Type 0 where
  pub number : (column : ℕ) → column < columns → (switches column).number ≡ own.number
  pub kind : (column : ℕ) → column < columns → (switches column).kind ≡ own.kind
  pub strength : (column : ℕ) → column < columns → (switches column).strength ≡ own.strength
  pub state : IsOfAll columns (λ column. (switches column).state) own.state

-- the greatest of the columns' numbers
pub record IsGreatest (columns : ℕ) (numbers : ℕ → ℕ) (greatest : ℕ) : Type 0 where
  pub few : (column : ℕ) → column < columns → numbers column ≤ greatest
  pub reached : (column : ℕ) × (column < columns) × (numbers column ≡ greatest)

-- some column has the mark
abbrev pub IsMarked : ℕ → (ℕ → Bool) → Bool → Type 0
IsMarked columns marks mark = (mark ≡ true) ↔ ((column : ℕ) × (column < columns) × (marks column ≡ true))

-- ---- lines that each column writes

-- a line of each column, told together
pub data IsMerged (columns : ℕ) (lines : ℕ → Line) : SymbolTold → Type 0 where
  waves : (n k : ℕ) (mark : Bool) (letters : List (Option Tern)) (counts : ℕ → ℕ) (marks : ℕ → Bool) (states : ℕ → List Tern) →
      ((column : ℕ) → column < columns → lines column ≡ of_one.Wave n (counts column) (marks column) (states column)) →
      IsGreatest columns counts k → IsMarked columns marks mark → AreOfAll columns states letters → IsMerged columns lines (Wave n k mark letters)
  shown : (name : List ℕ) (letters : List (Option Tern)) (states : ℕ → List Tern) →
      ((column : ℕ) → column < columns → lines column ≡ of_one.Shown name (states column)) → AreOfAll columns states letters →
      IsMerged columns lines (Shown name letters)
  looked : (name : List ℕ) (letter : Option Tern) (sort : NodeSort) (states : ℕ → Tern) →
      ((column : ℕ) → column < columns → lines column ≡ of_one.Looked name (states column) sort) → IsOfAll columns states letter →
      IsMerged columns lines (Looked name letter sort)
  at_end : (switch : SwitchOfAll) (gate end : List ℕ) (gate_letter end_letter : Option Tern) (switches : ℕ → SwitchTold) (gates ends : ℕ → Tern) →
      ((column : ℕ) → column < columns → lines column ≡ of_one.AtEnd (switches column) gate (gates column) end (ends column)) →
      IsSwitchOfAll columns switches switch → IsOfAll columns gates gate_letter → IsOfAll columns ends end_letter →
      IsMerged columns lines (AtEnd switch gate gate_letter end end_letter)
  at_gate : (switch : SwitchOfAll) (source drain : List ℕ) (source_letter drain_letter : Option Tern) (switches : ℕ → SwitchTold) (sources drains : ℕ → Tern) →
      ((column : ℕ) → column < columns → lines column ≡ of_one.AtGate (switches column) source (sources column) drain (drains column)) →
      IsSwitchOfAll columns switches switch → IsOfAll columns sources source_letter → IsOfAll columns drains drain_letter →
      IsMerged columns lines (AtGate switch source source_letter drain drain_letter)

-- as many lines of each column, told together line by line
pub data AreMerged (columns : ℕ) : (ℕ → List Line) → List SymbolTold → Type 0 where
  no_line : (lines : ℕ → List Line) → ((column : ℕ) → column < columns → lines column ≡ []) → AreMerged columns lines []
  one_more : (lines others : ℕ → List Line) (own : ℕ → Line) (told : SymbolTold) (more : List SymbolTold) →
      ((column : ℕ) → column < columns → lines column ≡ own column ∷ others column) → IsMerged columns own told → AreMerged columns others more →
      AreMerged columns lines (told ∷ more)

-- ---- expectations

-- the value is one formula
abbrev pub is_formula_alone : List Item → Bool
is_formula_alone [] = false
is_formula_alone (item.Letter letter ∷ items) = false
is_formula_alone (item.Formula parts ∷ []) = true
is_formula_alone (item.Formula parts ∷ other ∷ items) = false

abbrev pub is_formula : SymbolValue → Bool
is_formula (value.Plain plain) = false
is_formula (value.List items) = is_formula_alone items

-- what is told as the value that was wanted of a node, or of a vector: a formula of a node as it is written, and else the letters, with `-` where
-- any will do
abbrev pub wanted_text : (vector formula : Bool) → List ℕ → List Letter → List ℕ
wanted_text false true text wanted = text
wanted_text false false text wanted = map wanted_letter wanted
wanted_text true formula text wanted = map wanted_letter wanted

-- the line of a column in which an assignment isn't met
abbrev pub unmet_in : Valuations → (ℕ → SessionData) → Assignment → ℕ → Option Line
unmet_in v sessions own column =
    unmet_line (sessions column) (plain_under (v.values column) (sessions column).circuit (sessions column).vectors own)

-- a column is the first in which an assignment isn't met: what is told is its line, with its valuation
pub record IsFirstUnmet (v : Valuations) (sessions : ℕ → SessionData) (own : Assignment) (told : SymbolTold) : Type 0 where
  pub column : ℕ
  pub inside : column < v.columns
  pub met_before : (other : ℕ) → other < column → unmet_in v sessions own other ≡ None
  pub name : List ℕ
  pub wanted : List Letter
  pub got : List Tern
  pub n : ℕ
  pub unmet : unmet_in v sessions own column ≡ Some (of_one.Unmet name wanted got n)
  pub told_is : told ≡ Unmet name
      (wanted_text (is_vector (sessions column).circuit (sessions column).vectors own.name) (is_formula own.value) own.text wanted) got n (v.truths column)

-- what is told of an assignment: nothing if it is met in all columns, and else the line of the first in which it isn't
abbrev pub IsToldOf : Valuations → (ℕ → SessionData) → Assignment → List SymbolTold → Type 0
IsToldOf v sessions own [] = (column : ℕ) → column < v.columns → unmet_in v sessions own column ≡ None
IsToldOf v sessions own (told ∷ []) = IsFirstUnmet v sessions own told
IsToldOf v sessions own (told ∷ other ∷ more) = ⊥

-- of all assignments, from left to right
abbrev pub AreToldOf : Valuations → (ℕ → SessionData) → List Assignment → List SymbolTold → Type 0
AreToldOf v sessions [] told = told ≡ []
AreToldOf v sessions (own ∷ others) told =
    (first : List SymbolTold) × (rest : List SymbolTold) × IsToldOf v sessions own first × AreToldOf v sessions others rest × (told ≡ first ++ rest)

-- ---- lines of a script

-- what a line tells that asks for this, of the columns' sessions before it and of what each writes: of an `expect` what is told of its assignments,
-- and else line by line what the columns write
abbrev pub Merges : Valuations → (ℕ → SessionData) → Option SymbolLine → (ℕ → List Line) → List SymbolTold → Type 0
Merges v sessions (Some (line.Values Expect list)) lines told = AreToldOf v sessions list told
Merges v sessions asked lines told = AreMerged v.columns lines told
