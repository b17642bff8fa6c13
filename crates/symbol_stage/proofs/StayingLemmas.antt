-- What stays of a stage: where its machine is as before, or the maker and the rails, the columns have their states; where functions are placed at a
-- node, each has the letter that they are in it; and a stage that fits a graph has sound states.
use Rattle.std.proofs.Common.{◌≡◌, ℕ, ◌<◌, ◌||◌, Bool, true, List, length, refl, sym, ap, ap₂, subst, ◌∙◌}
use Rattle.std.specs.Prelude.{Result, Ok, Err, OnErr, OnOk, slice_set}
use Rattle.ternary.specs.declared.tern.Tern.{Tern}
use Rattle.ternary.specs.declared.tern.Tern.TheVariants.{Zero, One, Unk}
use Rattle.ternary.specs.Tern.{may_one, may_zero}
use Rattle.switch_paths.specs.Graphs.{GraphData}
use Rattle.column_stage.specs.Columns.{AreSound, IsSoundState}
use Rattle.column_stage.specs.Truths.{KeepsGiven}
use Rattle.decision_graph.specs.declared.vertex.Function.{Function}
use Rattle.truth_columns.specs.Columns.{AreKept}
use Rattle.truth_makers.specs.declared.symbols.Symbols.{Symbols}
use Rattle.truth_makers.specs.Makers.{bound_of, columns_in, function_holds, IsFunctionOf}
use Rattle.truth_makers.proofs.SymbolLemmas.{functions-kept}
use Rattle.truth_parts.specs.Columns as columns
use Rattle.truth_parts.proofs.ColumnLemmas.{state_with-rails}
use Rattle.truth_machine.specs.Machines.{TruthData, column_of, FitsInMachine}
use Rattle.truth_machine.specs.Moving.{PlacesTruths}
use Rattle.truth_machine.specs.Symbols.{MakesMore}
use Rattle.truth_machine.proofs.PlacingLemmas.{states-placed}
use Rattle.symbol_stage.specs.Given.{AreLetters, GivesLetters, letter_by, letter_given}
use Rattle.symbol_stage.specs.Stages.{StageData, FitsIn, bound_in, columns_on, states_in}
use Rattle.symbol_stage.specs.declared.given.Letters.{Letters}

-- ---- the same machine

module _ (old new : StageData) (same : new.machine ≡ old.machine) where
  pub columns_same : columns_on new ≡ columns_on old
  columns_same = ap (λ (m : TruthData Function Symbols). columns_in m.maker) same

  pub states_same : (column : ℕ) → column < columns_on old → states_in new column ≡ states_in old column
  states_same column inside = ap (λ (m : TruthData Function Symbols). column_of function_holds m column) same

  pub fits_same : (g : GraphData) → FitsIn old g → FitsIn new g
  fits_same g fits = subst (λ (m : TruthData Function Symbols). FitsInMachine columns_in function_holds g m) (sym same) fits

-- what fits fitted as it was
pub fits_seen : {was now : StageData} → was ≡ now → (g : GraphData) → FitsIn now g → FitsIn was g
fits_seen is g fits = subst (λ (stage : StageData). FitsIn stage g) (sym is) fits

-- ---- the same maker and rails

module _ (old new : StageData) (same : new.machine.maker ≡ old.machine.maker) where
  pub columns_beside : columns_on new ≡ columns_on old
  columns_beside = ap columns_in same

  -- rails that are these of the old maker
  states_by : (hi lo : List Function) → new.machine.hi ≡ hi → new.machine.lo ≡ lo → (column : ℕ) →
      states_in new column ≡ columns.states_in (function_holds old.machine.maker) column hi lo
  states_by hi lo highs lows column =
      ap (λ (maker : Symbols). columns.states_in (function_holds maker) column new.machine.hi new.machine.lo) same
      ∙ ap₂ (columns.states_in (function_holds old.machine.maker) column) highs lows

  pub states_beside : new.machine.hi ≡ old.machine.hi → new.machine.lo ≡ old.machine.lo → (column : ℕ) → column < columns_on old →
      states_in new column ≡ states_in old column
  states_beside highs lows column inside = states_by old.machine.hi old.machine.lo highs lows column

  -- functions that were its own are so still, and are the same letters
  pub given_beside : KeepsGiven columns_on GivesLetters letter_given bound_in old new
  given_beside = record {
    own = λ given gives. subst (λ (maker : Symbols). AreLetters maker given) (sym same) gives;
    same = λ given column gives inside. ap (λ (maker : Symbols). letter_by maker given column) same;
    bounded = ap bound_of same;
  }

-- a maker that has all functions that it had has them as letters, too
pub given_kept : (old new : StageData) → AreKept (columns_in old.machine.maker) (IsFunctionOf old.machine.maker) (function_holds old.machine.maker)
    (columns_in new.machine.maker) (IsFunctionOf new.machine.maker) (function_holds new.machine.maker) →
    bound_in new ≡ bound_in old → KeepsGiven columns_on GivesLetters letter_given bound_in old new
given_kept old new kept bound = record {
  own = λ given is. record {
    high = kept.there given.hi is.high;
    low = kept.there given.lo is.low;
    some = λ column inside.
        let within : column < columns_in old.machine.maker = subst (λ (n : ℕ). column < n) kept.count inside in
        ap₂ (λ (high low : Bool). high || low) (kept.stays given.hi column is.high within) (kept.stays given.lo column is.low within)
        ∙ is.some column within;
  };
  same = λ given column is inside. ap₂ columns.state_with (kept.stays given.hi column is.high inside) (kept.stays given.lo column is.low inside);
  bounded = bound;
}

-- so where it was such a stage, which goes on with another machine and without room
pub given_next : {was now : StageData} → was ≡ now → (later : TruthData Function Symbols) →
    AreKept (columns_in was.machine.maker) (IsFunctionOf was.machine.maker) (function_holds was.machine.maker)
    (columns_in later.maker) (IsFunctionOf later.maker) (function_holds later.maker) → bound_of later.maker ≡ bound_in was →
    KeepsGiven columns_on GivesLetters letter_given bound_in now (record { machine = later; built = was.built; spare = 0 })
given_next {was} is later kept bound =
    let next : StageData = record { machine = later; built = was.built; spare = 0 } in
    subst (λ (stage : StageData). KeepsGiven columns_on GivesLetters letter_given bound_in stage next) is (given_kept was next kept bound)

-- so has one that is the same
pub given_same : (old new : StageData) → new.machine ≡ old.machine → KeepsGiven columns_on GivesLetters letter_given bound_in old new
given_same old new same = given_beside old new (ap (λ (m : TruthData Function Symbols). m.maker) same)

-- and one that made more
pub given_more : (old new : StageData) → MakesMore old.machine new.machine → KeepsGiven columns_on GivesLetters letter_given bound_in old new
given_more old new makes =
    let one = old.machine.maker.graph in
    let other = new.machine.maker.graph in
    given_kept old new (functions-kept one.variables other.variables one.vertices other.vertices makes.shape.variables makes.extends)
    makes.shape.most

-- functions were placed at a node: each column has the letter there that they are in it
pub states_put : (old new : StageData) (node : ℕ) (given : Letters) →
    columns.AreColumns (columns_on old) (function_holds old.machine.maker) old.machine.hi old.machine.lo → node < length old.machine.hi →
    PlacesTruths node given.hi given.lo old.machine new.machine → (column : ℕ) → column < columns_on old →
    states_in new column ≡ slice_set (states_in old column) node (letter_given old given column)
states_put old new node given are inside places column within =
    let m = old.machine in
    states_by old new places.maker (slice_set m.hi node given.hi) (slice_set m.lo node given.lo) places.highs places.lows column
    ∙ states-placed (function_holds m.maker) column node given.hi given.lo m.hi m.lo are.counted inside

-- ---- one letter for all columns

-- each state has a rail
some_rail : (state : Tern) → (may_one state || may_zero state) ≡ true
some_rail Zero = refl
some_rail One = refl
some_rail Unk = refl

module _ (symbols : Symbols) (state : Tern) (hi lo : Function)
    (highs : (column : ℕ) → column < columns_in symbols → function_holds symbols hi column ≡ may_one state)
    (lows : (column : ℕ) → column < columns_in symbols → function_holds symbols lo column ≡ may_zero state) where
  pub letters_alike : IsFunctionOf symbols hi → IsFunctionOf symbols lo → AreLetters symbols (record { hi = hi; lo = lo })
  letters_alike high_has low_has = record {
    high = high_has;
    low = low_has;
    some = λ column inside. ap₂ (λ (high low : Bool). high || low) (highs column inside) (lows column inside) ∙ some_rail state;
  }

  pub letter_alike : (column : ℕ) → column < columns_in symbols → letter_by symbols (record { hi = hi; lo = lo }) column ≡ state
  letter_alike column inside = ap₂ columns.state_with (highs column inside) (lows column inside) ∙ state_with-rails state

-- ---- a graph that it fits

-- what fits has the states of the graph's nodes, with the rails at theirs
pub sound_fitting : (g : GraphData) (stage : StageData) → FitsIn stage g → AreSound g (columns_on stage) (states_in stage)
sound_fitting g stage fits = λ column inside.
    let fit = fits column inside in
    subst (λ (state : List Tern). IsSoundState g state) fit.state_is (record { counted = fit.fits.covers.counted; sound = fit.fits.sound })

-- ---- by what a call answers

pub on_ok : {A E : Type 0} {P : Type 0} (result : Result A E) → P → OnOk result P
on_ok (Ok value) is = is
on_ok (Err fault) is = tt

pub on_err : {A E : Type 0} {P : Type 0} (result : Result A E) → P → OnErr result P
on_err (Ok value) is = tt
on_err (Err fault) is = is
