-- A stage that goes on over another maker, with what stands for functions outside; and what names and letters mean there.
use Rattle.std.proofs.Common.{◌≡◌, ℕ, ◌<◌, ◌++◌, ◌||◌, Bool, false, List, length, take, drop, get_or, All, refl, sym, ap, ap₂, subst, ◌∙◌, arith}
use Rattle.switch_paths.specs.Graphs.{GraphData}
use Rattle.decision_graph.specs.declared.vertex.Function.{Function}
use Rattle.formula_functions.specs.Tables.{TableData, named_under, table_of, value_named}
use Rattle.truth_columns.proofs.ColumnLemmas.{value_at}
use Rattle.truth_parts.specs.Columns.{state_with}
use Rattle.truth_makers.specs.declared.symbols.Symbols.{Symbols}
use Rattle.truth_makers.specs.Makers.{columns_in, function_holds, IsFunctionOf}
use Rattle.truth_makers.specs.Valuations.{valuation_of}
use Rattle.truth_machine.specs.Machines.{TruthData, column_of, FitsInMachine}
use Rattle.symbol_stage.specs.Compacting.{AreMoved, IsTidied}
use Rattle.symbol_stage.specs.Given.{AreLetters, letter_by}
use Rattle.symbol_stage.specs.Stages.{StageData, FitsIn, columns_on, states_in}
use Rattle.symbol_stage.proofs.MovedLemmas.{AreMoved-front, AreMoved-rest, columns_moved}

-- ---- the stage and what stands outside

-- over the same maker functions are where they are
AreMoved-same : (maker : Symbols) (truths : List Function) → All (IsFunctionOf maker) truths → AreMoved maker maker truths truths
AreMoved-same maker truths inside = record {
  shape = record { variables = refl; most = refl };
  counted = refl;
  inside = inside;
  same = λ column. refl;
}

module _ (old new : StageData) (names : TableData) (kept : List Function) where
  -- nothing was let go
  pub IsTidied-none : All (IsFunctionOf old.machine.maker) names.functions → All (IsFunctionOf old.machine.maker) kept →
      new.machine ≡ old.machine → new.built ≡ old.built → IsTidied old new names names kept kept
  IsTidied-none named inside same built =
      let stays = λ (truths : List Function) (all : All (IsFunctionOf old.machine.maker) truths).
      subst (λ (m : TruthData Function Symbols). AreMoved old.machine.maker m.maker truths truths) (sym same) (AreMoved-same old.machine.maker truths all) in
      record {
        same_names = refl;
        names_moved = stays names.functions named;
        kept_moved = stays kept inside;
        states = λ column within. ap (λ (m : TruthData Function Symbols). column_of function_holds m column) same;
        fits = λ g fits. subst (λ (m : TruthData Function Symbols). FitsInMachine columns_in function_holds g m) (sym same) fits;
        built = built;
      }

  -- or all that nothing needs: the names took the first of what was found, and the list the others
  pub IsTidied-done : (found : List Function) (later : TableData) (kept_later : List Function) →
      AreMoved old.machine.maker new.machine.maker (names.functions ++ kept) found →
      later ≡ table_of names.names (take (length names.functions) found) → kept_later ≡ drop (length names.functions) found →
      ((column : ℕ) → column < columns_on new → states_in new column ≡ states_in old column) →
      ((g : GraphData) → FitsIn old g → FitsIn new g) → new.built ≡ old.built → IsTidied old new names later kept kept_later
  IsTidied-done found later kept_later are named others states fits built = record {
    same_names = ap (λ (table : TableData). table.names) named;
    names_moved = subst (λ (table : TableData). AreMoved old.machine.maker new.machine.maker names.functions table.functions) (sym named)
        (AreMoved-front old.machine.maker new.machine.maker names.functions kept found are);
    kept_moved = subst (λ (list : List Function). AreMoved old.machine.maker new.machine.maker kept list) (sym others)
        (AreMoved-rest old.machine.maker new.machine.maker names.functions kept found are);
    states = states;
    fits = fits;
    built = built;
  }

-- ---- what they mean

module _ (old new : Symbols) (truths made : List Function) (are : AreMoved old new truths made) where
  -- each function holds where that held in whose place it stands
  pub function_moved : (i : ℕ) (past : Function) → i < length truths → (column : ℕ) →
      function_holds new (get_or made i past) column ≡ function_holds old (get_or truths i past) column
  function_moved i past inside column =
      let within : i < length made = omega (arith, inside, are.counted) in
      sym (value_at (function_holds new) column made i past within)
      ∙ ap (λ (bits : List Bool). get_or bits i false) (are.same column)
      ∙ value_at (function_holds old) column truths i past inside

  -- two of them that were letters of the old maker are letters of the new one, and the same in each column
  module _ (i j : ℕ) (past : Function) (first : i < length truths) (second : j < length truths)
      (letters : AreLetters old (record { hi = get_or truths i past; lo = get_or truths j past })) where
    pub letters_moved : AreLetters new (record { hi = get_or made i past; lo = get_or made j past })
    letters_moved = record {
      high = are.inside i past (omega (arith, first, are.counted));
      low = are.inside j past (omega (arith, second, are.counted));
      some = λ column inside.
          ap₂ (λ (high low : Bool). high || low) (function_moved i past first column) (function_moved j past second column)
          ∙ letters.some column (subst (λ (n : ℕ). column < n) (columns_moved old new are.shape) inside);
    }

    pub letter_moved : (column : ℕ) → letter_by new (record { hi = get_or made i past; lo = get_or made j past }) column
        ≡ letter_by old (record { hi = get_or truths i past; lo = get_or truths j past }) column
    letter_moved column = ap₂ state_with (function_moved i past first column) (function_moved j past second column)

-- under the valuation of each column a name has the truth value that it had
pub named_moved : (old new : Symbols) (names later : TableData) → later.names ≡ names.names → AreMoved old new names.functions later.functions →
    (column : ℕ) (name : List ℕ) → named_under new.graph.vertices (valuation_of new.graph.variables column) later name
    ≡ named_under old.graph.vertices (valuation_of old.graph.variables column) names name
named_moved old new names later same are column name =
    ap₂ (λ (own : List (List ℕ)) (truths : List Bool). value_named own truths name) same (are.same column)
