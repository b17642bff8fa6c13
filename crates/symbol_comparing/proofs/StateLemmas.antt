-- The states of nodes by their rails: those of a front or a rest of the nodes, those under one valuation, and when two lists of rails have the same.
use Rattle.std.proofs.Common.{◌≡◌, ℕ, zero, suc, ◌+◌, ◌-◌, ◌<◌, ◌^◌, Bool, false, List, [], ◌∷◌, length, map, take, drop, zip, min, get_or, All, refl, sym, ap, ap₂, ◌∙◌, arith}
use Rattle.std.specs.List.{drop-map, take-map}
use Rattle.std.proofs.lemmas.List.{drop_min, drop_more, get_or-map, length-drop, length-map, length-take, same_lists, take_min}
use Rattle.std.proofs.lemmas.List.Elements.{All-drop, All-get_or, All-head, All-tail, All-take, All-weaker}
use Rattle.ternary.specs.declared.tern.Tern.TheVariants.{Zero}
use Rattle.ternary.specs.Tern.{may_one, may_zero}
use Rattle.decision_graph.specs.declared.vertex.Function.{Function}
use Rattle.decision_graph.specs.Graphs.{SameShape}
use Rattle.decision_graph.specs.Vertices.{Extends, IsReduced}
use Rattle.decision_graph.specs.Meaning.{assigned, holds}
use Rattle.decision_graph.proofs.AgreeLemmas.{holds-known}
use Rattle.decision_graph.proofs.ValueLemmas.{holds-extends}
use Rattle.truth_columns.specs.Columns.{values_in}
use Rattle.truth_makers.specs.declared.symbols.Symbols.{Symbols}
use Rattle.truth_makers.specs.Makers.{columns_in, function_holds, IsFunctionOf}
use Rattle.truth_makers.specs.Valuations.{column_of, valuation_of}
use Rattle.truth_makers.proofs.SymbolLemmas.{valuation_of-column}
use Rattle.truth_parts.specs.Columns.{rail_in, state_of, state_with, states_of}
use Rattle.truth_parts.proofs.ColumnLemmas.{state-at}
use Rattle.symbol_comparing.specs.Rails.{RailLists, drop_rails, function_at, letters_in, take_rails, AreRailsOf, HoldAlike}

-- ---- fronts and rests

-- the first elements of a list, up to as many as another has that is as long, and the others
pub take_least : {A : Type 0} (count size : ℕ) (xs : List A) → length xs ≡ size → take (min count size) xs ≡ take count xs
take_least count size xs same = ap (λ (most : ℕ). take (min count most) xs) (sym same) ∙ take_min count xs

pub drop_least : {A : Type 0} (count size : ℕ) (xs : List A) → length xs ≡ size → drop (min count size) xs ≡ drop count xs
drop_least count size xs same = ap (λ (most : ℕ). drop (min count most) xs) (sym same) ∙ drop_min count xs

-- what is left of a list from a place on is what stands there and what is left from the next one on
pub drop_there : {A : Type 0} (xs : List A) (k : ℕ) (d : A) → k < length xs → drop k xs ≡ get_or xs k d ∷ drop (k + 1) xs
drop_there xs k d inside = drop_more xs k d inside

-- pairs of fronts and of rests
zip_none : (xs : List Bool) → ◌≡◌ {A = List (Bool × Bool)} (zip xs []) []
zip_none [] = refl
zip_none (x ∷ xs) = refl

zip_take : (count : ℕ) (xs ys : List Bool) → zip (take count xs) (take count ys) ≡ take count (zip xs ys)
zip_take zero xs ys = refl
zip_take (suc count) [] ys = refl
zip_take (suc count) (x ∷ xs) [] = refl
zip_take (suc count) (x ∷ xs) (y ∷ ys) = ap (λ (rest : List (Bool × Bool)). (x, y) ∷ rest) (zip_take count xs ys)

zip_drop : (count : ℕ) (xs ys : List Bool) → zip (drop count xs) (drop count ys) ≡ drop count (zip xs ys)
zip_drop zero xs ys = refl
zip_drop (suc count) [] ys = refl
zip_drop (suc count) (x ∷ xs) [] = zip_none (drop count xs)
zip_drop (suc count) (x ∷ xs) (y ∷ ys) = zip_drop count xs ys

module _ (symbols : Symbols) (rails : RailLists) where
  abbrev value : ℕ → Function → Bool
  value column = λ f. function_holds symbols f column

  -- the states of a front are the front of the states, and so with the rest
  pub letters_take : (count column : ℕ) → letters_in symbols (take_rails count rails) column ≡ take count (letters_in symbols rails column)
  letters_take count column =
      let ones = values_in (function_holds symbols) column rails.highs in
      let zeros = values_in (function_holds symbols) column rails.lows in
      ap₂ states_of (sym (take-map (value column) count rails.highs)) (sym (take-map (value column) count rails.lows))
      ∙ ap (map state_of) (zip_take count ones zeros) ∙ sym (take-map state_of count (zip ones zeros))

  pub letters_drop : (count column : ℕ) → letters_in symbols (drop_rails count rails) column ≡ drop count (letters_in symbols rails column)
  letters_drop count column =
      let ones = values_in (function_holds symbols) column rails.highs in
      let zeros = values_in (function_holds symbols) column rails.lows in
      ap₂ states_of (sym (drop-map (value column) count rails.highs)) (sym (drop-map (value column) count rails.lows))
      ∙ ap (map state_of) (zip_drop count ones zeros) ∙ sym (drop-map state_of count (zip ones zeros))

  -- the rails of a front are rails, and so are those of the rest
  pub rails_take : (count : ℕ) → AreRailsOf symbols rails → AreRailsOf symbols (take_rails count rails)
  rails_take count are = record {
    columns = record {
      counted = length-take count rails.lows ∙ ap (min count) are.columns.counted ∙ sym (length-take count rails.highs);
      each = λ column inside. record {
        ones = sym (take-map (value column) count rails.highs) ∙ ap (take count) (are.columns.each column inside).ones
            ∙ take-map may_one count (letters_in symbols rails column) ∙ ap (map may_one) (sym (letters_take count column));
        zeros = sym (take-map (value column) count rails.lows) ∙ ap (take count) (are.columns.each column inside).zeros
            ∙ take-map may_zero count (letters_in symbols rails column) ∙ ap (map may_zero) (sym (letters_take count column));
      };
    };
    highs = All-take (IsFunctionOf symbols) count rails.highs are.highs;
    lows = All-take (IsFunctionOf symbols) count rails.lows are.lows;
  }

  pub rails_drop : (count : ℕ) → AreRailsOf symbols rails → AreRailsOf symbols (drop_rails count rails)
  rails_drop count are = record {
    columns = record {
      counted = length-drop count rails.lows ∙ ap (λ (size : ℕ). size - count) are.columns.counted ∙ sym (length-drop count rails.highs);
      each = λ column inside. record {
        ones = sym (drop-map (value column) count rails.highs) ∙ ap (drop count) (are.columns.each column inside).ones
            ∙ drop-map may_one count (letters_in symbols rails column) ∙ ap (map may_one) (sym (letters_drop count column));
        zeros = sym (drop-map (value column) count rails.lows) ∙ ap (drop count) (are.columns.each column inside).zeros
            ∙ drop-map may_zero count (letters_in symbols rails column) ∙ ap (map may_zero) (sym (letters_drop count column));
      };
    };
    highs = All-drop (IsFunctionOf symbols) count rails.highs are.highs;
    lows = All-drop (IsFunctionOf symbols) count rails.lows are.lows;
  }

-- ---- functions that hold alike

-- no function
abbrev first_place : Function
first_place = record { place = 0 }

-- lists of functions that hold alike have the same values
same_values : (test : Function → Bool) (xs ys : List Function) → length xs ≡ length ys →
    ((k : ℕ) → k < length xs → test (function_at xs k) ≡ test (function_at ys k)) → map test xs ≡ map test ys
same_values test xs ys alike same =
    same_lists (map test xs) (map test ys) (length-map xs test ∙ alike ∙ sym (length-map ys test)) (λ k d inside.
    let here : k < length xs = omega (arith, inside, length-map xs test) in
    get_or-map test xs k first_place d here ∙ same k here ∙ sym (get_or-map test ys k first_place d (omega (arith, here, alike))))

-- and where the values are the same they hold alike
values_alike : (test : Function → Bool) (xs ys : List Function) (k : ℕ) → k < length xs → k < length ys → map test xs ≡ map test ys →
    test (function_at xs k) ≡ test (function_at ys k)
values_alike test xs ys k one other same =
    sym (get_or-map test xs k first_place false one) ∙ ap (λ (values : List Bool). get_or values k false) same ∙ get_or-map test ys k first_place false other

module _ (symbols : Symbols) (one other : RailLists) (first : AreRailsOf symbols one) (second : AreRailsOf symbols other)
    (even : length other.highs ≡ length one.highs) where
  abbrev valuation : ℕ → ℕ → Bool
  valuation column = valuation_of symbols.graph.variables column

  -- where the rails hold alike the states are the same
  pub letters_alike : (column : ℕ) → HoldAlike symbols.graph.vertices (valuation column) (length one.highs) one other →
      letters_in symbols one column ≡ letters_in symbols other column
  letters_alike column alike =
      ap₂ states_of
      (same_values (λ f. function_holds symbols f column) one.highs other.highs (sym even) (λ k inside. (alike k inside).0))
      (same_values (λ f. function_holds symbols f column) one.lows other.lows (first.columns.counted ∙ sym even ∙ sym second.columns.counted)
      (λ k inside. (alike k (omega (arith, inside, first.columns.counted))).1))

  -- and the other way round
  pub alike_letters : (column : ℕ) → column < columns_in symbols → letters_in symbols one column ≡ letters_in symbols other column →
      HoldAlike symbols.graph.vertices (valuation column) (length one.highs) one other
  alike_letters column inside same = λ k here.
      let own = first.columns.each column inside in
      let its = second.columns.each column inside in
      let test : Function → Bool = λ f. function_holds symbols f column in (
        values_alike test one.highs other.highs k here (omega (arith, here, even)) (own.ones ∙ ap (map may_one) same ∙ sym its.ones),
        values_alike test one.lows other.lows k (omega (arith, here, first.columns.counted)) (omega (arith, here, even, second.columns.counted))
            (own.zeros ∙ ap (map may_zero) same ∙ sym its.zeros),
      )

-- ---- a later maker

module _ (old new : Symbols) (shape : SameShape old.graph new.graph) (extends : Extends old.graph.vertices new.graph.vertices) where
  -- there are as many columns
  pub columns_same : columns_in new ≡ columns_in old
  columns_same = ap (λ (variables : ℕ). 2 ^ variables) shape.variables

  -- functions that there were hold where they held
  pub holds_later : (f : Function) (column : ℕ) → IsFunctionOf old f → function_holds new f column ≡ function_holds old f column
  holds_later f column inside =
      ap (λ (variables : ℕ). holds new.graph.vertices (valuation_of variables column) f.place) shape.variables
      ∙ holds-extends old.graph.vertices new.graph.vertices (valuation_of old.graph.variables column) f.place extends inside

  -- lists of them have the same values
  values_later : (column : ℕ) (list : List Function) → All (IsFunctionOf old) list →
      values_in (function_holds new) column list ≡ values_in (function_holds old) column list
  values_later column [] all = refl
  values_later column (f ∷ list) all =
      ap₂ (λ (one : Bool) (rest : List Bool). one ∷ rest) (holds_later f column (All-head (IsFunctionOf old) f list all))
      (values_later column list (All-tail (IsFunctionOf old) f list all))

  -- so rails have the same states, and are rails of the later maker
  pub letters_later : (rails : RailLists) (column : ℕ) → AreRailsOf old rails → letters_in new rails column ≡ letters_in old rails column
  letters_later rails column are = ap₂ states_of (values_later column rails.highs are.highs) (values_later column rails.lows are.lows)

  pub rails_later : (rails : RailLists) → AreRailsOf old rails → AreRailsOf new rails
  rails_later rails are = record {
    columns = record {
      counted = are.columns.counted;
      each = λ column inside.
          let own = are.columns.each column (omega (arith, inside, columns_same)) in record {
            ones = values_later column rails.highs are.highs ∙ own.ones ∙ ap (map may_one) (sym (letters_later rails column are));
            zeros = values_later column rails.lows are.lows ∙ own.zeros ∙ ap (map may_zero) (sym (letters_later rails column are));
          };
    };
    highs = All-weaker (IsFunctionOf old) (IsFunctionOf new) (λ f inside. omega (arith, inside, extends.longer)) rails.highs are.highs;
    lows = All-weaker (IsFunctionOf old) (IsFunctionOf new) (λ f inside. omega (arith, inside, extends.longer)) rails.lows are.lows;
  }

-- ---- valuations

-- the state of a node in the column of a valuation is that with its rails under the valuation
pub letter_at : (symbols : Symbols) (rails : RailLists) (vars : List Bool) (k : ℕ) (one other : Bool) → AreRailsOf symbols rails →
    IsReduced symbols.graph.variables symbols.graph.vertices → k < length rails.highs →
    one ≡ holds symbols.graph.vertices (assigned vars) (function_at rails.highs k).place →
    other ≡ holds symbols.graph.vertices (assigned vars) (function_at rails.lows k).place →
    get_or (letters_in symbols rails (column_of (assigned vars) symbols.graph.variables)) k Zero ≡ state_with one other
letter_at symbols rails vars k one other are reduced inside high low =
    let column = column_of (assigned vars) symbols.graph.variables in
    state-at (function_holds symbols) column rails.highs rails.lows are.columns.counted k inside
    ∙ ap₂ state_with (rail rails.highs (All-get_or (IsFunctionOf symbols) rails.highs k first_place inside are.highs) inside ∙ sym high)
    (rail rails.lows (All-get_or (IsFunctionOf symbols) rails.lows k first_place (omega (arith, inside, are.columns.counted)) are.lows)
    (omega (arith, inside, are.columns.counted)) ∙ sym low)
  where
    rail : (list : List Function) → IsFunctionOf symbols (function_at list k) → k < length list →
        rail_in (function_holds symbols) (column_of (assigned vars) symbols.graph.variables) list k
        ≡ holds symbols.graph.vertices (assigned vars) (function_at list k).place
    rail list own within =
        get_or-map (λ f. function_holds symbols f (column_of (assigned vars) symbols.graph.variables)) list k first_place false within
        ∙ holds-known symbols.graph.variables symbols.graph.vertices (valuation_of symbols.graph.variables (column_of (assigned vars) symbols.graph.variables))
        (assigned vars) (function_at list k).place reduced own (λ v known. valuation_of-column symbols.graph.variables (assigned vars) v known)
