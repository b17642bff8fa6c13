-- Functions of another maker that hold where those held in whose place they stand: parts of a list of them, and the states by such rails.
use Rattle.std.proofs.Common.{◌≡◌, ℕ, ◌+◌, ◌^◌, List, [], ◌∷◌, ◌++◌, length, take, drop, All, refl, sym, ap, ap₂, subst, ◌∙◌, arith, append_assoc, length-append, length-drop}
use Rattle.std.proofs.lemmas.List.{drop-map, length-take-le}
use Rattle.std.proofs.lemmas.List.Elements.{All-drop, All-take}
use Rattle.ternary.specs.declared.tern.Tern.{Tern}
use Rattle.decision_graph.specs.declared.vertex.Function.{Function}
use Rattle.decision_graph.specs.Graphs.{SameShape}
use Rattle.truth_columns.specs.Columns.{values_in, HasColumn}
use Rattle.truth_columns.proofs.ColumnLemmas.{values_in-take}
use Rattle.truth_makers.specs.declared.symbols.Symbols.{Symbols}
use Rattle.truth_makers.specs.Makers.{columns_in, function_holds, IsFunctionOf}
use Rattle.symbol_stage.specs.Compacting.{AreMoved, IsMoved}

-- a list in front of another, and the other
front_of : {A : Type 0} → (front rest : List A) → take (length front) (front ++ rest) ≡ front
front_of [] rest = refl
front_of (x ∷ front) rest = ap (λ list. x ∷ list) (front_of front rest)

rest_of : {A : Type 0} → (front rest : List A) → drop (length front) (front ++ rest) ≡ rest
rest_of [] rest = refl
rest_of (x ∷ front) rest = rest_of front rest

module _ (old new : Symbols) (front rest made : List Function) (are : AreMoved old new (front ++ rest) made) where
  long : length made ≡ length front + length rest
  long = are.counted ∙ length-append front rest

  -- what stands in the place of the front
  pub AreMoved-front : AreMoved old new front (take (length front) made)
  AreMoved-front = record {
    shape = are.shape;
    counted = length-take-le (length front) made (omega (arith, long));
    inside = All-take (IsFunctionOf new) (length front) made are.inside;
    same = λ column.
        values_in-take (function_holds new) column (length front) made ∙ ap (λ list. take (length front) list) (are.same column)
        ∙ sym (values_in-take (function_holds old) column (length front) (front ++ rest))
        ∙ ap (λ list. values_in (function_holds old) column list) (front_of front rest);
  }

  -- and of the rest
  pub AreMoved-rest : AreMoved old new rest (drop (length front) made)
  AreMoved-rest = record {
    shape = are.shape;
    counted = omega (arith, long, length-drop (length front) made);
    inside = All-drop (IsFunctionOf new) (length front) made are.inside;
    same = λ column.
        sym (drop-map (λ truth. function_holds new truth column) (length front) made) ∙ ap (λ list. drop (length front) list) (are.same column)
        ∙ drop-map (λ truth. function_holds old truth column) (length front) (front ++ rest)
        ∙ ap (λ list. values_in (function_holds old) column list) (rest_of front rest);
  }

-- what is in the place of three lists in one
pub AreMoved-whole : (old symbols new : Symbols) (hi lo highs lows others roots list all : List Function) → symbols ≡ old → highs ≡ hi → lows ≡ lo →
    roots ≡ (highs ++ lows) ++ others → list ≡ roots → SameShape symbols.graph new.graph → length all ≡ length list → All (IsFunctionOf new) all →
    ((column : ℕ) → values_in (function_holds new) column all ≡ values_in (function_holds symbols) column list) → AreMoved old new ((hi ++ lo) ++ others) all
AreMoved-whole old symbols new hi lo highs lows others roots list all same_maker high low roots_are list_is shape counted inside same =
    let are : list ≡ (hi ++ lo) ++ others = list_is ∙ roots_are ∙ ap₂ (λ (front behind : List Function). (front ++ behind) ++ others) high low in
    record {
      shape = subst (λ (maker : Symbols). SameShape maker.graph new.graph) same_maker shape;
      counted = counted ∙ ap (λ (truths : List Function). length truths) are;
      inside = inside;
      same = λ column. same column ∙ ap₂ (λ (maker : Symbols) (truths : List Function). values_in (function_holds maker) column truths) same_maker are;
    }

-- the parts of three lists
pub IsMoved-parts : (old new : Symbols) (hi lo others all new_hi rest new_lo found : List Function) → AreMoved old new ((hi ++ lo) ++ others) all →
    new_hi ≡ take (length hi) all → rest ≡ drop (length hi) all → new_lo ≡ take (length lo) rest → found ≡ drop (length lo) rest →
    IsMoved old new hi lo others new_hi new_lo found
IsMoved-parts old new hi lo others all new_hi rest new_lo found are highs more lows last =
    let whole : AreMoved old new (hi ++ (lo ++ others)) all = rw (append_assoc hi lo others) at are in
    let behind : AreMoved old new (lo ++ others) rest = rw more (AreMoved-rest old new hi (lo ++ others) all whole) in
    record {
      highs = rw highs (AreMoved-front old new hi (lo ++ others) all whole);
      lows = rw lows (AreMoved-front old new lo others rest behind);
      others = rw last (AreMoved-rest old new lo others rest behind);
    }

-- a maker of the same variables has as many columns
pub columns_moved : (old new : Symbols) → SameShape old.graph new.graph → columns_in new ≡ columns_in old
columns_moved old new shape = ap (λ n. 2 ^ n) shape.variables

-- by such rails the states are as before
pub HasColumn-moved : (old new : Symbols) (hi lo new_hi new_lo : List Function) → AreMoved old new hi new_hi → AreMoved old new lo new_lo → (column : ℕ) (states : List Tern) →
    HasColumn (function_holds old) column hi lo states → HasColumn (function_holds new) column new_hi new_lo states
HasColumn-moved old new hi lo new_hi new_lo highs lows column states was = record { ones = highs.same column ∙ was.ones; zeros = lows.same column ∙ was.zeros }
