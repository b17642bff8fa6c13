-- Rails that stand behind others: their states are behind theirs.
use Rattle.std.proofs.Common.{◌≡◌, ℕ, ◌+◌, Bool, List, [], ◌∷◌, ◌++◌, length, map, zip, refl, ap, ap₂, sym, ◌∙◌, arith, length-append}
use Rattle.std.proofs.lemmas.List.{length-map, map-append}
use Rattle.std.proofs.lemmas.List.Elements.{All-append, All-nil}
use Rattle.ternary.specs.declared.tern.Tern.{Tern}
use Rattle.ternary.specs.Tern.{may_one, may_zero}
use Rattle.decision_graph.specs.declared.vertex.Function.{Function}
use Rattle.truth_makers.specs.declared.symbols.Symbols.{Symbols}
use Rattle.truth_makers.specs.Makers.{function_holds, IsFunctionOf}
use Rattle.truth_parts.specs.Columns.{state_of, states_of}
use Rattle.symbol_comparing.specs.Rails.{RailLists, letters_in, rails_of, AreRailsOf}

-- pairs behind others
zip_join : (xs more ys others : List Bool) → length ys ≡ length xs → zip (xs ++ more) (ys ++ others) ≡ zip xs ys ++ zip more others
zip_join [] more [] others same = refl
zip_join [] more (y ∷ ys) others same = absurd (omega (arith, same))
zip_join (x ∷ xs) more [] others same = absurd (omega (arith, same))
zip_join (x ∷ xs) more (y ∷ ys) others same = ap (λ (rest : List (Bool × Bool)). (x, y) ∷ rest) (zip_join xs more ys others (omega (arith, same)))

states_join : (ones more zeros others : List Bool) → length zeros ≡ length ones → states_of (ones ++ more) (zeros ++ others) ≡ states_of ones zeros ++ states_of more others
states_join ones more zeros others same =
    ap (map state_of) (zip_join ones more zeros others same) ∙ map-append state_of (zip ones zeros) (zip more others)

-- rails behind others
abbrev pub join_rails : RailLists → RailLists → RailLists
join_rails one other = rails_of (one.highs ++ other.highs) (one.lows ++ other.lows)

module _ (symbols : Symbols) (one other : RailLists) (first : AreRailsOf symbols one) where
  pub letters_join : (column : ℕ) → letters_in symbols (join_rails one other) column ≡ letters_in symbols one column ++ letters_in symbols other column
  letters_join column =
      let value : Function → Bool = λ f. function_holds symbols f column in
      ap₂ states_of (map-append value one.highs other.highs) (map-append value one.lows other.lows)
      ∙ states_join (map value one.highs) (map value other.highs) (map value one.lows) (map value other.lows)
      (length-map one.lows value ∙ first.columns.counted ∙ sym (length-map one.highs value))

  pub rails_join : AreRailsOf symbols other → AreRailsOf symbols (join_rails one other)
  rails_join second = record {
    columns = record {
      counted = length-append one.lows other.lows ∙ ap₂ (λ (n m : ℕ). n + m) first.columns.counted second.columns.counted
          ∙ sym (length-append one.highs other.highs);
      each = λ column inside.
          let value : Function → Bool = λ f. function_holds symbols f column in
          let own = first.columns.each column inside in
          let its = second.columns.each column inside in
          let here : List Tern = letters_in symbols one column in
          let there : List Tern = letters_in symbols other column in record {
            ones = map-append value one.highs other.highs ∙ ap₂ (λ (xs ys : List Bool). xs ++ ys) own.ones its.ones ∙ sym (map-append may_one here there)
                ∙ ap (map may_one) (sym (letters_join column));
            zeros = map-append value one.lows other.lows ∙ ap₂ (λ (xs ys : List Bool). xs ++ ys) own.zeros its.zeros ∙ sym (map-append may_zero here there)
                ∙ ap (map may_zero) (sym (letters_join column));
          };
    };
    highs = All-append (IsFunctionOf symbols) one.highs other.highs first.highs second.highs;
    lows = All-append (IsFunctionOf symbols) one.lows other.lows first.lows second.lows;
  }

-- none are rails
pub rails_none : (symbols : Symbols) → AreRailsOf symbols (rails_of [] [])
rails_none symbols = record {
  columns = record { counted = refl; each = λ column inside. record { ones = refl; zeros = refl } };
  highs = All-nil (IsFunctionOf symbols);
  lows = All-nil (IsFunctionOf symbols);
}
