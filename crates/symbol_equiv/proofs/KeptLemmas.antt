-- What rails show, and notes, is kept by a later maker that has all functions, and where others stand for them.
use Rattle.std.proofs.Common.{◌≡◌, ℕ, ◌+◌, ◌-◌, ◌<◌, ◌≤◌, ◌^◌, Bool, true, false, List, ◌++◌, length, map, take, drop, nat_lt, All, refl, sym, ap, ap₂, subst, ◌∙◌, arith, append_assoc, length-append}
use Rattle.std.specs.List.{drop-map, take-map}
use Rattle.std.proofs.Math.Pow.{pow-lt}
use Rattle.std.proofs.lemmas.Bool.{ltb-false, ltb-true}
use Rattle.std.proofs.lemmas.List.{drop_at, length-drop, length-map, length-take-le, map-append, take_all, take_at}
use Rattle.std.proofs.lemmas.List.Elements.{All-append, All-drop, All-take}
use Rattle.ternary.specs.declared.tern.Tern.{Tern}
use Rattle.ternary.specs.Tern.{may_one, may_zero}
use Rattle.decision_graph.specs.declared.vertex.Function.{Function}
use Rattle.truth_columns.specs.Columns.{values_in}
use Rattle.truth_columns.proofs.ColumnLemmas.{All-kept, values_in-kept}
use Rattle.truth_makers.specs.declared.symbols.Symbols.{Symbols}
use Rattle.truth_makers.specs.Makers.{columns_in, function_holds, IsFunctionOf}
use Rattle.truth_parts.specs.Columns.{states_of}
use Rattle.symbol_meaning.specs.Readings.{Valuations, truths_in}
use Rattle.symbol_meaning.specs.Comparing.{Watched}
use Rattle.symbol_told.specs.declared.notes.WaveNote.{WaveNote}
use Rattle.symbol_told.specs.Noting.{NotesData}
use Rattle.symbol_comparing.specs.Notes.{rails_in, shown_from, shown_in}
use Rattle.symbol_comparing.specs.Rails.{RailLists, letters_in, rails_of, AreRailsOf}
use Rattle.symbol_comparing.specs.Told.{AreValuationsOf}
use Rattle.symbol_equiv.specs.Notes.{rails_left, with_rails, AreNotes, StillShow}
use Rattle.symbol_equiv.specs.Sharing.{KeepsFunctions, StandFor}

-- ---- valuations

unequal : (one other : ℕ) → one < other → one ≡ other → ⊥
unequal one other less same = omega (arith, less, same)

-- as many columns are those of as many variables
variables_same : (one other : ℕ) → 2 ^ one ≡ 2 ^ other → one ≡ other
variables_same one other same = by (nat_lt one other) (nat_lt other one) refl refl
  where
    by : (less more : Bool) → nat_lt one other ≡ less → nat_lt other one ≡ more → one ≡ other
    by true more is last =
        let grows : 2 ^ one < 2 ^ other = pow-lt (ltb-true one other is) in absurd (unequal (2 ^ one) (2 ^ other) grows same)
    by false true is last =
        let grows : 2 ^ other < 2 ^ one = pow-lt (ltb-true other one last) in absurd (unequal (2 ^ other) (2 ^ one) grows (sym same))
    by false false is last =
        let least : other ≤ one = ltb-false one other is in
        let most : one ≤ other = ltb-false other one last in omega (arith, least, most)

-- so the valuations of a maker are those of one with as many columns
pub valued_later : (old new : Symbols) (v : Valuations) → columns_in new ≡ columns_in old → AreValuationsOf old v → AreValuationsOf new v
valued_later old new v same are = record {
  columns = are.columns ∙ sym same;
  truths = λ column. are.truths column
      ∙ ap (λ (n : ℕ). truths_in n column) (variables_same old.graph.variables new.graph.variables (sym same));
}

-- ---- a maker that has all functions

module _ (old new : Symbols) (keeps : KeepsFunctions old new) where
  values_kept : (column : ℕ) (list : List Function) → column < columns_in old → All (IsFunctionOf old) list →
      values_in (function_holds new) column list ≡ values_in (function_holds old) column list
  values_kept column list inside all =
      values_in-kept (columns_in old) (columns_in new) (IsFunctionOf old) (IsFunctionOf new) (function_holds old) (function_holds new) column list keeps all inside

  pub letters_kept : (rails : RailLists) (column : ℕ) → column < columns_in old → AreRailsOf old rails → letters_in new rails column ≡ letters_in old rails column
  letters_kept rails column inside are =
      ap₂ states_of (values_kept column rails.highs inside are.highs) (values_kept column rails.lows inside are.lows)

  pub rails_kept : (rails : RailLists) → AreRailsOf old rails → AreRailsOf new rails
  rails_kept rails are = record {
    columns = record {
      counted = are.columns.counted;
      each = λ column inside.
          let within : column < columns_in old = omega (arith, inside, keeps.count) in
          let own = are.columns.each column within in record {
            ones = values_kept column rails.highs within are.highs ∙ own.ones ∙ ap (map may_one) (sym (letters_kept rails column within are));
            zeros = values_kept column rails.lows within are.lows ∙ own.zeros ∙ ap (map may_zero) (sym (letters_kept rails column within are));
          };
    };
    highs = All-kept (columns_in old) (columns_in new) (IsFunctionOf old) (IsFunctionOf new) (function_holds old) (function_holds new) rails.highs keeps are.highs;
    lows = All-kept (columns_in old) (columns_in new) (IsFunctionOf old) (IsFunctionOf new) (function_holds old) (function_holds new) rails.lows keeps are.lows;
  }

  -- so notes show what they showed
  pub notes_kept : (notes : NotesData) → AreNotes old notes → StillShow old new notes notes
  notes_kept notes are = record {
    whole = record { rails = rails_kept (rails_in notes) are.rails; counted = are.counted; few = are.few };
    alike = record {
      words = refl;
      waves = refl;
      states = λ column inside. letters_kept (rails_in notes) column inside are.rails;
    };
  }

-- ---- functions that stand for others

module _ (old new : Symbols) (rails made : RailLists) (are : AreRailsOf old rails) (high : StandFor old new rails.highs made.highs)
    (low : StandFor old new rails.lows made.lows) where
  letters_stand : (column : ℕ) → letters_in new made column ≡ letters_in old rails column
  letters_stand column = ap₂ states_of (high.same column) (low.same column)

  rails_stand : AreRailsOf new made
  rails_stand = record {
    columns = record {
      counted = low.counted ∙ are.columns.counted ∙ sym high.counted;
      each = λ column inside.
          let within : column < columns_in old = omega (arith, inside, high.columns) in
          let own = are.columns.each column within in record {
            ones = high.same column ∙ own.ones ∙ ap (map may_one) (sym (letters_stand column));
            zeros = low.same column ∙ own.zeros ∙ ap (map may_zero) (sym (letters_stand column));
          };
    };
    highs = high.inside;
    lows = low.inside;
  }

-- functions that stand for two lists, one behind the other, stand for each of both
module _ (old new : Symbols) (one other made : List Function) (stand : StandFor old new (one ++ other) made) where
  long : length made ≡ length one + length other
  long = stand.counted ∙ length-append one other

  pub stand_first : StandFor old new one (take (length one) made)
  stand_first = record {
    columns = stand.columns;
    counted = length-take-le (length one) made (omega (arith, long));
    inside = All-take (IsFunctionOf new) (length one) made stand.inside;
    same = λ column.
        let now : Function → Bool = λ f. function_holds new f column in
        let was : Function → Bool = λ f. function_holds old f column in
        sym (take-map now (length one) made) ∙ ap (take (length one)) (stand.same column ∙ map-append was one other)
        ∙ take_at (map was one) (map was other) (length one) (length-map one was);
  }

  pub stand_second : StandFor old new other (drop (length one) made)
  stand_second = record {
    columns = stand.columns;
    counted =
        let whole : length made ≡ length one + length other = long in
        let left : length (drop (length one) made) ≡ length made - length one = length-drop (length one) made in omega (arith, whole, left);
    inside = All-drop (IsFunctionOf new) (length one) made stand.inside;
    same = λ column.
        let now : Function → Bool = λ f. function_holds new f column in
        let was : Function → Bool = λ f. function_holds old f column in
        sym (drop-map now (length one) made) ∙ ap (drop (length one)) (stand.same column ∙ map-append was one other)
        ∙ drop_at (map was one) (map was other) (length one) (length-map one was);
  }

-- the rails of notes, one list behind the other
pub in_order : (one two three four : List Function) → ((one ++ two) ++ three) ++ four ≡ one ++ (two ++ (three ++ four))
in_order one two three four = append_assoc (one ++ two) three four ∙ append_assoc one two (three ++ four)

-- notes with such functions show what they showed
pub notes_stand : (old new : Symbols) (notes : NotesData) (highs lows : List Function) → AreNotes old notes → StandFor old new notes.highs highs →
    StandFor old new notes.lows lows → StillShow old new notes (record notes { highs = highs; lows = lows })
notes_stand old new notes highs lows are high low = record {
  whole = record {
    rails = rails_stand old new (rails_in notes) (rails_of highs lows) are.rails high low;
    counted = are.counted ∙ sym high.counted;
    few = are.few;
  };
  alike = record {
    words = refl;
    waves = refl;
    states = λ column inside. letters_stand old new (rails_in notes) (rails_of highs lows) are.rails high low column;
  };
}

-- the functions that stand for the rails of two notes, one list behind the other, put back into both
both_stand : (old new : Symbols) (kept notes : NotesData) (all : List Function) → AreNotes old kept → AreNotes old notes →
    StandFor old new (((kept.highs ++ kept.lows) ++ notes.highs) ++ notes.lows) all →
    StillShow old new kept (with_rails kept all) × StillShow old new notes (with_rails notes (rails_left kept all))
both_stand old new kept notes all first second stand =
    let whole = subst (λ (own : List Function). StandFor old new own all) (in_order kept.highs kept.lows notes.highs notes.lows) stand in
    let behind = stand_second old new kept.highs (kept.lows ++ (notes.highs ++ notes.lows)) all whole in
    let rest = stand_second old new kept.lows (notes.highs ++ notes.lows) (drop (length kept.highs) all) behind in
    let left : List Function = drop (length kept.lows) (drop (length kept.highs) all) in
    let last = stand_second old new notes.highs notes.lows left rest in (
      notes_stand old new kept (take (length kept.highs) all) (take (length kept.lows) (drop (length kept.highs) all)) first
          (stand_first old new kept.highs (kept.lows ++ (notes.highs ++ notes.lows)) all whole)
          (stand_first old new kept.lows (notes.highs ++ notes.lows) (drop (length kept.highs) all) behind),
      notes_stand old new notes (take (length notes.highs) left) (take (length notes.lows) (drop (length notes.highs) left)) second
          (stand_first old new notes.highs notes.lows left rest)
          (subst (λ (own : List Function). StandFor old new notes.lows own)
          (sym (take_all (length notes.lows) (drop (length notes.highs) left) (omega (arith, last.counted)))) last),
    )

-- the functions that stand for the rails of two notes
module _ (old new : Symbols) (kept notes : NotesData) (rails moved all : List Function)
    (whole : rails ≡ ((kept.highs ++ kept.lows) ++ notes.highs) ++ notes.lows) (moves : StandFor old new rails moved) (same : all ≡ moved) where
  stand : StandFor old new (((kept.highs ++ kept.lows) ++ notes.highs) ++ notes.lows) all
  stand = subst (StandFor old new (((kept.highs ++ kept.lows) ++ notes.highs) ++ notes.lows)) (sym same)
      (subst (λ (own : List Function). StandFor old new own moved) whole moves)

  -- are as many as are put back
  pub both_long : (length kept.highs + length kept.lows) + (length notes.highs + length notes.lows) ≤ length all
  both_long =
      let one : List Function = kept.highs ++ kept.lows in
      let all_long : length ((one ++ notes.highs) ++ notes.lows) ≡ length (one ++ notes.highs) + length notes.lows =
      length-append (one ++ notes.highs) notes.lows in
      let front : length (one ++ notes.highs) ≡ length one + length notes.highs = length-append one notes.highs in
      let both : length one ≡ length kept.highs + length kept.lows = length-append kept.highs kept.lows in omega (arith, stand.counted, all_long, front, both)

  -- and put back into both they show what these showed
  pub both_back : (first second : NotesData) → AreNotes old kept → AreNotes old notes → first ≡ with_rails kept all →
      second ≡ with_rails notes (rails_left kept all) → StillShow old new kept first × StillShow old new notes second
  both_back first second one other is behind =
      let both = both_stand old new kept notes all one other stand in
      (subst (StillShow old new kept) (sym is) both.0, subst (StillShow old new notes) (sym behind) both.1)

-- the functions of notes are the maker's, one list behind the other
pub both_inside : (symbols : Symbols) (kept notes : NotesData) → AreNotes symbols kept → AreNotes symbols notes →
    All (IsFunctionOf symbols) (((kept.highs ++ kept.lows) ++ notes.highs) ++ notes.lows)
both_inside symbols kept notes first second =
    All-append (IsFunctionOf symbols) ((kept.highs ++ kept.lows) ++ notes.highs) notes.lows
    (All-append (IsFunctionOf symbols) (kept.highs ++ kept.lows) notes.highs
    (All-append (IsFunctionOf symbols) kept.highs kept.lows first.rails.highs first.rails.lows) second.rails.highs) second.rails.lows

-- ---- one after the other

pub still_same : (symbols : Symbols) (notes : NotesData) → AreNotes symbols notes → StillShow symbols symbols notes notes
still_same symbols notes are = record { whole = are; alike = record { words = refl; waves = refl; states = λ column inside. refl } }

pub still_then : (first mid last : Symbols) (one two three : NotesData) → columns_in mid ≡ columns_in first → StillShow first mid one two →
    StillShow mid last two three → StillShow first last one three
still_then first mid last one two three same earlier later = record {
  whole = later.whole;
  alike = record {
    words = later.alike.words ∙ earlier.alike.words;
    waves = later.alike.waves ∙ earlier.alike.waves;
    states = λ column inside.
        let within : column < columns_in mid = omega (arith, inside, same) in
        later.alike.states column within ∙ earlier.alike.states column inside;
  };
}

-- what notes show in a column is what they showed
pub shown_still : (old new : Symbols) (before after : NotesData) → StillShow old new before after → (column : ℕ) → column < columns_in old →
    shown_in new after column ≡ shown_in old before column
shown_still old new before after is column inside =
    ap (λ (words : List Watched). shown_from words after.waves (letters_in new (rails_in after) column)) is.alike.words
    ∙ ap (λ (waves : List WaveNote). shown_from before.words waves (letters_in new (rails_in after) column)) is.alike.waves
    ∙ ap (λ (states : List Tern). shown_from before.words before.waves states) (is.alike.states column inside)
