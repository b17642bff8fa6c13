-- One word more and one waveform line more, as the loops over them see it: by the maker as it is then, and by what is cut off of the rails that are
-- left.
use Rattle.std.proofs.Common.{◌≡◌, ℕ, Bool, List, ◌∷◌, length, take, Option, Result, Ok, Err, sym, ap, ap₂, subst, ◌∙◌, arith}
use Rattle.std.proofs.lemmas.List.{length-map}
use Rattle.ternary.specs.declared.tern.Tern.{Tern}
use Rattle.decision_graph.specs.Graphs.{SameShape}
use Rattle.decision_graph.specs.Vertices.{Extends}
use Rattle.decision_graph.specs.Meaning.{assigned}
use Rattle.truth_makers.specs.declared.symbols.Symbols.{Symbols}
use Rattle.truth_makers.specs.Valuations.{column_of}
use Rattle.symbol_meaning.specs.Readings.{Valuations, truths_in}
use Rattle.symbol_meaning.specs.Comparing.{Difference, Watched, by_words, AreComparedWords, IsComparedWord}
use Rattle.symbol_told.specs.declared.notes.WaveNote.{WaveNote}
use Rattle.symbol_comparing.specs.declared.fault.CompareFault.{CompareFault}
use Rattle.symbol_comparing.specs.Notes.{heads_of, names_of, shown_from}
use Rattle.symbol_comparing.specs.Rails.{RailLists, drop_rails, letters_in, take_rails, AreRailsOf}
use Rattle.symbol_comparing.specs.Told.{AreValuationsOf, Tells, TellsLines, TellsPart}
use Rattle.symbol_comparing.specs.Words.{column_with, DifferFirst}
use Rattle.symbol_comparing.proofs.StateLemmas.{columns_same, letters_drop, letters_later, letters_take, rails_drop, rails_take}
use Rattle.symbol_comparing.proofs.WordLemmas.{word_alike}
use Rattle.symbol_comparing.proofs.CompareLemmas.{words_alike}

-- ---- the maker as it is then

module _ (old now : Symbols) (shape : SameShape old.graph now.graph) (extends : Extends old.graph.vertices now.graph.vertices) where
  -- the valuations of its variables are the same
  pub valuations_later : (v : Valuations) → AreValuationsOf old v → AreValuationsOf now v
  valuations_later v are = record {
    columns = are.columns ∙ sym (columns_same old now shape extends);
    truths = λ column. are.truths column ∙ ap (λ (variables : ℕ). truths_in variables column) (sym shape.variables);
  }

  -- a difference that is the first by the first maker is so by it
  pub differ_later : (one other : RailLists) (vars : List Bool) → AreRailsOf old one → AreRailsOf old other → DifferFirst old one other vars →
      DifferFirst now one other vars
  differ_later one other vars first second is =
      let column : column_with now vars ≡ column_with old vars = ap (λ (variables : ℕ). column_of (assigned vars) variables) shape.variables in
      let all = columns_same old now shape extends in
      record {
        count = is.count ∙ sym shape.variables;
        inside = omega (arith, column, is.inside, all);
        differ = λ same. is.differ (sym (letters_later old now shape extends one (column_with old vars) first)
            ∙ subst (λ (at : ℕ). letters_in now one at ≡ letters_in now other at) column same
            ∙ letters_later old now shape extends other (column_with old vars) second);
        same_before = λ earlier before. letters_later old now shape extends one earlier first ∙ is.same_before earlier (omega (arith, before, column))
            ∙ sym (letters_later old now shape extends other earlier second);
      }

  -- what is told of a word by it is told of it by the first one
  pub word_first : (v : Valuations) (line : ℕ) (word : List ℕ) (one other : RailLists) (told : List Difference) → AreRailsOf old one → AreRailsOf old other →
      IsComparedWord v line word (letters_in now one) (letters_in now other) told → IsComparedWord v line word (letters_in old one) (letters_in old other) told
  word_first v line word one other told first second is =
      word_alike v line word (letters_in now one) (letters_in now other) (letters_in old one) (letters_in old other) told
      (λ column inside. letters_later old now shape extends one column first) (λ column inside. letters_later old now shape extends other column second) is

  pub word_lines : (v : Valuations) (line : ℕ) (word : List ℕ) (one other : RailLists) (variables : List (List ℕ)) (before after : Option (List ℕ))
      (count counted : ℕ) → AreRailsOf old one → AreRailsOf old other →
      TellsLines (IsComparedWord v line word (letters_in now one) (letters_in now other)) variables before after count counted →
      TellsLines (IsComparedWord v line word (letters_in old one) (letters_in old other)) variables before after count counted
  word_lines v line word one other variables before after count counted first second is = record {
    told = is.told;
    right = word_first v line word one other is.told first second is.right;
    grew = is.grew;
    counted = is.counted;
  }

  pub word_part : (v : Valuations) (line : ℕ) (word : List ℕ) (one other : RailLists) (variables : List (List ℕ)) (before after : Option (List ℕ)) →
      AreRailsOf old one → AreRailsOf old other →
      TellsPart (IsComparedWord v line word (letters_in now one) (letters_in now other)) variables before after →
      TellsPart (IsComparedWord v line word (letters_in old one) (letters_in old other)) variables before after
  word_part v line word one other variables before after first second is = record {
    told = is.told;
    right = word_first v line word one other is.told first second is.right;
    part = is.part;
  }

  pub word_tells : (v : Valuations) (line : ℕ) (word : List ℕ) (one other : RailLists) (variables : List (List ℕ)) (before after : Option (List ℕ))
      (count counted : ℕ) (result : Result (Unit {0}) CompareFault) → AreRailsOf old one → AreRailsOf old other →
      Tells (IsComparedWord v line word (letters_in now one) (letters_in now other)) variables before after count counted result →
      Tells (IsComparedWord v line word (letters_in old one) (letters_in old other)) variables before after count counted result
  word_tells v line word one other variables before after count counted (Ok _) first second is =
      word_lines v line word one other variables before after count counted first second is
  word_tells v line word one other variables before after count counted (Err fault) first second is =
      word_part v line word one other variables before after first second is

  -- and so it is with the words of a waveform line
  pub line_first : (v : Valuations) (line : ℕ) (words others : List Watched) (one other : RailLists) (told : List Difference) → AreRailsOf old one →
      AreRailsOf old other →
      AreComparedWords v line (λ column. by_words words (letters_in now one column)) (λ column. by_words others (letters_in now other column)) told →
      AreComparedWords v line (λ column. by_words words (letters_in old one column)) (λ column. by_words others (letters_in old other column)) told
  line_first v line words others one other told first second is =
      words_alike v line (λ column. by_words words (letters_in now one column)) (λ column. by_words others (letters_in now other column))
      (λ column. by_words words (letters_in old one column)) (λ column. by_words others (letters_in old other column)) told
      (λ column inside. ap (by_words words) (letters_later old now shape extends one column first))
      (λ column inside. ap (by_words others) (letters_later old now shape extends other column second)) is

  pub line_lines : (v : Valuations) (line : ℕ) (words others : List Watched) (one other : RailLists) (variables : List (List ℕ))
      (before after : Option (List ℕ)) (count counted : ℕ) → AreRailsOf old one → AreRailsOf old other →
      TellsLines (AreComparedWords v line (λ column. by_words words (letters_in now one column)) (λ column. by_words others (letters_in now other column)))
      variables before after count counted →
      TellsLines (AreComparedWords v line (λ column. by_words words (letters_in old one column)) (λ column. by_words others (letters_in old other column)))
      variables before after count counted
  line_lines v line words others one other variables before after count counted first second is = record {
    told = is.told;
    right = line_first v line words others one other is.told first second is.right;
    grew = is.grew;
    counted = is.counted;
  }

  pub line_part : (v : Valuations) (line : ℕ) (words others : List Watched) (one other : RailLists) (variables : List (List ℕ))
      (before after : Option (List ℕ)) → AreRailsOf old one → AreRailsOf old other →
      TellsPart (AreComparedWords v line (λ column. by_words words (letters_in now one column)) (λ column. by_words others (letters_in now other column)))
      variables before after →
      TellsPart (AreComparedWords v line (λ column. by_words words (letters_in old one column)) (λ column. by_words others (letters_in old other column)))
      variables before after
  line_part v line words others one other variables before after first second is = record {
    told = is.told;
    right = line_first v line words others one other is.told first second is.right;
    part = is.part;
  }

-- ---- what is cut off

-- the words that are left are one, with what is cut off of the rails, and those behind it, with what is left of them
words_split : (symbols : Symbols) (all rest : List Watched) (word : List ℕ) (nodes : ℕ) (left here later : RailLists) → all ≡ (word, nodes) ∷ rest →
    here ≡ take_rails nodes left → later ≡ drop_rails nodes left → (column : ℕ) →
    by_words all (letters_in symbols left column) ≡ (word, letters_in symbols here column) ∷ by_words rest (letters_in symbols later column)
words_split symbols all rest word nodes left here later is front back column =
    ap (λ (own : List Watched). by_words own (letters_in symbols left column)) is
    ∙ ap₂ (λ (letters others : List Tern). (word, letters) ∷ by_words rest others)
    (sym (ap (λ (rails : RailLists). letters_in symbols rails column) front ∙ letters_take symbols left nodes column))
    (sym (ap (λ (rails : RailLists). letters_in symbols rails column) back ∙ letters_drop symbols left nodes column))

-- and so it is with those of both circuits, whose words have the same names
pub words_both : (symbols : Symbols) (all rest each more : List Watched) (word name : List ℕ) (nodes size : ℕ) (left here later right its after : RailLists) →
    all ≡ (word, nodes) ∷ rest → here ≡ take_rails nodes left → later ≡ drop_rails nodes left → each ≡ (name, size) ∷ more →
    its ≡ take_rails size right → after ≡ drop_rails size right → word ≡ name → (column : ℕ) →
    (by_words all (letters_in symbols left column) ≡ (word, letters_in symbols here column) ∷ by_words rest (letters_in symbols later column)) ×
    (by_words each (letters_in symbols right column) ≡ (word, letters_in symbols its column) ∷ by_words more (letters_in symbols after column))
words_both symbols all rest each more word name nodes size left here later right its after is front back also ahead behind same column = (
  words_split symbols all rest word nodes left here later is front back column,
  words_split symbols each more name size right its after also ahead behind column
      ∙ ap (λ (own : List ℕ). (own, letters_in symbols its column) ∷ by_words more (letters_in symbols after column)) (sym same),
)

-- and so it is with waveform lines
waves_split : (symbols : Symbols) (words : List Watched) (all rest : List WaveNote) (wave : WaveNote) (left here later : RailLists) → all ≡ wave ∷ rest →
    here ≡ take_rails wave.nodes left → later ≡ drop_rails wave.nodes left → (column : ℕ) →
    shown_from words all (letters_in symbols left column)
    ≡ (wave.n, by_words (take wave.words words) (letters_in symbols here column)) ∷ shown_from words rest (letters_in symbols later column)
waves_split symbols words all rest wave left here later is front back column =
    ap (λ (own : List WaveNote). shown_from words own (letters_in symbols left column)) is
    ∙ ap₂ (λ (letters others : List Tern). (wave.n, by_words (take wave.words words) letters) ∷ shown_from words rest others)
    (sym (ap (λ (rails : RailLists). letters_in symbols rails column) front ∙ letters_take symbols left wave.nodes column))
    (sym (ap (λ (rails : RailLists). letters_in symbols rails column) back ∙ letters_drop symbols left wave.nodes column))

-- and with those of both circuits: the line has the same number in both, and its words are so many of those that are watched
pub waves_both : (symbols : Symbols) (words others first second : List Watched) (all rest each more : List WaveNote) (wave own : WaveNote)
    (left here later right its after : RailLists) → all ≡ wave ∷ rest → here ≡ take_rails wave.nodes left → later ≡ drop_rails wave.nodes left →
    each ≡ own ∷ more → its ≡ take_rails own.nodes right → after ≡ drop_rails own.nodes right → wave.n ≡ own.n → first ≡ take wave.words words →
    second ≡ take own.words others → (column : ℕ) →
    (shown_from words all (letters_in symbols left column)
    ≡ (wave.n, by_words first (letters_in symbols here column)) ∷ shown_from words rest (letters_in symbols later column)) ×
    (shown_from others each (letters_in symbols right column)
    ≡ (wave.n, by_words second (letters_in symbols its column)) ∷ shown_from others more (letters_in symbols after column))
waves_both symbols words others first second all rest each more wave own left here later right its after is front back also ahead behind number so too column = (
  waves_split symbols words all rest wave left here later is front back column
      ∙ ap (λ (list : List Watched). (wave.n, by_words list (letters_in symbols here column)) ∷ shown_from words rest (letters_in symbols later column)) (sym so),
  waves_split symbols others each more own right its after also ahead behind column
      ∙ ap₂ (λ (n : ℕ) (list : List Watched). (n, by_words list (letters_in symbols its column)) ∷ shown_from others more (letters_in symbols after column))
      (sym number) (sym too),
)

-- what is cut off of rails are rails, and so is what is left
pub rails_front : (symbols : Symbols) (left here : RailLists) (nodes : ℕ) → here ≡ take_rails nodes left → AreRailsOf symbols left → AreRailsOf symbols here
rails_front symbols left here nodes is are = subst (AreRailsOf symbols) (sym is) (rails_take symbols left nodes are)

pub rails_rest : (symbols : Symbols) (left later : RailLists) (nodes : ℕ) → later ≡ drop_rails nodes left → AreRailsOf symbols left → AreRailsOf symbols later
rails_rest symbols left later nodes is are = subst (AreRailsOf symbols) (sym is) (rails_drop symbols left nodes are)

-- words with the same names are as many, and so are waveform lines with the same heads
pub as_many_words : (words others : List Watched) → names_of words ≡ names_of others → length words ≡ length others
as_many_words words others same =
    sym (length-map words (λ (own : Watched). own.0)) ∙ ap (λ (names : List (List ℕ)). length names) same ∙ length-map others (λ (own : Watched). own.0)

pub as_many_waves : (waves others : List WaveNote) → heads_of waves ≡ heads_of others → length waves ≡ length others
as_many_waves waves others same =
    sym (length-map waves (λ (wave : WaveNote). (wave.n, wave.words))) ∙ ap (λ (heads : List (ℕ × ℕ)). length heads) same
    ∙ length-map others (λ (wave : WaveNote). (wave.n, wave.words))

-- the heads of the first of some waveform lines, and those of the others
pub heads_first : (all rest others more : List WaveNote) (wave own : WaveNote) → all ≡ wave ∷ rest → others ≡ own ∷ more → heads_of all ≡ heads_of others →
    (wave.n ≡ own.n) × (wave.words ≡ own.words) × (heads_of rest ≡ heads_of more)
heads_first all rest others more wave own one other same =
    let cut : (wave.n, wave.words) ∷ heads_of rest ≡ (own.n, own.words) ∷ heads_of more = sym (ap heads_of one) ∙ same ∙ ap heads_of other in
    let head : (wave.n, wave.words) ≡ (own.n, own.words) = cc cut in
    (ap (λ (at : ℕ × ℕ). at.0) head, ap (λ (at : ℕ × ℕ). at.1) head, cc cut)

-- the names of the first of some words, and those of the others
pub names_first : (all rest others more : List Watched) (word name : List ℕ) (nodes its : ℕ) → all ≡ (word, nodes) ∷ rest → others ≡ (name, its) ∷ more →
    names_of all ≡ names_of others → (word ≡ name) × (names_of rest ≡ names_of more)
names_first all rest others more word name nodes its one other same =
    let cut : word ∷ names_of rest ≡ name ∷ names_of more = sym (ap names_of one) ∙ same ∙ ap names_of other in
    (cc cut, cc cut)
