-- What notes show behind a waveform line more, and behind words that are watched from then on.
use Rattle.std.proofs.Common.{◌≡◌, ℕ, ◌+◌, ◌-◌, ◌≤◌, List, [], ◌∷◌, ◌++◌, length, map, take, drop, filter_map, All, Option, None, Some, refl, sym, ap, ap₂, ◌∙◌, arith, append-nil, append_assoc, length-append}
use Rattle.std.specs.List.{cons_option}
use Rattle.std.proofs.lemmas.List.{drop-append-le, length-drop, map-append, take-append-le, take_all}
use Rattle.std.proofs.lemmas.List.Elements.{All-head, All-push, All-tail, All-weaker}
use Rattle.ternary.specs.declared.tern.Tern.{Tern}
use Rattle.decision_graph.specs.declared.vertex.Function.{Function}
use Rattle.truth_makers.specs.declared.symbols.Symbols.{Symbols}
use Rattle.truth_makers.specs.Makers.{function_holds}
use Rattle.truth_parts.proofs.ColumnLemmas.{length-states}
use Rattle.told_lines.specs.Hearing.{hear_all}
use Rattle.told_lines.specs.Lines as of_one
use Rattle.told_lines.specs.Lines.{Line}
use Rattle.symbol_meaning.specs.Told.{SymbolTold, Wave, Unmet, Shown, Looked, AtEnd, AtGate}
use Rattle.symbol_meaning.specs.Comparing as shows
use Rattle.symbol_meaning.specs.Comparing.{Watched, by_words, shown_by}
use Rattle.symbol_told.specs.declared.notes.WaveNote.{WaveNote}
use Rattle.symbol_told.specs.Lines.{Telling}
use Rattle.symbol_told.specs.Noting.{NotesData, note, with_line, with_wave}
use Rattle.symbol_comparing.specs.Notes.{rails_in, shown_from, shown_in}
use Rattle.symbol_comparing.specs.Rails.{letters_in, rails_of, AreRailsOf}
use Rattle.symbol_equiv.specs.Notes.{nodes_shown, AreNotes}
use Rattle.symbol_equiv.specs.Waves.{wave_of, wave_told, wave_with}
use Rattle.symbol_equiv.proofs.RailLemmas.{letters_join, rails_join}

-- ---- words and lines

-- words that are watched from then on leave what lines show
pub shown_longer : (words more : List Watched) (waves : List WaveNote) (states : List Tern) → All (λ (wave : WaveNote). wave.words ≤ length words) waves →
    shown_from (words ++ more) waves states ≡ shown_from words waves states
shown_longer words more [] states few = refl
shown_longer words more (wave ∷ waves) states few =
    ap₂ (λ (front : List Watched) (rest : List shows.Shown). (wave.n, by_words front (take wave.nodes states)) ∷ rest)
    (take-append-le wave.words words more (All-head (λ (own : WaveNote). own.words ≤ length words) wave waves few))
    (shown_longer words more waves (drop wave.nodes states) (All-tail (λ (own : WaveNote). own.words ≤ length words) wave waves few))

-- lines behind others show what they show alone
none_left : (states others : List Tern) → length states ≡ 0 → states ++ others ≡ others
none_left [] others none = refl
none_left (state ∷ states) others none = absurd (omega (arith, none))

shown_append : (words : List Watched) (waves more : List WaveNote) (states others : List Tern) → length states ≡ nodes_shown waves →
    shown_from words (waves ++ more) (states ++ others) ≡ shown_from words waves states ++ shown_from words more others
shown_append words [] more states others counted = ap (shown_from words more) (none_left states others counted)
shown_append words (wave ∷ waves) more states others counted =
    let enough : wave.nodes ≤ length states = omega (arith, counted) in
    let left : length (drop wave.nodes states) ≡ length states - wave.nodes = length-drop wave.nodes states in
    let rest : length (drop wave.nodes states) ≡ nodes_shown waves = omega (arith, left, counted) in
    ap₂ (λ (here : List Tern) (later : List shows.Shown). (wave.n, by_words (take wave.words words) here) ∷ later)
    (take-append-le wave.nodes states others enough)
    (ap (shown_from words (waves ++ more)) (drop-append-le wave.nodes states others enough)
    ∙ shown_append words waves more (drop wave.nodes states) others rest)

-- what a waveform line shows by these words
abbrev pub shown_wave : List Watched → ℕ × List Tern → shows.Shown
shown_wave words own = (own.0, by_words words own.1)

abbrev pub shown_waves : List Watched → List (ℕ × List Tern) → List shows.Shown
shown_waves words waves = map (shown_wave words) waves

-- a line with all words and all states
shown_alone : (words : List Watched) (n nodes : ℕ) (states : List Tern) → length states ≡ nodes →
    shown_from words (record { n = n; words = length words; nodes = nodes } ∷ []) states ≡ (n, by_words words states) ∷ []
shown_alone words n nodes states counted =
    ap₂ (λ (front : List Watched) (here : List Tern). (n, by_words front here) ∷ []) (take_all (length words) words (omega arith))
    (take_all nodes states (omega (arith, counted)))

nodes_more : (waves : List WaveNote) (wave : WaveNote) → nodes_shown (waves ++ wave ∷ []) ≡ nodes_shown waves + wave.nodes
nodes_more [] wave = omega arith
nodes_more (own ∷ waves) wave = omega (arith, nodes_more waves wave)

-- ---- a line that is noted

-- notes with what one line more shows in each column
pub record NotedSo (symbols : Symbols) (old new : NotesData) (waves : ℕ → List (ℕ × List Tern)) : Type 0 where
  pub whole : AreNotes symbols new
  pub words : new.words ≡ old.words
  pub shown : (column : ℕ) → shown_in symbols new column ≡ shown_in symbols old column ++ shown_waves old.words (waves column)

module _ (symbols : Symbols) where
  -- a waveform line
  wave_noted : (notes : NotesData) (n : ℕ) (highs lows : List Function) → AreNotes symbols notes → AreRailsOf symbols (rails_of highs lows) →
      NotedSo symbols notes (with_wave notes n highs lows) (λ column. (n, letters_in symbols (rails_of highs lows) column) ∷ [])
  wave_noted notes n highs lows are own =
      let wave : WaveNote = record { n = n; words = length notes.words; nodes = length highs } in record {
        whole = record {
          rails = rails_join symbols (rails_in notes) (rails_of highs lows) are.rails own;
          counted = nodes_more notes.waves wave ∙ ap (λ (count : ℕ). count + length highs) are.counted ∙ sym (length-append notes.highs highs);
          few = All-push (λ (each : WaveNote). each.words ≤ length notes.words) notes.waves wave are.few (omega arith);
        };
        words = refl;
        shown = λ column.
            let states : List Tern = letters_in symbols (rails_in notes) column in
            let more : List Tern = letters_in symbols (rails_of highs lows) column in
            let before : length states ≡ nodes_shown notes.waves =
            length-states (function_holds symbols) column notes.highs notes.lows are.rails.columns.counted ∙ sym are.counted in
            let here : length more ≡ length highs = length-states (function_holds symbols) column highs lows own.columns.counted in
            ap (shown_from notes.words (notes.waves ++ wave ∷ [])) (letters_join symbols (rails_in notes) (rails_of highs lows) are.rails column)
            ∙ shown_append notes.words notes.waves (wave ∷ []) states more before
            ∙ ap (λ (rest : List shows.Shown). shown_from notes.words notes.waves states ++ rest) (shown_alone notes.words n (length highs) more here);
      }

  -- a line of another kind
  passed : (notes : NotesData) → AreNotes symbols notes → NotedSo symbols notes notes (λ column. [])
  passed notes are = record { whole = are; words = refl; shown = λ column. sym (append-nil (shown_in symbols notes column)) }

  -- any line
  line_noted : (notes : NotesData) (line : SymbolTold) (highs lows : List Function) → AreNotes symbols notes → AreRailsOf symbols (rails_of highs lows) →
      NotedSo symbols notes (with_line notes line highs lows) (λ column. cons_option (wave_with symbols column line highs lows) [])
  line_noted notes (Wave n k mark letters) highs lows are own = wave_noted notes n highs lows are own
  line_noted notes (Unmet name wanted got n truths) highs lows are own = passed notes are
  line_noted notes (Shown name letters) highs lows are own = passed notes are
  line_noted notes (Looked name letter sort) highs lows are own = passed notes are
  line_noted notes (AtEnd switch gate gate_letter end end_letter) highs lows are own = passed notes are
  line_noted notes (AtGate switch source source_letter drain drain_letter) highs lows are own = passed notes are

  -- all lines that were heard
  cons_then : (found : Option (ℕ × List Tern)) (rest : List (ℕ × List Tern)) → cons_option found [] ++ rest ≡ cons_option found rest
  cons_then None rest = refl
  cons_then (Some own) rest = refl

  pub lines_noted : (notes : NotesData) (told : List Telling) → AreNotes symbols notes → All (λ (own : Telling). AreRailsOf symbols (rails_of own.highs own.lows)) told →
      NotedSo symbols notes (hear_all note notes told) (λ column. filter_map (wave_told symbols column) told)
  lines_noted notes [] are all = passed notes are
  lines_noted notes (own ∷ told) are all =
      let first = line_noted notes own.line own.highs own.lows are (All-head (λ (each : Telling). AreRailsOf symbols (rails_of each.highs each.lows)) own told all) in
      let later = lines_noted (note notes own) told first.whole (All-tail (λ (each : Telling). AreRailsOf symbols (rails_of each.highs each.lows)) own told all) in
      record {
        whole = later.whole;
        words = later.words ∙ first.words;
        shown = λ column.
            let here : List (ℕ × List Tern) = cons_option (wave_told symbols column own) [] in
            let rest : List (ℕ × List Tern) = filter_map (wave_told symbols column) told in
            later.shown column
            ∙ ap₂ (λ (front : List shows.Shown) (words : List Watched). front ++ shown_waves words rest) (first.shown column) first.words
            ∙ append_assoc (shown_in symbols notes column) (shown_waves notes.words here) (shown_waves notes.words rest)
            ∙ ap (λ (waves : List shows.Shown). shown_in symbols notes column ++ waves)
            (sym (map-append (shown_wave notes.words) here rest) ∙ ap (shown_waves notes.words) (cons_then (wave_told symbols column own) rest));
      }

  -- with words that are watched from then on
  pub words_noted : (notes : NotesData) (more : List Watched) → AreNotes symbols notes → AreNotes symbols (record notes { words = notes.words ++ more })
  words_noted notes more are = record {
    rails = are.rails;
    counted = are.counted;
    few = All-weaker (λ (wave : WaveNote). wave.words ≤ length notes.words) (λ (wave : WaveNote). wave.words ≤ length (notes.words ++ more))
        (λ wave less. longer notes.words more wave.words less) notes.waves are.few;
  }
    where
      longer : (words others : List Watched) (count : ℕ) → count ≤ length words → count ≤ length (words ++ others)
      longer words others count less = let whole : length (words ++ others) ≡ length words + length others = length-append words others in omega (arith, less, whole)

-- what a column's lines show, by its waveform lines
pub shown_by_waves : (words : List Watched) (lines : List Line) → filter_map (shown_by words) lines ≡ shown_waves words (filter_map wave_of lines)
shown_by_waves words [] = refl
shown_by_waves words (of_one.Wave n k mark states ∷ lines) = ap (λ (rest : List shows.Shown). (n, by_words words states) ∷ rest) (shown_by_waves words lines)
shown_by_waves words (of_one.Unmet name wanted got n ∷ lines) = shown_by_waves words lines
shown_by_waves words (of_one.Shown name states ∷ lines) = shown_by_waves words lines
shown_by_waves words (of_one.Looked name state sort ∷ lines) = shown_by_waves words lines
shown_by_waves words (of_one.AtEnd switch gate gate_state end end_state ∷ lines) = shown_by_waves words lines
shown_by_waves words (of_one.AtGate switch source source_state drain drain_state ∷ lines) = shown_by_waves words lines
shown_by_waves words (of_one.Reported groups texts fresh ∷ lines) = shown_by_waves words lines
shown_by_waves words (of_one.Refused place code name count ∷ lines) = shown_by_waves words lines
