-- A line that was obeyed: what it shows was noted, and what it watches; and then functions were let go that nothing needs.
use Rattle.std.proofs.Common.{◌≡◌, ℕ, ◌<◌, true, List, ◌++◌, filter_map, Option, sym, ap, ap₂, subst, ◌∙◌}
use Rattle.netlist.specs.Circuits.{CircuitData}
use Rattle.group_text.specs.Texts.{GroupTextData}
use Rattle.truth_makers.specs.declared.symbols.Symbols.{Symbols}
use Rattle.truth_makers.specs.Makers.{columns_in}
use Rattle.session_meaning.specs.Sessions.{SessionData}
use Rattle.symbol_meaning.specs.Readings.{Valuations}
use Rattle.symbol_meaning.specs.Comparing.{Shown, Watched}
use Rattle.symbol_told.specs.Noting.{NotesData, note}
use Rattle.symbol_told.specs.Printing.{lines_told}
use Rattle.symbol_run.proofs.RunLemmas.{obeyed_to}
use Rattle.symbol_comparing.specs.Notes.{names_of, rails_in}
use Rattle.symbol_comparing.specs.Rails.{letters_in}
use Rattle.symbol_equiv.specs.Lines.{IsNoted}
use Rattle.symbol_equiv.specs.Notes.{AreNotes, StillShow}
use Rattle.symbol_equiv.specs.Sharing.{KeepsFunctions}
use Rattle.symbol_equiv.specs.Waves.{wave_told, ObeysRailed}
use Rattle.symbol_equiv.specs.Words.{counted_words, names_watched}
use Rattle.symbol_equiv.proofs.KeptLemmas.{notes_kept, shown_still}
use Rattle.symbol_equiv.proofs.ShownLemmas.{lines_noted, shown_by_waves, shown_longer, shown_waves, words_noted, NotedSo}
use Rattle.symbol_equiv.proofs.WordLemmas.{names_behind, words_in_line}

module _ (v : Valuations) (cut : Option ℕ) (old : ℕ → SessionData) (line : ℕ × List ℕ) (old_maker : Symbols) (columns : columns_in old_maker ≡ v.columns)
    (before : NotesData) (asked known : List GroupTextData) where
  -- the line was obeyed, and what it watches is watched from then on
  pub noted_line : (new_maker : Symbols) (new : ℕ → SessionData) (heard : NotesData) (c : CircuitData) (vectors : List (List ℕ × List ℕ)) →
      KeepsFunctions old_maker new_maker → AreNotes old_maker before → ((column : ℕ) → column < v.columns → (old column).circuit ≡ c) →
      ((column : ℕ) → column < v.columns → (old column).vectors ≡ vectors) → ObeysRailed new_maker note true v cut old line new before heard asked known →
      IsNoted old_maker new_maker true v cut old line new before
      (record heard { words = heard.words ++ counted_words c vectors (names_watched true line) }) asked known
  noted_line new_maker new heard c vectors keeps are circuit lists is =
      let more : List Watched = counted_words c vectors (names_watched true line) in
      let still = notes_kept old_maker new_maker keeps before are in
      let so = subst (λ (own : NotesData). NotedSo new_maker before own (λ column. filter_map (wave_told new_maker column) is.told)) (sym is.heard)
      (lines_noted new_maker before is.told still.whole is.railed.rails) in
      record {
        told = is.told;
        texts = is.texts;
        obeyed = is.obeyed;
        analysed = is.analysed;
        whole = words_noted new_maker heard more so.whole;
        names = names_behind heard.words c vectors (names_watched true line)
            ∙ ap (λ (words : List Watched). names_of words ++ names_watched true line) so.words;
        words = λ column inside.
            ap₂ (λ (front rest : List Watched). front ++ rest) so.words
            (sym (words_in_line true (v.values column) (old column) line c vectors (circuit column inside) (lists column inside)));
        shown = λ column inside.
            let within : column < columns_in old_maker = subst (λ (n : ℕ). column < n) (sym columns) inside in
            shown_longer heard.words more heard.waves (letters_in new_maker (rails_in heard) column) so.whole.few
            ∙ so.shown column
            ∙ ap₂ (λ (front rest : List Shown). front ++ rest) (shown_still old_maker new_maker before before still column within)
            (ap (shown_waves before.words) (is.railed.waves column inside) ∙ sym (shown_by_waves before.words (is.obeyed.lines column)));
      }

  -- and then notes that show the same stand in their place, over a maker with fewer functions
  pub tidied_line : (mid_maker new_maker : Symbols) (mid new : ℕ → SessionData) (noted after : NotesData) → columns_in mid_maker ≡ v.columns →
      ((column : ℕ) → column < v.columns → new column ≡ mid column) → StillShow mid_maker new_maker noted after →
      IsNoted old_maker mid_maker true v cut old line mid before noted asked known → IsNoted old_maker new_maker true v cut old line new before after asked known
  unfolding obeyed_to
  tidied_line mid_maker new_maker mid new noted after same_columns same still is = record {
    told = is.told;
    texts = is.texts;
    obeyed = obeyed_to true v cut old mid new line (lines_told is.told) is.texts same is.obeyed;
    analysed = is.analysed;
    whole = still.whole;
    names = ap names_of still.alike.words ∙ is.names;
    words = λ column inside. still.alike.words ∙ is.words column inside;
    shown = λ column inside.
        shown_still mid_maker new_maker noted after still column (subst (λ (n : ℕ). column < n) (sym same_columns) inside) ∙ is.shown column inside;
  }
