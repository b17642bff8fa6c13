-- Lines that are noted one after the other: what was noted so far is what notes of all lines show first, whatever the lines that are left show.
use Rattle.std.proofs.Common.{◌≡◌, ℕ, ◌<◌, ◌≤◌, true, List, [], ◌∷◌, ◌++◌, filter_map, Option, refl, sym, ap, subst, ◌∙◌, append-nil, append_assoc}
use Rattle.std.proofs.lemmas.List.Elements.{All-nil}
use Rattle.group_text.specs.Texts.{GroupTextData}
use Rattle.circuit_texts.specs.declared.texts.BuildFault.{BuildFault}
use Rattle.printed_lines.specs.declared.faults.FaultCode.{FaultCode}
use Rattle.truth_makers.specs.declared.symbols.Symbols.{Symbols}
use Rattle.truth_makers.specs.Makers.{columns_in}
use Rattle.told_lines.specs.Hearing.{hear_all}
use Rattle.run_ends.specs.Causes.{plain_cause}
use Rattle.session_meaning.specs.Sessions.{SessionData}
use Rattle.script_meaning.specs.declared.halt.Halt.TheVariants.{End, Refused, TooLarge}
use Rattle.symbol_meaning.specs.Readings.{Valuations, reading_under}
use Rattle.symbol_meaning.specs.Comparing.{Shown, Watched, shown_by, ShowsWaves}
use Rattle.symbol_meaning.specs.Comparing.ShowsWaves.{no_line, one_more}
use Rattle.symbol_meaning.specs.Runs.{AreRefused}
use Rattle.symbol_told.specs.declared.notes.WaveNote.{WaveNote}
use Rattle.symbol_told.specs.Lines.{Telling}
use Rattle.symbol_told.specs.Noting.{NotesData, no_notes}
use Rattle.symbol_comparing.specs.Notes.{names_of, shown_in}
use Rattle.symbol_comparing.specs.Told.{AreValuationsOf}
use Rattle.symbol_run.specs.declared.session.SymbolFault.{SymbolFault}
use Rattle.symbol_run.specs.Halts.{StopsAmong}
use Rattle.symbol_run.specs.Turns.{ObeysHeard, OutgrowsInAll, StaysUnheard, StopsAt}
use Rattle.symbol_run.proofs.RunLemmas.{come_end, come_large, come_on, come_refused, come_start, stops_among, Come, Numbered}
use Rattle.symbol_equiv.specs.Lines.{IsNoted}
use Rattle.symbol_equiv.specs.Notes.{AreNotes, StillShow}
use Rattle.symbol_equiv.specs.Runs.{Unheard, hear_nothing, RunsNoted}
use Rattle.symbol_equiv.specs.Words.{all_watched, names_watched}
use Rattle.symbol_equiv.proofs.KeptLemmas.{still_same, still_then}
use Rattle.symbol_equiv.proofs.RailLemmas.{rails_none}

-- ---- who hears nothing

abbrev no_part : Unheard → Telling → Unheard → Type 0
no_part before told after = Unit {0}

unheard_all : (told : List Telling) → hear_all {H = Unheard} {A = Telling} hear_nothing tt told ≡ tt
unheard_all [] = refl
unheard_all (own ∷ told) = unheard_all told

module _ (v : Valuations) (old : ℕ → SessionData) (new : ℕ → SessionData) (before after : NotesData) (asked known : List GroupTextData) where
  obeys_unheard : (cut : Option ℕ) (line : ℕ × List ℕ) (old_maker new_maker : Symbols) →
      IsNoted old_maker new_maker true v cut old line new before after asked known → ObeysHeard {H = Unheard} hear_nothing true v cut old line new tt tt asked known
  obeys_unheard cut line old_maker new_maker is = record {
    told = is.told;
    texts = is.texts;
    obeyed = is.obeyed;
    heard = sym (unheard_all is.told);
    analysed = is.analysed;
  }

  stays_unheard : StaysUnheard {H = NotesData} v old new before after asked known → StaysUnheard {H = Unheard} v old new tt tt asked known
  stays_unheard is = record { same = is.same; unheard = refl; unasked = is.unasked }

-- ---- what was noted so far

-- what lines show that are left is behind what was shown
abbrev pub ShowsSoFar : Valuations → Option ℕ → (ℕ → SessionData) → Numbered → (ℕ → SessionData) → Numbered → List Watched → (ℕ → List Shown) → Type 0
ShowsSoFar v cut start all now left words shown =
    (column : ℕ) → column < v.columns → (end : SessionData) (more : List Shown) →
    ShowsWaves (reading_under true (v.values column)) cut words (now column) left end more →
    ShowsWaves (reading_under true (v.values column)) cut [] (start column) all end (shown column ++ more)

pub record Noting (first now : Symbols) (v : Valuations) (cut : Option ℕ) (start : ℕ → SessionData) (all : Numbered) (sessions : ℕ → SessionData) (left : Numbered)
    (kept later notes : NotesData) (asked known : List GroupTextData) : Type 0 where
  pub come : Come {H = Unheard} hear_nothing true v cut start all sessions left tt tt asked known
  pub shows : ShowsSoFar v cut start all sessions left notes.words (shown_in now notes)
  pub names : names_of notes.words ++ all_watched true left ≡ all_watched true all
  pub valued : AreValuationsOf now v
  pub whole : AreNotes now notes
  pub still : StillShow first now kept later
  pub columns : columns_in now ≡ columns_in first

-- no notes
pub none_noted : (symbols : Symbols) → AreNotes symbols no_notes
none_noted symbols = record { rails = rails_none symbols; counted = refl; few = All-nil (λ (wave : WaveNote). wave.words ≤ 0) }

module _ (first : Symbols) (v : Valuations) (cut : Option ℕ) (start : ℕ → SessionData) (all : Numbered) (kept : NotesData) (asked : List GroupTextData) where
  -- none yet
  pub noting_start : (notes : NotesData) → notes ≡ no_notes → AreValuationsOf first v → AreNotes first kept →
      Noting first first v cut start all start all kept kept notes asked asked
  noting_start notes none valued are =
      subst (λ (own : NotesData). Noting first first v cut start all start all kept kept own asked asked) (sym none)
      (record {
        come = come_start hear_nothing no_part true v cut start all tt asked;
        shows = λ column inside end more is. is;
        names = refl;
        valued = valued;
        whole = none_noted first;
        still = still_same first kept are;
        columns = refl;
      })

  module _ (now : Symbols) (sessions : ℕ → SessionData) (later notes : NotesData) (known : List GroupTextData) where
    -- the same lines that are left
    pub noting_to : (left rest : Numbered) → left ≡ rest → Noting first now v cut start all sessions left kept later notes asked known →
        Noting first now v cut start all sessions rest kept later notes asked known
    noting_to left rest same so = subst (λ (lines : Numbered). Noting first now v cut start all sessions lines kept later notes asked known) same so

    -- all were obeyed
    pub noting_end : Noting first now v cut start all sessions [] kept later notes asked known →
        RunsNoted now true v cut start all sessions notes asked known End
    noting_end so = record {
      halts = come_end hear_nothing no_part true v cut start all tt asked sessions tt known so.come;
      ends = record {
        whole = so.whole;
        names = sym (append-nil (names_of notes.words)) ∙ so.names;
        shows = λ column inside. (
          sessions column,
          subst (λ (shown : List Shown). ShowsWaves (reading_under true (v.values column)) cut [] (start column) all (sessions column) shown)
              (append-nil (shown_in now notes column)) (so.shows column inside (sessions column) [] (no_line notes.words (sessions column))),
        );
      };
    }

    module _ (line : ℕ × List ℕ) (rest : Numbered) (so : Noting first now v cut start all sessions (line ∷ rest) kept later notes asked known) where
      -- a line more was noted
      pub noting_on : (new : Symbols) (mid : ℕ → SessionData) (others after : NotesData) (more : List GroupTextData) →
          IsNoted now new true v cut sessions line mid notes after known more → AreValuationsOf new v → StillShow now new later others →
          Noting first new v cut start all mid rest kept others after asked more
      noting_on new mid others after more is valued still =
          let same : columns_in new ≡ columns_in now = sym valued.columns ∙ so.valued.columns in record {
            come = come_on hear_nothing no_part true v cut start all tt asked sessions line rest tt known so.come mid tt more
                (obeys_unheard v sessions mid notes after known more cut line now new is);
            shows = λ column inside end shown is_left.
                let wrote = is.obeyed.lines column in
                let own : List Shown = filter_map (shown_by notes.words) wrote in
                subst (λ (all_shown : List Shown). ShowsWaves (reading_under true (v.values column)) cut [] (start column) all end all_shown)
                (sym (append_assoc (shown_in now notes column) own shown) ∙ ap (λ (front : List Shown). front ++ shown) (sym (is.shown column inside)))
                (so.shows column inside end (own ++ shown)
                (one_more notes.words (sessions column) (mid column) end line rest wrote is.texts shown (is.obeyed.each column inside)
                (subst (λ (words : List Watched). ShowsWaves (reading_under true (v.values column)) cut words (mid column) rest end shown)
                (is.words column inside) is_left)));
            names = ap (λ (names : List (List ℕ)). names ++ all_watched true rest) is.names
                ∙ append_assoc (names_of notes.words) (names_watched true line) (all_watched true rest) ∙ so.names;
            valued = valued;
            whole = is.whole;
            still = still_then first now new kept later others so.columns so.still still;
            columns = same ∙ so.columns;
          }

      -- one is refused for this code
      pub noting_refused : (code : FaultCode) (new : Symbols) (mid : ℕ → SessionData) (after : NotesData) (more : List GroupTextData) →
          AreRefused true v cut sessions line (plain_cause code) → StaysUnheard {H = NotesData} v sessions mid notes after known more →
          RunsNoted new true v cut start all mid after asked more (Refused line.0 code)
      noting_refused code new mid after more refused stays = record {
        halts = come_refused hear_nothing no_part true v cut start all tt asked sessions line rest tt known so.come (plain_cause code) mid tt more refused
            (stays_unheard v sessions mid notes after known more stays);
        ends = tt;
      }

      -- one is refused for the size of a group
      pub noting_large : (fault : BuildFault) (new : Symbols) (mid : ℕ → SessionData) (after : NotesData) (more : List GroupTextData) →
          OutgrowsInAll true v cut sessions line fault → StaysUnheard {H = NotesData} v sessions mid notes after known more →
          RunsNoted new true v cut start all mid after asked more (TooLarge line.0 fault)
      noting_large fault new mid after more large stays = record {
        halts = come_large hear_nothing no_part true v cut start all tt asked sessions line rest tt known so.come fault mid tt more large
            (stays_unheard v sessions mid notes after known more stays);
        ends = tt;
      }

      -- one at which vertices ran out is one of the lines
      pub noting_among : (why : SymbolFault) → StopsAt line.0 why → StopsAmong all why
      noting_among why at = stops_among hear_nothing no_part true v cut start all tt asked sessions line rest tt known so.come why at
