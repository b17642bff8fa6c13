-- What a line comes to in all columns, by what becomes of what it asks for.
use Rattle.std.proofs.Common.{◌≡◌, ℕ, ◌<◌, ◌⊎◌, Bool, true, false, List, [], ◌∷◌, Option, None, Some, Result, Ok, Err, inl, inr, refl, sym, ap, subst, ◌∙◌, append-nil}
use Rattle.std.specs.Prelude.{nat_eq}
use Rattle.std.specs.Option.{option_eq}
use Rattle.std.proofs.lemmas.List.Elements.{All-nil}
use Rattle.group_text.specs.Texts.{GroupTextData}
use Rattle.netlist.specs.Circuits.{CircuitData}
use Rattle.line_words.specs.Files.{is_cut}
use Rattle.circuit_texts.specs.declared.texts.BuildFault.{BuildFault}
use Rattle.printed_lines.specs.declared.faults.FaultCode.{FaultCode}
use Rattle.printed_lines.specs.declared.faults.FaultCode.TheVariants.{S11TooLong}
use Rattle.script_lang.specs.declared.command.Command.{Command}
use Rattle.script_lang.specs.declared.command.ScriptFault.{ScriptFault}
use Rattle.script_lang.specs.declared.command.ScriptFault.TheVariants.{NoMemory}
use Rattle.told_lines.specs.Lines.{Line}
use Rattle.run_ends.specs.Causes.{plain_cause, size_cause}
use Rattle.run_ends.proofs.SizeLemmas.{size_caused}
use Rattle.session_meaning.specs.Sessions.{SessionData}
use Rattle.script_meaning.specs.declared.turn.Turn.{Turn}
use Rattle.script_meaning.specs.declared.turn.Turn.TheVariants.{Accepted, Refused, TooLarge}
use Rattle.script_meaning.specs.Codes.{script_code}
use Rattle.script_meaning.specs.Runs.{Asks, refused, too_large, too_long, unread}
use Rattle.script_meaning.specs.FirstRefused.{IsObeyed, done, idle}
use Rattle.symbol_script.specs.declared.line.SymbolLine.{SymbolLine}
use Rattle.symbol_script.specs.Lines.{symbol_reading_of}
use Rattle.symbol_meaning.specs.Readings.{Valuations, command_under, reading_under}
use Rattle.symbol_meaning.specs.Told.{SymbolTold}
use Rattle.symbol_meaning.specs.Merging.{Merges}
use Rattle.symbol_meaning.specs.Merging.AreMerged.{no_line}
use Rattle.symbol_meaning.specs.Runs.{AreRefused, IsObeyedInAll, asked_in}
use Rattle.symbol_told.specs.Lines.{Telling}
use Rattle.symbol_told.specs.Printing.{lines_told}
use Rattle.symbol_run.specs.declared.session.SymbolFault.{SymbolFault}
use Rattle.symbol_run.proofs.RunLemmas.{obeyed_to}
use Rattle.symbol_run.specs.Turns.{BreaksLine, OutgrowsInAll, StaysUnheard, TakesTurnInAll}
use Rattle.symbol_outcomes.specs.Families.{IsFamily}
use Rattle.symbol_outcomes.proofs.BreakLemmas.{breaks_behind, breaks_cycling, breaks_unheard}
use Rattle.truth_makers.specs.declared.symbols.Symbols.{Symbols}
use Rattle.symbol_comparing.specs.Rails.{AreRailsOf, rails_of}
use Rattle.symbol_equiv.specs.Waves.{AreRailed, TakesTurnRailed}
use Rattle.symbol_session.specs.Asked.{AreOutgrownBy, AreRefusedFor, IsDone, IsDoneInAll, command_in}
use Rattle.symbol_session.specs.Turns.{BreaksAsked, TakesAsked, begun, cycling, turn_unread, unheard}

-- a line with the number of the one that is too far is too far
pub is_far : (cut : Option ℕ) (number : ℕ) (same : Bool) → same ≡ option_eq nat_eq cut (Some number) → same ≡ true → is_cut cut number ≡ true
is_far None number same tested is = absurd (let e : true ≡ false = sym is ∙ tested in cc)
is_far (Some line) number same tested is = sym tested ∙ is

-- ---- a line that is read

module _ (quiet : Bool) (v : Valuations) (cut : Option ℕ) (old : ℕ → SessionData) (line : ℕ × List ℕ) (asked : SymbolLine) (whole : is_cut cut line.0 ≡ false)
    (reads : symbol_reading_of quiet line.1 ≡ Ok (Some asked)) where
  -- in a column it asks for the column's command
  read_in : (column : ℕ) → reading_under quiet (v.values column) (old column).circuit (old column).vectors line.1 ≡ Ok (command_in v old asked column)
  read_in column = ap (command_under (v.values column) (old column).circuit (old column).vectors) reads

  asks_in : (column : ℕ) (own : Command) → command_in v old asked column ≡ Some own → Asks (reading_under quiet (v.values column)) cut (old column) line own
  asks_in column own is = record { inside = whole; asked = read_in column ∙ ap (λ (found : Option Command). Ok found) is }

  -- and is obeyed if that is done
  obeyed_in : (column : ℕ) (new : SessionData) (lines : List Line) (texts : List GroupTextData) →
      IsDone (old column) (command_in v old asked column) new lines texts → IsObeyed (reading_under quiet (v.values column)) cut (old column) line new lines texts
  obeyed_in column new lines texts is = by (command_in v old asked column) refl is
    where
      by : (found : Option Command) → command_in v old asked column ≡ found → IsDone (old column) found new lines texts →
          IsObeyed (reading_under quiet (v.values column)) cut (old column) line new lines texts
      by None none (same, silent, unasked) =
          rw (same, silent, unasked) (idle (record { inside = whole; nothing = read_in column ∙ ap (λ (found : Option Command). Ok found) none }))
      by (Some own) is performs = done own new lines texts (asks_in column own is) performs

  pub obeyed_in_all : (new : ℕ → SessionData) (told : List SymbolTold) (texts : List GroupTextData) → IsDoneInAll v old asked new told texts →
      IsObeyedInAll quiet v cut old line new told texts
  obeyed_in_all new told texts does = record {
    lines = does.lines;
    each = λ column inside. obeyed_in column (new column) (does.lines column) texts (does.each column inside);
    merged = subst (λ (reading : Result (Option SymbolLine) ScriptFault). Merges v old (asked_in reading) does.lines told) (sym reads) does.merged;
  }

  refused_in_all : (code : FaultCode) → AreRefusedFor v old asked code → AreRefused quiet v cut old line (plain_cause code)
  refused_in_all code are = λ column inside.
      let own = are.each column inside in
      refused own.own are.refusal (asks_in column own.own own.asks) own.refused (sym (ap plain_cause are.coded))

  outgrown_in_all : IsFamily v.columns old → (fault : BuildFault) → AreOutgrownBy v old asked fault → OutgrowsInAll quiet v cut old line fault
  outgrown_in_all family fault are =
      let first = are 0 family.some in
      let caused = size_caused (old 0).large (old 0).circuit fault first.first in
      let named : (column : ℕ) → column < v.columns → size_cause (old column).circuit fault ≡ Some caused.0 = λ column inside.
      ap (λ (c : CircuitData). size_cause c fault) (family.alike 0 column family.some inside).circuit ∙ caused.1 in
      record {
        cause = caused.0;
        named = named;
        first = λ column inside. (are column inside).first;
        refused = λ column inside.
            let own = are column inside in
            too_large own.own fault (asks_in column own.own own.asks) own.allowed own.building own.first (named column inside);
      }

  module _ {H : Type 0} (symbols : Symbols) (hear : H → Telling → H) (part : H → Telling → H → Type 0) (family : IsFamily v.columns old)
      (rest : List (ℕ × List ℕ)) (new : ℕ → SessionData) (before after : H) (before_texts known : List GroupTextData) where
    -- a fault broke it off
    broken : BreaksAsked hear part v old asked before after → BreaksLine hear part quiet v cut old (line ∷ rest) before after
    broken (unheard same) = breaks_unheard hear part quiet v cut old family before after (line ∷ rest) same
    broken (begun is) =
        breaks_behind hear part quiet v cut old family before after line rest is.end is.told is.texts is.heard
        (obeyed_in_all is.end (lines_told is.told) is.texts is.does)
    broken (cycling is) =
        let moves = is.begun.begun.moves in
        breaks_cycling hear part quiet v cut old family before after line rest is.begun.begun.end is.begun.begun.told is.texts is.begun.begun.heard
        is.times is.mid is.begun.done is.begun.left moves.lines whole (reads ∙ ap (λ (one : SymbolLine). Ok (Some one)) is.asks_for) is.allowed is.built is.begun.split
        moves.each moves.merged

    takes_turn : (result : Result Turn SymbolFault) → TakesAsked symbols hear part v old asked new before after before_texts known result →
        TakesTurnInAll hear part quiet v cut old line rest new before after before_texts known result
    takes_turn (Ok Accepted) does = record {
      told = does.told;
      texts = does.texts;
      obeyed = obeyed_in_all new (lines_told does.told) does.texts does.does;
      heard = does.heard;
      analysed = does.analysed;
    }
    takes_turn (Ok (Refused code)) (are, stays) = (refused_in_all code are, stays)
    takes_turn (Ok (TooLarge fault)) (are, stays) = (outgrown_in_all family fault are, stays)
    takes_turn (Err fault) breaks = broken breaks

    takes_railed : (result : Result Turn SymbolFault) → TakesAsked symbols hear part v old asked new before after before_texts known result →
        TakesTurnRailed symbols hear quiet v cut old line new before after before_texts known result
    unfolding obeyed_in_all
    takes_railed (Ok Accepted) does = record {
      told = does.told;
      texts = does.texts;
      obeyed = obeyed_in_all new (lines_told does.told) does.texts does.does;
      railed = does.railed;
      heard = does.heard;
      analysed = does.analysed;
    }
    takes_railed (Ok (Refused code)) (are, stays) = (refused_in_all code are, stays)
    takes_railed (Ok (TooLarge fault)) (are, stays) = (outgrown_in_all family fault are, stays)
    takes_railed (Err fault) breaks = tt

    pub takes_asked : (result : Result Turn SymbolFault) → TakesAsked symbols hear part v old asked new before after before_texts known result →
        TakesTurnInAll hear part quiet v cut old line rest new before after before_texts known result
        × TakesTurnRailed symbols hear quiet v cut old line new before after before_texts known result
    takes_asked result does = (takes_turn result does, takes_railed result does)

-- ---- a line that asks for nothing, or is refused as it is read

-- nothing changed, and nothing was heard
pub stays_unheard : {H : Type 0} (v : Valuations) (old : ℕ → SessionData) (before : H) (texts : List GroupTextData) → StaysUnheard v old old before before texts texts
stays_unheard v old before texts = record { same = λ column inside. refl; unheard = refl; unasked = refl }

module _ (quiet : Bool) (v : Valuations) (cut : Option ℕ) (old : ℕ → SessionData) (line : ℕ × List ℕ) where
  idle_in_all : is_cut cut line.0 ≡ false → symbol_reading_of quiet line.1 ≡ Ok None → IsObeyedInAll quiet v cut old line old [] []
  idle_in_all whole reads = record {
    lines = λ column. [];
    each = λ column inside. idle (record { inside = whole; nothing = ap (command_under (v.values column) (old column).circuit (old column).vectors) reads });
    merged = subst (λ (reading : Result (Option SymbolLine) ScriptFault). Merges v old (asked_in reading) (λ column. []) []) (sym reads)
        (no_line (λ column. []) (λ column inside. refl));
  }

  -- the one that holds the first byte too many
  cut_in_all : is_cut cut line.0 ≡ true → AreRefused quiet v cut old line (plain_cause S11TooLong)
  cut_in_all far = λ column inside. too_long far refl

  -- one that is no command
  unread_in_all : (fault : ScriptFault) (code : FaultCode) → is_cut cut line.0 ≡ false → symbol_reading_of quiet line.1 ≡ Err fault →
      script_code fault ≡ Some code → AreRefused quiet v cut old line (plain_cause code)
  unread_in_all fault code whole reads coded = λ column inside.
      unread fault code whole (ap (command_under (v.values column) (old column).circuit (old column).vectors) reads) coded refl

  module _ {H : Type 0} (symbols : Symbols) (hear : H → Telling → H) (part : H → Telling → H → Type 0) (rest : List (ℕ × List ℕ)) (before : H)
      (texts : List GroupTextData) where
    pub takes_cut : is_cut cut line.0 ≡ true →
        TakesTurnInAll hear part quiet v cut old line rest old before before texts texts (Ok (Refused S11TooLong))
        × TakesTurnRailed symbols hear quiet v cut old line old before before texts texts (Ok (Refused S11TooLong))
    takes_cut far = ((cut_in_all far, stays_unheard v old before texts), (cut_in_all far, stays_unheard v old before texts))

    pub takes_idle : is_cut cut line.0 ≡ false → symbol_reading_of quiet line.1 ≡ Ok None →
        TakesTurnInAll hear part quiet v cut old line rest old before before texts texts (Ok Accepted)
        × TakesTurnRailed symbols hear quiet v cut old line old before before texts texts (Ok Accepted)
    unfolding idle_in_all
    takes_idle whole reads = (
      record {
        told = [];
        texts = [];
        obeyed = idle_in_all whole reads;
        heard = refl;
        analysed = sym (append-nil texts);
      },
      record {
        told = [];
        texts = [];
        obeyed = idle_in_all whole reads;
        railed = none_railed;
        heard = refl;
        analysed = sym (append-nil texts);
      },
    )
      where
        none_railed : AreRailed symbols v.columns (λ column. []) []
        none_railed = record { rails = All-nil (λ (own : Telling). AreRailsOf symbols (rails_of own.highs own.lows)); waves = λ column inside. refl }

    pub takes_unread : IsFamily v.columns old → is_cut cut line.0 ≡ false → (fault : ScriptFault) →
        (fault ≡ NoMemory) ⊎ (symbol_reading_of quiet line.1 ≡ Err fault) →
        TakesTurnInAll hear part quiet v cut old line rest old before before texts texts (turn_unread (script_code fault))
        × TakesTurnRailed symbols hear quiet v cut old line old before before texts texts (turn_unread (script_code fault))
    takes_unread family whole fault reads = by (script_code fault) refl reads
      where
        by : (code : Option FaultCode) → script_code fault ≡ code → (fault ≡ NoMemory) ⊎ (symbol_reading_of quiet line.1 ≡ Err fault) →
            TakesTurnInAll hear part quiet v cut old line rest old before before texts texts (turn_unread code)
            × TakesTurnRailed symbols hear quiet v cut old line old before before texts texts (turn_unread code)
        by None coded reads = (breaks_unheard hear part quiet v cut old family before before (line ∷ rest) refl, tt)
        by (Some code) coded (inl none) = absurd (let e : None ≡ Some code = sym (ap script_code none) ∙ coded in cc)
        by (Some code) coded (inr is) =
            let are = unread_in_all fault code whole is coded in ((are, stays_unheard v old before texts), (are, stays_unheard v old before texts))

-- ---- the same data

-- a turn leaves what is the same in each column
pub turn_to : {H : Type 0} (hear : H → Telling → H) (part : H → Telling → H → Type 0) (quiet : Bool) (v : Valuations) (cut : Option ℕ) (old mid new : ℕ → SessionData)
    (line : ℕ × List ℕ) (rest : List (ℕ × List ℕ)) (before after : H) (asked known : List GroupTextData) (turn : Turn) →
    ((column : ℕ) → column < v.columns → new column ≡ mid column) →
    TakesTurnInAll hear part quiet v cut old line rest mid before after asked known (Ok turn) →
    TakesTurnInAll hear part quiet v cut old line rest new before after asked known (Ok turn)
turn_to hear part quiet v cut old mid new line rest before after asked known Accepted same is = record {
  told = is.told;
  texts = is.texts;
  obeyed = obeyed_to quiet v cut old mid new line (lines_told is.told) is.texts same is.obeyed;
  heard = is.heard;
  analysed = is.analysed;
}
turn_to hear part quiet v cut old mid new line rest before after asked known (Refused code) same (are, stays) =
    (are, record { same = λ column inside. same column inside ∙ stays.same column inside; unheard = stays.unheard; unasked = stays.unasked })
turn_to hear part quiet v cut old mid new line rest before after asked known (TooLarge fault) same (are, stays) =
    (are, record { same = λ column inside. same column inside ∙ stays.same column inside; unheard = stays.unheard; unasked = stays.unasked })
