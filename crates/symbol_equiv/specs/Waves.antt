-- What one line of a symbolic script comes to in all columns, where the rails that are told with a waveform line are those of its nodes.
use Rattle.std.specs.Prelude.{◌≡◌, ℕ, ◌<◌, Bool, List, ◌++◌, filter_map, All, Option, Some, None, Result, Ok, Err}
use Rattle.ternary.specs.declared.tern.Tern.{Tern}
use Rattle.group_text.specs.Texts.{GroupTextData}
use Rattle.decision_graph.specs.declared.vertex.Function.{Function}
use Rattle.truth_makers.specs.declared.symbols.Symbols.{Symbols}
use Rattle.told_lines.specs.Hearing.{hear_all}
use Rattle.told_lines.specs.Lines as of_one
use Rattle.told_lines.specs.Lines.{Line}
use Rattle.run_ends.specs.Causes.{plain_cause}
use Rattle.session_meaning.specs.Sessions.{SessionData}
use Rattle.script_meaning.specs.declared.turn.Turn.{Turn}
use Rattle.script_meaning.specs.declared.turn.Turn.TheVariants.{Accepted, Refused, TooLarge}
use Rattle.symbol_meaning.specs.Readings.{Valuations}
use Rattle.symbol_meaning.specs.Told.{SymbolTold, Wave}
use Rattle.symbol_meaning.specs.Runs.{AreRefused, IsObeyedInAll}
use Rattle.symbol_told.specs.Lines.{Telling}
use Rattle.symbol_told.specs.Printing.{lines_told}
use Rattle.symbol_comparing.specs.Rails.{letters_in, rails_of, AreRailsOf}
use Rattle.symbol_run.specs.declared.session.SymbolFault.{SymbolFault}
use Rattle.symbol_run.specs.Turns.{OutgrowsInAll, StaysUnheard}

-- of a waveform line of a column its number and the states of its nodes
abbrev pub wave_of : Line → Option (ℕ × List Tern)
wave_of (of_one.Wave n k mark states) = Some (n, states)
wave_of other = None

-- and of one that is told the states that its nodes have in a column, by their rails
abbrev pub wave_with : Symbols → ℕ → SymbolTold → List Function → List Function → Option (ℕ × List Tern)
wave_with symbols column (Wave n k mark letters) highs lows = Some (n, letters_in symbols (rails_of highs lows) column)
wave_with symbols column other highs lows = None

abbrev pub wave_told : Symbols → ℕ → Telling → Option (ℕ × List Tern)
wave_told symbols column told = wave_with symbols column told.line told.highs told.lows

-- the rails that are told are a maker's, and by them each column's waveform lines are those that it writes
pub record AreRailed (symbols : Symbols) (columns : ℕ) (lines : ℕ → List Line) (told : List Telling) : Type 0 where
  pub rails : All (λ own. AreRailsOf symbols (rails_of own.highs own.lows)) told
  pub waves : (column : ℕ) → column < columns → filter_map (wave_told symbols column) told ≡ filter_map wave_of (lines column)

-- the line is obeyed in each column; what it tells was heard, with the rails of the nodes, and its texts were analysed
pub record ObeysRailed {H : Type 0} (symbols : Symbols) (hear : H → Telling → H) (quiet : Bool) (v : Valuations) (cut : Option ℕ) (old : ℕ → SessionData)
    (line : ℕ × List ℕ) (new : ℕ → SessionData) (before after : H) (asked known : List GroupTextData) : Type 0 where
  pub told : List Telling
  pub texts : List GroupTextData
  pub obeyed : IsObeyedInAll quiet v cut old line new (lines_told told) texts
  pub railed : AreRailed symbols v.columns obeyed.lines told
  pub heard : after ≡ hear_all hear before told
  pub analysed : known ≡ asked ++ texts

-- what one line comes to: this, if it is accepted; or it is refused in each column, under a code or for the size of a group, and nothing was heard; at a
-- fault nothing is said
abbrev pub TakesTurnBy : {H : Type 0} → Type 0 → Bool → Valuations → Option ℕ → (ℕ → SessionData) → ℕ × List ℕ → (ℕ → SessionData) → H → H →
    List GroupTextData → List GroupTextData → Result Turn SymbolFault → Type 0
TakesTurnBy accepted quiet v cut old line new before after asked known (Ok Accepted) = accepted
TakesTurnBy accepted quiet v cut old line new before after asked known (Ok (Refused code)) =
    AreRefused quiet v cut old line (plain_cause code) × StaysUnheard v old new before after asked known
TakesTurnBy accepted quiet v cut old line new before after asked known (Ok (TooLarge fault)) =
    OutgrowsInAll quiet v cut old line fault × StaysUnheard v old new before after asked known
TakesTurnBy accepted quiet v cut old line new before after asked known (Err fault) = Unit {0}

-- what one comes to whose rails are told
abbrev pub TakesTurnRailed : {H : Type 0} → Symbols → (H → Telling → H) → Bool → Valuations → Option ℕ → (ℕ → SessionData) → ℕ × List ℕ → (ℕ → SessionData) →
    H → H → List GroupTextData → List GroupTextData → Result Turn SymbolFault → Type 0
TakesTurnRailed symbols hear quiet v cut old line new before after asked known =
    TakesTurnBy (ObeysRailed symbols hear quiet v cut old line new before after asked known) quiet v cut old line new before after asked known
