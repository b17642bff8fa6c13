-- What becomes of a line whose command tells nothing and builds nothing.
use Rattle.std.proofs.Common.{◌≡◌, ℕ, ◌<◌, Bool, true, false, List, [], Option, None, Some, Result, Ok, Err, refl, sym, subst, ◌∙◌, append-nil}
use Rattle.std.proofs.lemmas.List.Elements.{All-nil}
use Rattle.group_text.specs.Texts.{GroupTextData}
use Rattle.script_lang.specs.declared.command.Command.{Command}
use Rattle.column_script.specs.declared.command.ValueCommand.{ValueCommand}
use Rattle.column_script.specs.declared.command.ValueCommand.TheVariants as value
use Rattle.session_meaning.specs.Sessions.{SessionData}
use Rattle.session_meaning.specs.Outcomes.{Does, Performs}
use Rattle.session_meaning.specs.Preparing.{BuildsIf, builds}
use Rattle.script_meaning.specs.declared.turn.Turn.{Turn}
use Rattle.script_meaning.specs.declared.turn.Turn.TheVariants.{Accepted, Refused, TooLarge}
use Rattle.symbol_lines.specs.declared.commands.SymbolCommand.{SymbolCommand}
use Rattle.symbol_lines.specs.Names.{has_name}
use Rattle.symbol_script.specs.declared.line.Assignment.{Assignment}
use Rattle.symbol_script.specs.declared.line.SymbolLine.{SymbolLine}
use Rattle.symbol_script.specs.declared.line.SymbolLine.TheVariants as asks
use Rattle.symbol_meaning.specs.Readings.{Valuations}
use Rattle.symbol_meaning.specs.Scripts.{definition_in}
use Rattle.symbol_meaning.specs.Merging.{Merges}
use Rattle.symbol_meaning.specs.Merging.AreMerged.{no_line}
use Rattle.symbol_told.specs.Lines.{Telling}
use Rattle.symbol_run.specs.declared.session.SymbolFault.{SymbolFault}
use Rattle.symbol_run.specs.Turns.{StaysUnheard}
use Rattle.truth_makers.specs.declared.symbols.Symbols.{Symbols}
use Rattle.symbol_comparing.specs.Rails.{AreRailsOf, rails_of}
use Rattle.symbol_equiv.specs.Waves.{AreRailed}
use Rattle.symbol_session.specs.Asked.{AreSame, GivesAsked, IsDone, IsKnown, NamesAsked, QuietlyAsked, asked_values, command_in}
use Rattle.symbol_session.specs.Sessions.{Stays, SymbolData}
use Rattle.symbol_session.specs.Turns.{DoesHeard, HasNext, TakesAsked, unheard}

-- what is done at once, without a build
performed : (old new : SessionData) (command : Command) → builds command ≡ false → Does old command new [] → Performs old command new [] []
performed old new command none does = record {
  mid = old;
  prepares = subst (λ (test : Bool). BuildsIf test old old []) (sym none) (refl, refl);
  does = does;
}

-- nothing is told
pub none_railed : (symbols : Symbols) (columns : ℕ) → AreRailed symbols columns (λ column. []) []
none_railed symbols columns = record {
  rails = All-nil (λ (own : Telling). AreRailsOf symbols (rails_of own.highs own.lows));
  waves = λ column inside. refl;
}

module _ {H : Type 0} (symbols : Symbols) (hear : H → Telling → H) (part : H → Telling → H → Type 0) (v : Valuations) (old new : ℕ → SessionData) (before : H)
    (texts : List GroupTextData) where
  stays_quiet : AreSame v.columns old new → StaysUnheard v old new before before texts texts
  stays_quiet same = record { same = same; unheard = refl; unasked = refl }

  done_quiet : (asked : SymbolLine) → Merges v old (Some asked) (λ column. []) [] →
      ((column : ℕ) → column < v.columns → IsDone (old column) (command_in v old asked column) (new column) [] []) →
      DoesHeard symbols hear v old asked new before before texts texts
  done_quiet asked merged each = record {
    told = [];
    texts = [];
    does = record { lines = λ column. []; each = each; merged = merged };
    railed = none_railed symbols v.columns;
    heard = refl;
    analysed = sym (append-nil texts);
  }

  -- a plain command
  pub quiet_turn : (columns : ℕ) → columns ≡ v.columns → (command : Command) → builds command ≡ false → (result : Result Turn SymbolFault) →
      QuietlyAsked columns old command new result → TakesAsked symbols hear part v old (asks.Plain command) new before before texts texts result
  quiet_turn columns count command none (Ok Accepted) each =
      done_quiet (asks.Plain command) (no_line (λ column. []) (λ column inside. refl))
      (λ column inside. performed (old column) (new column) command none (each column (subst (λ (n : ℕ). column < n) (sym count) inside)))
  quiet_turn columns count command none (Ok (Refused code)) ((refusal, coded, each), same) = (
    record {
      refusal = refusal;
      coded = coded;
      each = λ column inside. record { own = command; asks = refl; refused = each column (subst (λ (n : ℕ). column < n) (sym count) inside) };
    },
    stays_quiet (λ column inside. same column (subst (λ (n : ℕ). column < n) (sym count) inside)),
  )
  quiet_turn columns count command none (Ok (TooLarge fault)) never = absurd never
  quiet_turn columns count command none (Err fault) is = unheard refl

  -- one that gives nodes letters
  given_quiet : (kind : ValueCommand) (list : List Assignment) → Merges v old (Some (asked_values kind list)) (λ column. []) []
  given_quiet value.Set list = no_line (λ column. []) (λ column inside. refl)
  given_quiet value.Charge list = no_line (λ column. []) (λ column inside. refl)

  pub gives_turn : (kind : ValueCommand) (list : List Assignment) (result : Result Turn SymbolFault) → GivesAsked v old (asked_values kind list) new result →
      TakesAsked symbols hear part v old (asked_values kind list) new before before texts texts result
  gives_turn kind list (Ok Accepted) each =
      done_quiet (asked_values kind list) (given_quiet kind list)
      (λ column inside.
      let (own, is, none, does) = each column inside in
      subst (λ (found : Option Command). IsDone (old column) found (new column) [] []) (sym is) (performed (old column) (new column) own none does))
  gives_turn kind list (Ok (Refused code)) (are, same) = (are, stays_quiet same)
  gives_turn kind list (Ok (TooLarge fault)) never = absurd never
  gives_turn kind list (Err fault) is = unheard refl

  -- one that says of names
  pub named_turn : (names : List (List ℕ)) (truths : ℕ → List Bool) (columns : ℕ) → columns ≡ v.columns → (command : SymbolCommand) (result : Result Turn SymbolFault) →
      NamesAsked names (asks.Names command) result → AreSame columns old new → IsKnown v names truths (asks.Names command) →
      TakesAsked symbols hear part v old (asks.Names command) new before before texts texts result
  named_turn names truths columns count command (Ok Accepted) is same known =
      done_quiet (asks.Names command) (no_line (λ column. []) (λ column inside. refl))
      (λ column inside. (same column (subst (λ (n : ℕ). column < n) (sym count) inside), refl, refl))
  named_turn names truths columns count command (Ok (Refused code)) (own, defines, there) same known =
      let fresh : has_name names own.0 ≡ false = known.fresh own defines in
      absurd (let e : true ≡ false = sym there ∙ fresh in cc)
  named_turn names truths columns count command (Ok (TooLarge fault)) never same known = absurd never
  named_turn names truths columns count command (Err fault) is same known = unheard refl

-- a line without a definition leaves the table
pub stays_next : (old new : SymbolData) → Stays old new → (asked : SymbolLine) → definition_in (Some asked) ≡ None → HasNext old new asked
stays_next old new stays asked none = record {
  names = rw none stays.names;
  truths = λ column inside. rw none (stays.truths column inside);
}
