-- `show` and `look` in all columns: what is told, the columns write together, or it is refused in each.
use Rattle.std.proofs.Common.{◌≡◌, ℕ, ◌<◌, false, List, [], All, Option, None, Result, Ok, Err, refl, sym, subst, ◌∙◌, append-nil}
use Rattle.std.specs.Prelude.{IfErr}
use Rattle.group_text.specs.Texts.{GroupTextData}
use Rattle.script_lang.specs.declared.command.Command.TheVariants as family
use Rattle.script_lang.specs.declared.command.Tell.{Tell}
use Rattle.script_lang.specs.declared.command.Tell.TheVariants.{Expect, Show, Look}
use Rattle.session_meaning.specs.declared.fault.ApplyFault.{ApplyFault}
use Rattle.session_meaning.specs.declared.fault.ApplyFault.TheVariants as apply
use Rattle.session_meaning.specs.declared.fault.Refusal.{Refusal}
use Rattle.session_meaning.specs.Sessions.{SessionData}
use Rattle.session_meaning.specs.Effects.{told_by}
use Rattle.session_meaning.specs.Outcomes.{Performs}
use Rattle.session_meaning.specs.Refusals.{refusal_of}
use Rattle.session_meaning.specs.Sinks.{faults_applied}
use Rattle.symbol_script.specs.declared.line.SymbolLine.TheVariants as asks
use Rattle.symbol_meaning.specs.Readings.{Valuations}
use Rattle.symbol_meaning.specs.Told.{SymbolTold}
use Rattle.symbol_meaning.specs.Merging.{AreMerged}
use Rattle.symbol_told.specs.Lines.{Telling}
use Rattle.symbol_told.specs.Printing.{lines_told}
use Rattle.symbol_run.specs.Turns.{faults_stopped, RefusedStopped, StopsAt}
use Rattle.truth_makers.specs.declared.symbols.Symbols.{Symbols}
use Rattle.symbol_looking.specs.Tellings.{RefusedTelling, TellsInAll, tellings}
use Rattle.symbol_looking.proofs.ObeyingLemmas.{lines_of_tellings, looks, shows}
use Rattle.symbol_session.specs.Asked.{IsDoneInAll, IsOfTell}
use Rattle.symbol_session.specs.Turns.{TakesAsked, begun, turn_of}
use Rattle.symbol_session.proofs.SilentLemmas.{is_wave, merged_railed}

-- what tells is refused, or done, whatever is kept
tell_performs : (tell : Tell) → IsOfTell tell → (session : SessionData) → refusal_of session (family.Tell tell) ≡ None →
    Performs session (family.Tell tell) session (told_by session tell) []
tell_performs (Expect list) never session allowed = absurd never
tell_performs (Show names) of session allowed = shows session names allowed
tell_performs (Look names) of session allowed = looks session names allowed

module _ {H : Type 0} (symbols : Symbols) (hear : H → Telling → H) (part : H → Telling → H → Type 0) (v : Valuations) (sessions : ℕ → SessionData) (tell : Tell)
    (of : IsOfTell tell) (told : List SymbolTold) (merged : AreMerged v.columns (λ column. told_by (sessions column) tell) told) (before after : H)
    (silent : All (λ line. is_wave line ≡ false) told) (texts : List GroupTextData) where
  done_tell : ((column : ℕ) → column < v.columns → refusal_of (sessions column) (family.Tell tell) ≡ None) →
      IsDoneInAll v sessions (asks.Plain (family.Tell tell)) sessions (lines_told (tellings told)) []
  done_tell allowed = record {
    lines = λ column. told_by (sessions column) tell;
    each = λ column inside. tell_performs tell of (sessions column) (allowed column inside);
    merged = subst (λ (lines : List SymbolTold). AreMerged v.columns (λ column. told_by (sessions column) tell) lines) (sym (lines_of_tellings told)) merged;
  }

  pub tell_turn : (refusal : Option Refusal) → ((column : ℕ) → column < v.columns → refusal_of (sessions column) (family.Tell tell) ≡ refusal) →
      (ended : Result (Unit {0}) ApplyFault) → TellsInAll hear part refusal (tellings told) before after ended →
      TakesAsked symbols hear part v sessions (asks.Plain (family.Tell tell)) sessions before after texts texts (turn_of ended)
  unfolding done_tell
  tell_turn refusal each (Ok done) (none, heard) = record {
    told = tellings told;
    texts = [];
    does = done_tell (λ column inside. each column inside ∙ none);
    railed = merged_railed symbols v.columns (λ column. told_by (sessions column) tell) told silent merged;
    heard = heard;
    analysed = sym (append-nil texts);
  }
  tell_turn refusal each (Err (apply.Refused own)) (some, same) = (
    record {
      refusal = own;
      coded = refl;
      each = λ column inside. record { own = family.Tell tell; asks = refl; refused = each column inside ∙ some };
    },
    record { same = λ column inside. refl; unheard = same; unasked = refl },
  )
  tell_turn refusal each (Err (apply.GroupNodes node count)) never = absurd never
  tell_turn refusal each (Err (apply.GroupSwitches node count)) never = absurd never
  tell_turn refusal each (Err apply.WriteFault) (none, heard) =
      begun (record { end = sessions; told = tellings told; texts = []; does = done_tell (λ column inside. each column inside ∙ none); heard = heard })
  tell_turn refusal each (Err apply.NoMemory) (none, heard) =
      begun (record { end = sessions; told = tellings told; texts = []; does = done_tell (λ column inside. each column inside ∙ none); heard = heard })

-- ---- the hearer's counts

pub told_stops : (ended : Result (Unit {0}) ApplyFault) (number : ℕ) → IfErr (turn_of ended) (StopsAt number)
told_stops (Ok done) number = tt
told_stops (Err (apply.Refused refusal)) number = tt
told_stops (Err (apply.GroupNodes node count)) number = tt
told_stops (Err (apply.GroupSwitches node count)) number = tt
told_stops (Err apply.WriteFault) number = tt
told_stops (Err apply.NoMemory) number = tt

pub told_faults : (ended : Result (Unit {0}) ApplyFault) (faults : ℕ) → faults_stopped faults (turn_of ended) ≡ faults_applied faults ended
told_faults (Ok done) faults = refl
told_faults (Err (apply.Refused refusal)) faults = refl
told_faults (Err (apply.GroupNodes node count)) faults = refl
told_faults (Err (apply.GroupSwitches node count)) faults = refl
told_faults (Err apply.WriteFault) faults = refl
told_faults (Err apply.NoMemory) faults = refl

pub told_refusals : (ended : Result (Unit {0}) ApplyFault) (before now : ℕ) → RefusedTelling before now ended → RefusedStopped before now (turn_of ended)
told_refusals (Ok done) before now is = is
told_refusals (Err (apply.Refused refusal)) before now is = is
told_refusals (Err (apply.GroupNodes node count)) before now is = is
told_refusals (Err (apply.GroupSwitches node count)) before now is = is
told_refusals (Err apply.WriteFault) before now is = is
told_refusals (Err apply.NoMemory) before now is = is
