-- Lines that run one after the other in all columns: what was told so far is what all tell first, whatever the lines that are left tell.
use Rattle.std.proofs.Common.{◌≡◌, ℕ, ◌<◌, ◌≤◌, Bool, true, false, List, [], ◌∷◌, ◌++◌, Option, None, Some, refl, sym, ap, subst, ◌∙◌, append-nil, append_assoc, arith}
use Rattle.std.proofs.lemmas.Bool.{leb-false, leb-true}
use Rattle.group_text.specs.Texts.{GroupTextData}
use Rattle.circuit_texts.specs.declared.texts.BuildFault.{BuildFault}
use Rattle.told_lines.specs.Hearing.{hear_all}
use Rattle.told_lines.proofs.HearingLemmas.{hear_all-append, so_far-front}
use Rattle.run_ends.specs.Causes.{Cause, size_cause}
use Rattle.circuit_texts.specs.Sizes.{TellsRefused}
use Rattle.session_meaning.specs.Sessions.{SessionData}
use Rattle.script_meaning.specs.FirstRefused.{IsObeyed}
use Rattle.script_meaning.specs.Runs.{RefusedLine}
use Rattle.symbol_meaning.specs.Readings.{Valuations, reading_under}
use Rattle.symbol_meaning.specs.Scripts.{NamedStop, before_stop}
use Rattle.symbol_meaning.specs.Told.{SymbolTold}
use Rattle.symbol_meaning.specs.Runs.{AreRefused, IsObeyedInAll, RunsInAll}
use Rattle.symbol_meaning.specs.Runs.RunsInAll.{ends, obeys, refuses}
use Rattle.symbol_told.specs.Lines.{Telling}
use Rattle.symbol_told.specs.Printing.{lines_told}
use Rattle.symbol_told.proofs.PrintingLemmas.{lines_told-append}
use Rattle.symbol_reading.proofs.ReadingLemmas.{before, is_before, kept_if, none_before, not_before, rises-later, Rises}
use Rattle.symbol_run.specs.Halts.{is_past, HasOutgrownInAll, HasRunInAll, StopsAmong}
use Rattle.symbol_run.specs.declared.session.SymbolFault.{SymbolFault}
use Rattle.symbol_run.specs.declared.session.SymbolFault.TheVariants.{Full, Stopped}
use Rattle.symbol_run.specs.Turns.{BreaksLine, ObeysHeard, OutgrowsInAll, StaysUnheard, StopsAt}

-- lines with their numbers
abbrev pub Numbered : Type 0
Numbered = List (ℕ × List ℕ)

-- ---- lines before the one that is refused by its names

-- a line that doesn't stand before it ends the lines that do
past_none : (stop : Option NamedStop) (line : ℕ × List ℕ) (rest : Numbered) (number : ℕ) → Rises number (line ∷ rest) → is_past stop line.0 ≡ true →
    before_stop stop (line ∷ rest) ≡ []
past_none None line rest number rises is = absurd (cc is)
past_none (Some stop) line rest number (first, later) is =
    let past : stop.0 ≤ line.0 = leb-true stop.0 line.0 is in
    kept_if stop.0 line rest false (not_before line.0 stop.0 past) ∙ none_before stop.0 rest (rises-behind stop.0 line.0 rest past later)
  where
    rises-behind : (own other : ℕ) (lines : Numbered) → own ≤ other → Rises other lines → Rises own lines
    rises-behind own other [] less given = tt
    rises-behind own other (next ∷ lines) less (head, tail) = (omega (arith, less, head), tail)

pub past_all : (stop : Option NamedStop) (line : ℕ × List ℕ) (rest left : Numbered) → left ≡ line ∷ rest → Rises 0 left → is_past stop line.0 ≡ true →
    before_stop stop left ≡ []
past_all stop line rest left heads rises is = ap (before_stop stop) heads ∙ past_none stop line rest 0 (subst (Rises 0) heads rises) is

-- one that does is the first of them
pub here_first : (stop : Option NamedStop) (line : ℕ × List ℕ) (rest : Numbered) → is_past stop line.0 ≡ false →
    before_stop stop (line ∷ rest) ≡ line ∷ before_stop stop rest
here_first None line rest is = refl
here_first (Some stop) line rest is =
    let behind : line.0 < stop.0 = leb-false stop.0 line.0 is in
    kept_if stop.0 line rest true (is_before line.0 stop.0 behind)

-- so do lines that begin with it
pub here_left : (stop : Option NamedStop) (left : Numbered) (line : ℕ × List ℕ) (rest : Numbered) (past : Bool) → left ≡ line ∷ rest →
    past ≡ is_past stop line.0 → past ≡ false → before_stop stop left ≡ line ∷ before_stop stop rest
here_left stop left line rest past same is before = ap (before_stop stop) same ∙ here_first stop line rest (sym is ∙ before)

-- none is left of none
pub none_first : (stop : Option NamedStop) → ◌≡◌ {A = Numbered} (before_stop stop []) []
none_first None = refl
none_first (Some stop) = refl

-- ---- runs

module _ (quiet : Bool) (v : Valuations) (cut : Option ℕ) where
  -- what was told so far is what all lines tell first
  abbrev pub RunsSoFar : (ℕ → SessionData) → Numbered → (ℕ → SessionData) → List SymbolTold → List GroupTextData → Numbered → Type 0
  RunsSoFar start all now told texts left = (end : ℕ → SessionData) (more : List SymbolTold) (others : List GroupTextData) (last : Option RefusedLine) →
      RunsInAll quiet v cut now left end more others last → RunsInAll quiet v cut start all end (told ++ more) (texts ++ others) last

  pub runs_start : (start : ℕ → SessionData) (all : Numbered) → RunsSoFar start all start [] [] all
  runs_start start all = λ end more others last is. is

  pub runs_next : (start now mid : ℕ → SessionData) (all rest : Numbered) (line : ℕ × List ℕ) (told own : List SymbolTold) (texts new_texts : List GroupTextData) →
      RunsSoFar start all now told texts (line ∷ rest) → IsObeyedInAll quiet v cut now line mid own new_texts →
      RunsSoFar start all mid (told ++ own) (texts ++ new_texts) rest
  runs_next start now mid all rest line told own texts new_texts so_far is = λ end more others last later.
      subst (λ (lines : List SymbolTold). RunsInAll quiet v cut start all end lines ((texts ++ new_texts) ++ others) last) (sym (append_assoc told own more))
      (subst (λ (list : List GroupTextData). RunsInAll quiet v cut start all end (told ++ (own ++ more)) list last) (sym (append_assoc texts new_texts others))
      (so_far end (own ++ more) (new_texts ++ others) last (obeys now mid end line rest own more new_texts others last is later)))

-- what was run and heard so far
pub record Come {H : Type 0} (hear : H → Telling → H) (quiet : Bool) (v : Valuations) (cut : Option ℕ) (start : ℕ → SessionData) (all : Numbered)
    (now : ℕ → SessionData) (left : Numbered) (before after : H) (asked known : List GroupTextData) : Type 0 where
  pub told : List Telling
  pub texts : List GroupTextData
  pub so_far : RunsSoFar quiet v cut start all now (lines_told told) texts left
  pub heard : after ≡ hear_all hear before told
  pub analysed : known ≡ asked ++ texts
  pub done : Numbered
  pub split : all ≡ done ++ left

module _ {H : Type 0} (hear : H → Telling → H) (part : H → Telling → H → Type 0) (quiet : Bool) (v : Valuations) (cut : Option ℕ)
    (start : ℕ → SessionData) (all : Numbered) (before : H) (asked : List GroupTextData) where
  -- none yet
  pub come_start : Come hear quiet v cut start all start all before before asked asked
  come_start = record {
    told = [];
    texts = [];
    so_far = runs_start quiet v cut start all;
    heard = refl;
    analysed = sym (append-nil asked);
    done = [];
    split = refl;
  }

  -- the same lines that are left
  pub come_to : (now : ℕ → SessionData) (left rest : Numbered) (after : H) (known : List GroupTextData) → left ≡ rest →
      Come hear quiet v cut start all now left before after asked known → Come hear quiet v cut start all now rest before after asked known
  come_to now left rest after known same come =
      subst (λ (lines : Numbered). Come hear quiet v cut start all now lines before after asked known) same come

  module _ (now : ℕ → SessionData) (line : ℕ × List ℕ) (rest : Numbered) (after : H) (known : List GroupTextData)
      (come : Come hear quiet v cut start all now (line ∷ rest) before after asked known) where
    -- a line more was obeyed
    pub come_on : (mid : ℕ → SessionData) (later : H) (more : List GroupTextData) → ObeysHeard hear quiet v cut now line mid after later known more →
        Come hear quiet v cut start all mid rest before later asked more
    come_on mid later more is = record {
      told = come.told ++ is.told;
      texts = come.texts ++ is.texts;
      so_far = subst (λ (lines : List SymbolTold). RunsSoFar quiet v cut start all mid lines (come.texts ++ is.texts) rest)
          (sym (lines_told-append come.told is.told))
          (runs_next quiet v cut start now mid all rest line (lines_told come.told) (lines_told is.told) come.texts is.texts come.so_far is.obeyed);
      heard = is.heard ∙ ap (λ (own : H). hear_all hear own is.told) come.heard ∙ sym (hear_all-append hear before come.told is.told);
      analysed = is.analysed ∙ ap (λ (list : List GroupTextData). list ++ is.texts) come.analysed ∙ append_assoc asked come.texts is.texts;
      done = come.done ++ line ∷ [];
      split = come.split ∙ sym (append_assoc come.done (line ∷ []) rest);
    }

    -- one is refused for this cause
    pub come_refused : (cause : Cause) (new : ℕ → SessionData) (later : H) (more : List GroupTextData) → AreRefused quiet v cut now line cause →
        StaysUnheard v now new after later known more →
        HasRunInAll hear quiet v cut start all new before later asked more (Some (record { line = line.0; cause = cause }))
    come_refused cause new later more refused stays = record {
      end = now;
      told = come.told;
      texts = come.texts;
      runs = subst (λ (lines : List SymbolTold). RunsInAll quiet v cut start all now lines come.texts (Some (record { line = line.0; cause = cause })))
          (append-nil (lines_told come.told))
          (subst (λ (list : List GroupTextData). RunsInAll quiet v cut start all now (lines_told come.told ++ []) list (Some (record { line = line.0; cause = cause })))
          (append-nil come.texts) (come.so_far now [] [] (Some (record { line = line.0; cause = cause })) (refuses now line rest cause refused)));
      reached = λ column inside. sym (stays.same column inside);
      heard = stays.unheard ∙ come.heard;
      analysed = stays.unasked ∙ come.analysed;
    }

    -- one is refused for the size of a group
    pub come_large : (fault : BuildFault) (new : ℕ → SessionData) (later : H) (more : List GroupTextData) → OutgrowsInAll quiet v cut now line fault →
        StaysUnheard v now new after later known more → HasOutgrownInAll hear quiet v cut start all new before later asked more line.0 fault
    come_large fault new later more is stays = record {
      cause = is.cause;
      named = λ column inside. ap (λ (own : SessionData). size_cause own.circuit fault) (stays.same column inside) ∙ is.named column inside;
      first = λ column inside. subst (λ (own : SessionData). TellsRefused own.large own.circuit.graph fault) (sym (stays.same column inside)) (is.first column inside);
      run = come_refused is.cause new later more is.refused stays;
    }

    -- one at which vertices ran out is one of the lines
    pub stops_among : (why : SymbolFault) → StopsAt line.0 why → StopsAmong all why
    stops_among (Stopped stop) at = tt
    stops_among (Full number) at =
        (line.1, come.done, rest, come.split ∙ ap (λ (own : ℕ). come.done ++ (own, line.1) ∷ rest) (sym at))

    -- one is broken off
    pub come_broken : (later : H) → BreaksLine hear part quiet v cut now (line ∷ rest) after later → BreaksLine hear part quiet v cut start all before later
    come_broken later is = record {
      told = come.told ++ is.told;
      heard = so_far-front hear part before after later (come.told ++ is.told) is.told is.told [] (sym (append-nil is.told))
          (record { done = come.told; split = refl; heard = come.heard }) is.heard;
      runs = record {
        new = is.runs.new;
        more = is.runs.more;
        texts = come.texts ++ is.runs.texts;
        last = is.runs.last;
        runs = subst (λ (lines : List SymbolTold). RunsInAll quiet v cut start all is.runs.new lines (come.texts ++ is.runs.texts) is.runs.last)
            (sym (append_assoc (lines_told come.told) (lines_told is.told) is.runs.more)
            ∙ ap (λ (front : List SymbolTold). front ++ is.runs.more) (sym (lines_told-append come.told is.told)))
            (come.so_far is.runs.new (lines_told is.told ++ is.runs.more) is.runs.texts is.runs.last is.runs.runs);
      };
    }

  -- all lines were obeyed
  pub come_end : (now : ℕ → SessionData) (after : H) (known : List GroupTextData) → Come hear quiet v cut start all now [] before after asked known →
      HasRunInAll hear quiet v cut start all now before after asked known None
  come_end now after known come = record {
    end = now;
    told = come.told;
    texts = come.texts;
    runs = subst (λ (lines : List SymbolTold). RunsInAll quiet v cut start all now lines come.texts None) (append-nil (lines_told come.told))
        (subst (λ (list : List GroupTextData). RunsInAll quiet v cut start all now (lines_told come.told ++ []) list None) (append-nil come.texts)
        (come.so_far now [] [] None (ends now)));
    reached = λ column inside. refl;
    heard = come.heard;
    analysed = come.analysed;
  }

-- lines whose numbers rise from one that is no less
pub rises_on : (line : ℕ × List ℕ) (rest : Numbered) → Rises 0 (line ∷ rest) → Rises 0 rest
rises_on line rest (first, later) = rises-later 0 line.0 rest first later

-- ---- the same data

-- a line that is obeyed leaves what is the same in each column
unfoldable pub obeyed_to : (quiet : Bool) (v : Valuations) (cut : Option ℕ) (old mid new : ℕ → SessionData) (line : ℕ × List ℕ) (told : List SymbolTold)
    (texts : List GroupTextData) → ((column : ℕ) → column < v.columns → new column ≡ mid column) →
    IsObeyedInAll quiet v cut old line mid told texts → IsObeyedInAll quiet v cut old line new told texts
obeyed_to quiet v cut old mid new line told texts same is = record {
  lines = is.lines;
  each = λ column inside.
      subst (λ (session : SessionData). IsObeyed (reading_under quiet (v.values column)) cut (old column) line session (is.lines column) texts)
      (sym (same column inside)) (is.each column inside);
  merged = is.merged;
}
