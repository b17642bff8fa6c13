-- How a script runs in columns: something comes of it in all of them together, and what was heard so far is where its rows begin.
-- The plan is that of a plain script: a record of how far the script has come says that each outcome from here, after what was heard and
-- analysed before it, is an outcome from the start, now in all columns at once.
use Rattle.std.proofs.Common.{◌≡◌, ℕ, ◌<◌, ◌⊎◌, inl, inr, Bool, true, false, List, [], ◌∷◌, ◌++◌, Option, None, Some, Ok, Err, refl, sym, ap, subst, ◌∙◌, append_assoc, append-nil}
use Rattle.ternary.specs.declared.tern.Tern.{Tern}
use Rattle.line_words.specs.Files.{is_cut}
use Rattle.switch_paths.specs.Graphs.{GraphData}
use Rattle.netlist.specs.Circuits.{CircuitData}
use Rattle.group_text.specs.Texts.{GroupTextData}
use Rattle.circuit_texts.specs.declared.texts.BuildFault.{BuildFault}
use Rattle.circuit_texts.specs.Sizes.{TellsRefused}
use Rattle.column_stage.proofs.SoundLemmas.{first_of_some}
use Rattle.column_script.specs.declared.command.ColumnCommand.{ColumnCommand}
use Rattle.column_script.specs.Commands.{in_column}
use Rattle.told_lines.specs.Lines.{Told}
use Rattle.told_lines.specs.Hearing.{hear_all, HearsPart}
use Rattle.told_lines.proofs.HearingLemmas.{hear_all-append, so_far-stopped}
use Rattle.session_meaning.specs.Columns.{PerformsInAll, column_of}
use Rattle.session_meaning.specs.Sessions.{SessionData, HeldSession, IsHeldSession, IsReady}
use Rattle.session_meaning.proofs.ColumnLemmas.{column_ready}
use Rattle.session_meaning.proofs.RowLemmas.{rows-append, rows-none}
use Rattle.printed_lines.specs.declared.faults.FaultCode.{FaultCode}
use Rattle.printed_lines.specs.declared.faults.FaultCode.TheVariants.{S11TooLong}
use Rattle.run_ends.specs.declared.stop.Stop.{Stop}
use Rattle.script_meaning.specs.declared.turn.Turn.TheVariants.{Accepted, Refused, TooLarge}
use Rattle.run_ends.specs.Causes.{Cause, plain_cause, size_cause}
use Rattle.script_meaning.specs.Codes.{refusal_code}
use Rattle.script_meaning.specs.Runs.{RefusedLine, Runs, ends, passes, obeys, refuses, too_long, unread, refused, too_large, at_end, refused_at, after_command}
use Rattle.run_ends.proofs.SizeLemmas.{size_caused}
use Rattle.script_meaning.proofs.RunLemmas.{script_coded}
use Rattle.column_run.specs.ColumnAnswers.{reading_in, RunsInAll}
use Rattle.column_run.specs.Turns.{AreIdle, AskInAll, AreRefused, BreakOff, Follows, HaveObeyed, HaveOutgrown, KeepInAll, TakesTurn}
use Rattle.column_run.proofs.LineLemmas.{LineReads, fails, idles, commands, line_reads}
use Rattle.column_run.proofs.AlikeLemmas.{AreAlike, beside}
use Rattle.column_run.proofs.EndLemmas.{AreReady, all_refused, all_large, all_performed, ends_in_all, ready_in_all}
use Rattle.column_run.proofs.TurnLemmas.{keep_each}

-- columns of a session are alike and ready
pub ready_columns : {M : Type 0} (columns : M → ℕ) (states : M → ℕ → List Tern) (serves : M → GraphData → List GroupTextData → Type 0) (session : HeldSession M) →
    IsHeldSession columns states serves session → AreReady (columns session.stage) (column_of states session)
ready_columns columns states serves session held = record {
  some = first_of_some (columns session.stage) held.some;
  alike = λ column inside. record { same = refl };
  ready = column_ready columns states serves session held;
}

-- ---- runs that are joined

module _ (columns : ℕ) (cut : Option ℕ) where
  -- nothing comes of no lines
  in_all-end : (sessions : ℕ → SessionData) → RunsInAll columns cut sessions [] [] [] None
  in_all-end sessions = record {
    outcome = λ column. at_end (sessions column);
    runs = λ column inside. ends (sessions column);
    analysed = λ column inside. refl;
    ended = λ column inside. refl;
    rows = rows-none columns;
  }

  module _ (sessions : ℕ → SessionData) (line : ℕ × List ℕ) (lines : List (ℕ × List ℕ)) where
    -- nor of a script whose first line is refused
    in_all-refused : (cause : Cause) → AreRefused columns cut sessions line cause →
        RunsInAll columns cut sessions (line ∷ lines) [] [] (Some (record { line = line.0; cause = cause }))
    in_all-refused cause are = record {
      outcome = λ column. refused_at (sessions column) line.0 cause;
      runs = λ column inside. refuses (sessions column) line lines cause (are column inside);
      analysed = λ column inside. refl;
      ended = λ column inside. refl;
      rows = rows-none columns;
    }

    module _ (told : List Told) (texts : List GroupTextData) (last : Option RefusedLine) where
      -- past a line that asks for nothing
      in_all-past : AreIdle columns cut sessions line → RunsInAll columns cut sessions lines told texts last → RunsInAll columns cut sessions (line ∷ lines) told texts last
      in_all-past idle runs = record {
        outcome = runs.outcome;
        runs = λ column inside. passes (sessions column) line lines (runs.outcome column) (idle column inside) (runs.runs column inside);
        analysed = runs.analysed;
        ended = runs.ended;
        rows = runs.rows;
      }

      -- past a line whose command is performed in all columns
      in_all-obeyed : (new : ℕ → SessionData) (command : ColumnCommand) (rows : List Told) (fresh : List GroupTextData) → AskInAll columns cut sessions line command →
          PerformsInAll columns sessions command new rows fresh → RunsInAll columns cut new lines told texts last →
          RunsInAll columns cut sessions (line ∷ lines) (rows ++ told) (fresh ++ texts) last
      in_all-obeyed new command rows fresh asks performs runs = record {
        outcome = λ column. after_command (performs.lines column) fresh (runs.outcome column);
        runs = λ column inside.
            obeys (sessions column) (new column) line lines (in_column column command) (performs.lines column) fresh (runs.outcome column) (asks.each column inside)
            (performs.each column inside) (runs.runs column inside);
        analysed = λ column inside. ap (λ (others : List GroupTextData). fresh ++ others) (runs.analysed column inside);
        ended = runs.ended;
        rows = rows-append (λ column. (runs.outcome column).lines) told performs.rows runs.rows;
      }

  -- something comes of a script in all columns together
  pub record HasOutcome (sessions : ℕ → SessionData) (lines : List (ℕ × List ℕ)) : Type 0 where
    pub told : List Told
    pub texts : List GroupTextData
    pub last : Option RefusedLine
    pub runs : RunsInAll columns cut sessions lines told texts last

  -- one line, from columns that are ready, where something comes of the lines after it from all that are
  module _ (sessions : ℕ → SessionData) (line : ℕ × List ℕ) (lines : List (ℕ × List ℕ)) (are : AreReady columns sessions)
      (goes : (new : ℕ → SessionData) → AreReady columns new → HasOutcome new lines) where
    outcome-refused : (cause : Cause) → AreRefused columns cut sessions line cause → HasOutcome sessions (line ∷ lines)
    outcome-refused cause is = record { told = []; texts = []; last = Some (record { line = line.0; cause = cause }); runs = in_all-refused sessions line lines cause is }

    outcome-asked : (command : ColumnCommand) → AskInAll columns cut sessions line command → HasOutcome sessions (line ∷ lines)
    outcome-asked command asks =
        elim (ends_in_all columns sessions are command asks.formed) [
          | all_refused refusal is ↦
              outcome-refused (plain_cause (refusal_code refusal)) (λ column inside. refused (in_column column command) refusal (asks.each column inside) (is column inside) refl)
          | all_large fault allowed building first ↦
              let caused = size_caused (sessions 0).large (sessions 0).circuit fault first in
              outcome-refused caused.0 (λ column inside.
              let besides = beside (sessions 0) (sessions column) (are.alike column inside) in
              let same : (sessions 0).circuit ≡ (sessions column).circuit = sym (ap (λ (s : SessionData). s.circuit) besides) in
              let bound : (sessions 0).large ≡ (sessions column).large = sym (ap (λ (s : SessionData). s.large) besides) in
              too_large (in_column column command) fault (asks.each column inside) (allowed column inside) (building column)
              (subst (λ (large : ℕ). TellsRefused large (sessions column).circuit.graph fault) bound
              (subst (λ (c : CircuitData). TellsRefused (sessions 0).large c.graph fault) same first)) (subst (λ (c : CircuitData). size_cause c fault ≡ Some caused.0) same caused.1))
          | all_performed new rows texts performs ↦
              let rest = goes new (ready_in_all columns sessions new command asks.formed rows texts are performs) in
              record {
                told = rows ++ rest.told;
                texts = texts ++ rest.texts;
                last = rest.last;
                runs = in_all-obeyed sessions line lines rest.told rest.texts rest.last new command rows texts asks performs rest.runs;
              }
        ]

    outcome-read : is_cut cut line.0 ≡ false → LineReads columns line.1 → HasOutcome sessions (line ∷ lines)
    outcome-read inside (fails what named is) =
        let coded = script_coded what named in
        outcome-refused (plain_cause coded.0) (λ column within. unread what coded.0 inside (is column within) coded.1 refl)
    outcome-read inside (idles is) =
        let rest = goes sessions are in
        record {
          told = rest.told;
          texts = rest.texts;
          last = rest.last;
          runs = in_all-past sessions line lines rest.told rest.texts rest.last (λ column within. record { inside = inside; nothing = is column within }) rest.runs;
        }
    outcome-read inside (commands command formed is) =
        outcome-asked command (record { formed = formed; each = λ column within. record { inside = inside; asked = is column within } })

    outcome-by_cut : (far : Bool) → is_cut cut line.0 ≡ far → HasOutcome sessions (line ∷ lines)
    outcome-by_cut true is = outcome-refused (plain_cause S11TooLong) (λ column inside. too_long is refl)
    outcome-by_cut false is = outcome-read is (line_reads columns line.1)

  pub outcome_exists : (lines : List (ℕ × List ℕ)) (sessions : ℕ → SessionData) → AreReady columns sessions → HasOutcome sessions lines
  outcome_exists [] sessions are = record { told = []; texts = []; last = None; runs = in_all-end sessions }
  outcome_exists (line ∷ lines) sessions are =
      outcome-by_cut sessions line lines are (λ new still. outcome_exists lines new still) (is_cut cut line.0) refl

-- ---- how far a script has come

-- the rows heard and the texts analysed since its start, which each outcome from here goes on from, and columns that are ready
pub record HasCome {H : Type 0} (hear : H → Told → H) (columns : ℕ) (cut : Option ℕ) (start : ℕ → SessionData) (all : List (ℕ × List ℕ)) (before : H)
    (asked : List GroupTextData) (now : ℕ → SessionData) (left : List (ℕ × List ℕ)) (after : H) (known : List GroupTextData) : Type 0 where
  pub told : List Told
  pub texts : List GroupTextData
  pub heard : after ≡ hear_all hear before told
  pub analysed : known ≡ asked ++ texts
  pub goes_on : (rest : List Told) (others : List GroupTextData) (last : Option RefusedLine) → RunsInAll columns cut now left rest others last →
      RunsInAll columns cut start all (told ++ rest) (texts ++ others) last
  pub ready : AreReady columns now

-- at the start nothing was heard or analysed
pub comes_first : {H : Type 0} (hear : H → Told → H) (columns : ℕ) (cut : Option ℕ) (start : ℕ → SessionData) (all : List (ℕ × List ℕ)) (before : H)
    (asked : List GroupTextData) → AreReady columns start → HasCome hear columns cut start all before asked start all before asked
comes_first hear columns cut start all before asked ready = record {
  told = [];
  texts = [];
  heard = refl;
  analysed = sym (append-nil asked);
  goes_on = λ rest others last runs. runs;
  ready = ready;
}

-- the next line comes to so many columns, which have come as far
pub comes_at : {H : Type 0} {hear : H → Told → H} {columns count : ℕ} {cut : Option ℕ} {start now : ℕ → SessionData}
    {all left next : List (ℕ × List ℕ)}
    {before after : H} {asked known : List GroupTextData} → columns ≡ count → left ≡ next → HasCome hear columns cut start all before asked now left after known →
    HasCome hear count cut start all before asked now next after known
comes_at {H} {hear} {columns} {count} {cut} {start} {now} {all} {left} {next} {before} {after} {asked} {known} same steps come =
    subst (λ (n : ℕ). HasCome hear n cut start all before asked now next after known) same
    (subst (λ (lines : List (ℕ × List ℕ)). HasCome hear columns cut start all before asked now lines after known) steps come)

-- what so many columns have obeyed up to a line is what as many have
pub obeyed_in : {H : Type 0} {hear : H → Told → H} {columns count : ℕ} {cut other : Option ℕ} {start : ℕ → SessionData} {all : List (ℕ × List ℕ)}
    {before after : H} {asked known : List GroupTextData} {last : Option RefusedLine} → columns ≡ count → cut ≡ other →
    HaveObeyed hear columns cut start all before after asked known last → HaveObeyed hear count other start all before after asked known last
obeyed_in {H} {hear} {columns} {count} {cut} {other} {start} {all} {before} {after} {asked} {known} {last} same far obeyed =
    subst (λ (n : ℕ). HaveObeyed hear n other start all before after asked known last) same
    (subst (λ (c : Option ℕ). HaveObeyed hear columns c start all before after asked known last) far obeyed)

pub outgrown_in : {H : Type 0} {hear : H → Told → H} {columns count : ℕ} {cut other : Option ℕ} {start : ℕ → SessionData} {all : List (ℕ × List ℕ)}
    {new : SessionData} {before after : H} {asked known : List GroupTextData} {number : ℕ} {fault : BuildFault} → columns ≡ count → cut ≡ other →
    HaveOutgrown hear columns cut start all new before after asked known number fault → HaveOutgrown hear count other start all new before after asked known number fault
outgrown_in same far outgrown = record { first = outgrown.first; halted = λ other cause tells named. obeyed_in same far (outgrown.halted other cause tells named) }

-- and where they broke off, as many did
pub breaks_in_all : {H : Type 0} {hear : H → Told → H} {part : H → Told → H → Type 0} {columns count : ℕ} {cut other : Option ℕ} {start : ℕ → SessionData}
    {all : List (ℕ × List ℕ)} {before after : H} → columns ≡ count → cut ≡ other → BreakOff hear part columns cut start all before after →
    BreakOff hear part count other start all before after
breaks_in_all {H} {hear} {part} {columns} {count} {cut} {other} {start} {all} {before} {after} same far breaks =
    subst (λ (n : ℕ). BreakOff hear part n other start all before after) same
    (subst (λ (c : Option ℕ). BreakOff hear part columns c start all before after) far breaks)

-- columns that are the same run to the same
pub in_all-same : (columns : ℕ) (cut : Option ℕ) (sessions other : ℕ → SessionData) (lines : List (ℕ × List ℕ)) (told : List Told) (texts : List GroupTextData)
    (last : Option RefusedLine) → ((column : ℕ) → column < columns → other column ≡ sessions column) →
    RunsInAll columns cut other lines told texts last →
    RunsInAll columns cut sessions lines told texts last
in_all-same columns cut sessions other lines told texts last same runs = record {
  outcome = runs.outcome;
  runs = λ column inside. subst (λ (s : SessionData). Runs (reading_in columns column) cut s lines (runs.outcome column)) (same column inside) (runs.runs column inside);
  analysed = runs.analysed;
  ended = runs.ended;
  rows = runs.rows;
}

-- and are ready
ready-same : (columns : ℕ) (sessions other : ℕ → SessionData) → ((column : ℕ) → column < columns → other column ≡ sessions column) → AreReady columns sessions → AreReady columns other
ready-same columns sessions other same are = record {
  some = are.some;
  alike = λ column inside. subst (λ (s : SessionData). AreAlike s (other column)) (sym (same 0 are.some)) (subst (AreAlike (sessions 0)) (sym (same column inside)) (are.alike column inside));
  ready = λ column inside. subst IsReady (sym (same column inside)) (are.ready column inside);
}

-- what is said of the first column's circuit is said of each one's
same_size : (one other new : SessionData) (fault : BuildFault) (cause : Cause) → new ≡ one → AreAlike one other → TellsRefused new.large new.circuit.graph fault →
    size_cause new.circuit fault ≡ Some cause → TellsRefused other.large other.circuit.graph fault × (size_cause other.circuit fault ≡ Some cause)
same_size one other new fault cause same alike tells named =
    let besides = beside one other alike in
    let circuit : new.circuit ≡ other.circuit = ap (λ (s : SessionData). s.circuit) same ∙ sym (ap (λ (s : SessionData). s.circuit) besides) in
    let large : new.large ≡ other.large = ap (λ (s : SessionData). s.large) same ∙ sym (ap (λ (s : SessionData). s.large) besides) in (
      subst (λ (bound : ℕ). TellsRefused bound other.circuit.graph fault) large
          (subst (λ (c : CircuitData). TellsRefused new.large c.graph fault) circuit tells),
      subst (λ (c : CircuitData). size_cause c fault ≡ Some cause) circuit named,
    )

module _ {H : Type 0} (hear : H → Told → H) (part : H → Told → H → Type 0) (columns : ℕ) (cut : Option ℕ) (start : ℕ → SessionData) (all : List (ℕ × List ℕ))
    (before : H) (asked : List GroupTextData) (now : ℕ → SessionData) (line : ℕ × List ℕ) (left : List (ℕ × List ℕ)) (after : H) (known : List GroupTextData)
    (come : HasCome hear columns cut start all before asked now (line ∷ left) after known) where
  -- past a line that asks for nothing
  comes_past : (new : ℕ → SessionData) → AreIdle columns cut now line → ((column : ℕ) → column < columns → new column ≡ now column) →
      HasCome hear columns cut start all before asked new left after known
  comes_past new idle same = record {
    told = come.told;
    texts = come.texts;
    heard = come.heard;
    analysed = come.analysed;
    goes_on = λ rest others last runs.
        come.goes_on rest others last (in_all-past columns cut now line left rest others last idle (in_all-same columns cut now new left rest others last same runs));
    ready = ready-same columns now new same come.ready;
  }

  -- past the line of a command, with its rows and texts
  comes_by : (new : ℕ → SessionData) (more : H) (further : List GroupTextData) → Follows hear columns cut line now new after more known further →
      HasCome hear columns cut start all before asked new left more further
  comes_by new more further follows =
      let accepts = follows.accepts in
      record {
        told = come.told ++ accepts.told;
        texts = come.texts ++ accepts.texts;
        heard = accepts.heard ∙ ap (λ h. hear_all hear h accepts.told) come.heard ∙ sym (hear_all-append hear before come.told accepts.told);
        analysed = accepts.analysed ∙ ap (λ (texts : List GroupTextData). texts ++ accepts.texts) come.analysed ∙ append_assoc asked come.texts accepts.texts;
        goes_on = λ rest others last runs.
            subst (λ (told : List Told). RunsInAll columns cut start all told ((come.texts ++ accepts.texts) ++ others) last)
            (sym (append_assoc come.told accepts.told rest))
            (subst (λ (texts : List GroupTextData). RunsInAll columns cut start all (come.told ++ (accepts.told ++ rest)) texts last)
            (sym (append_assoc come.texts accepts.texts others))
            (come.goes_on (accepts.told ++ rest) (accepts.texts ++ others) last
            (in_all-obeyed columns cut now line left rest others last new follows.command accepts.told accepts.texts follows.asks accepts.performs runs)));
        ready = ready_in_all columns now new follows.command follows.asks.formed accepts.told accepts.texts come.ready accepts.performs;
      }

  -- past a line that is accepted
  pub comes_on : (new : ℕ → SessionData) (more : H) (further : List GroupTextData) → TakesTurn hear part columns cut line now new after more known further (Ok Accepted) →
      HasCome hear columns cut start all before asked new left more further
  comes_on new more further (inl passed) =
      let keeps = passed.keeps in
      subst (λ (h : H). HasCome hear columns cut start all before asked new left h further) (sym keeps.unheard)
      (subst (λ (texts : List GroupTextData). HasCome hear columns cut start all before asked new left after texts) (sym keeps.unasked)
      (comes_past new passed.idle keeps.same))
  comes_on new more further (inr follows) = comes_by new more further follows

  -- to a line that is refused for this cause
  refused_here : (cause : Cause) → AreRefused columns cut now line cause →
      HaveObeyed hear columns cut start all before after asked known (Some (record { line = line.0; cause = cause }))
  refused_here cause is = record {
    told = come.told ++ [];
    texts = come.texts ++ [];
    runs = come.goes_on [] [] (Some (record { line = line.0; cause = cause })) (in_all-refused columns cut now line left cause is);
    heard = come.heard ∙ ap (hear_all hear before) (sym (append-nil come.told));
    analysed = come.analysed ∙ ap (λ (texts : List GroupTextData). asked ++ texts) (sym (append-nil come.texts));
  }

  -- what is told of the hearer and the analyst as they are is told of those that a refused command kept
  obeyed_kept : (new : ℕ → SessionData) (more : H) (further : List GroupTextData) (last : Option RefusedLine) →
      KeepInAll columns now new after more known further → HaveObeyed hear columns cut start all before after asked known last →
      HaveObeyed hear columns cut start all before more asked further last
  obeyed_kept new more further last keeps obeyed =
      subst (λ (h : H). HaveObeyed hear columns cut start all before h asked further last) (sym keeps.unheard)
      (subst (λ (texts : List GroupTextData). HaveObeyed hear columns cut start all before after asked texts last) (sym keeps.unasked) obeyed)

  -- to a line that is refused under a code
  pub halts_refused : (new : ℕ → SessionData) (more : H) (further : List GroupTextData) (code : FaultCode) →
      TakesTurn hear part columns cut line now new after more known further (Ok (Refused code)) →
      HaveObeyed hear columns cut start all before more asked further (Some (record { line = line.0; cause = plain_cause code }))
  halts_refused new more further code (is, keeps) =
      obeyed_kept new more further (Some (record { line = line.0; cause = plain_cause code })) keeps (refused_here (plain_cause code) is)

  -- to a line for whose command the circuit is too large
  pub halts_large : (new : ℕ → SessionData) (more : H) (further : List GroupTextData) (fault : BuildFault) →
      TakesTurn hear part columns cut line now new after more known further (Ok (TooLarge fault)) →
      HaveOutgrown hear columns cut start all (new 0) before more asked further line.0 fault
  halts_large new more further fault out =
      let some = come.ready.some in
      let first = out.refuses 0 some in
      let same : new 0 ≡ now 0 = first.keeps.same in
      let keeps = keep_each columns now new after more known further some (λ column inside. (out.refuses column inside).keeps) in
      record {
        first = subst (λ (s : SessionData). TellsRefused s.large s.circuit.graph fault) (sym same) first.first;
        halted = λ other cause tells named.
            obeyed_kept new more further (Some (record { line = line.0; cause = cause })) keeps
            (refused_here cause (λ column inside.
            let size = same_size (now 0) (now column) (new 0) other cause same (come.ready.alike column inside) tells named in
            too_large (in_column column out.command) other (out.asks.each column inside) (out.refuses column inside).allowed (out.refuses column inside).building
            size.0 size.1));
      }

  -- where it stopped in the rows of an outcome from here, a part was heard of the rows of all lines
  breaks_in : (rows tail : List Told) (texts : List GroupTextData) (end : Option RefusedLine) → RunsInAll columns cut now (line ∷ left) (rows ++ tail) texts end →
      (last : H) → (last ≡ after) ⊎ HearsPart hear part after last rows → BreakOff hear part columns cut start all before last
  breaks_in rows tail texts end runs last (inl same) = record {
    told = come.told ++ (rows ++ tail);
    texts = come.texts ++ texts;
    last = end;
    runs = come.goes_on (rows ++ tail) texts end runs;
    heard = inl (rows ++ tail, record { done = come.told; split = refl; heard = same ∙ come.heard });
  }
  breaks_in rows tail texts end runs last (inr stopped) = record {
    told = come.told ++ (rows ++ tail);
    texts = come.texts ++ texts;
    last = end;
    runs = come.goes_on (rows ++ tail) texts end runs;
    heard = inr (so_far-stopped hear part before after last (come.told ++ (rows ++ tail)) (rows ++ tail) rows tail refl
        (record { done = come.told; split = refl; heard = come.heard }) stopped);
  }

  -- to a line at which it stopped: what was heard is where the rows begin that the lines would have had
  pub halts_stop : (new : ℕ → SessionData) (more : H) (further : List GroupTextData) (stop : Stop) →
      TakesTurn hear part columns cut line now new after more known further (Err stop) → BreakOff hear part columns cut start all before more
  halts_stop new more further stop (inl same) =
      let rest = outcome_exists columns cut (line ∷ left) now come.ready in
      breaks_in [] rest.told rest.texts rest.last rest.runs more (inl same)
  halts_stop new more further stop (inr starts) =
      let begins = starts.begins in
      let rest = outcome_exists columns cut left begins.end
      (ready_in_all columns now begins.end starts.command starts.asks.formed begins.told begins.texts come.ready begins.performs) in
      breaks_in begins.told rest.told (begins.texts ++ rest.texts) rest.last
      (in_all-obeyed columns cut now line left rest.told rest.texts rest.last begins.end starts.command begins.told begins.texts starts.asks begins.performs rest.runs)
      more (inr begins.heard)

-- to the end
pub halts_end : {H : Type 0} (hear : H → Told → H) (columns : ℕ) (cut : Option ℕ) (start : ℕ → SessionData) (all : List (ℕ × List ℕ)) (before : H)
    (asked : List GroupTextData) (now : ℕ → SessionData) (after : H) (known : List GroupTextData) →
    HasCome hear columns cut start all before asked now [] after known → HaveObeyed hear columns cut start all before after asked known None
halts_end hear columns cut start all before asked now after known come = record {
  told = come.told ++ [];
  texts = come.texts ++ [];
  runs = come.goes_on [] [] None (in_all-end columns cut now);
  heard = come.heard ∙ ap (hear_all hear before) (sym (append-nil come.told));
  analysed = come.analysed ∙ ap (λ (texts : List GroupTextData). asked ++ texts) (sym (append-nil come.texts));
}
