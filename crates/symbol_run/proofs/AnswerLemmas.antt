-- The answer of a symbolic script, from what its lines came to and what a printer wrote of them.
use Rattle.std.proofs.Common.{◌≡◌, ◌≢◌, ℕ, ◌<◌, Bool, true, false, ◌||◌, List, [], ◌∷◌, ◌++◌, length, nat_lt, Option, None, Some, option_map, Result, Ok, Err, IfOk, OnOk, OnErr, refl, sym, ap, subst, ◌∙◌, append_assoc, if◌then◌else◌, inl, inr, append-nil}
use Rattle.std.proofs.lemmas.Nat.{pow_pos}
use Rattle.std.specs.Prelude.{codes}
use Rattle.std.specs.List.{list_any}
use Rattle.std.specs.Io.KnownBytes.{append_known}
use Rattle.ports.specs.Sending.{WritesPart}
use Rattle.ports.proofs.SendingLemmas.{append_known-append, part_none}
use Rattle.group_text.specs.Texts.{GroupTextData}
use Rattle.circuit_texts.specs.Sizes.{TellsRefused}
use Rattle.printed_lines.specs.declared.faults.FaultPlace.{FaultPlace}
use Rattle.printed_lines.specs.declared.faults.FaultPlace.TheVariants.{Script}
use Rattle.printed_lines.specs.Faults.{place_of}
use Rattle.run_ends.specs.declared.status.Status.{Status}
use Rattle.run_ends.specs.declared.status.Status.TheVariants.{Done, Mismatch}
use Rattle.run_ends.specs.declared.stop.End as end
use Rattle.run_ends.specs.declared.stop.End.TheVariants as ended
use Rattle.run_ends.specs.declared.stop.Stop.{Stop}
use Rattle.run_ends.specs.Ends.{status_of, IsTold}
use Rattle.run_ends.specs.Answers.{Answer, IsAnalysed, IsRefusalFor, IsWritten}
use Rattle.run_ends.specs.Causes.{Cause, cause_line, plain_cause, size_cause}
use Rattle.netlist.specs.Circuits.{CircuitData}
use Rattle.session_meaning.specs.Sessions.{SessionData}
use Rattle.script_meaning.specs.declared.halt.Halt.{Halt}
use Rattle.script_meaning.specs.declared.halt.Halt.TheVariants.{End, Refused, TooLarge}
use Rattle.script_meaning.specs.Runs.{RefusedLine}
use Rattle.symbol_lines.specs.declared.TheConstants.{MOST_VARIABLES}
use Rattle.symbol_lines.specs.declared.names.NameFault.{NameFault}
use Rattle.symbol_lines.specs.declared.names.NameFault.TheVariants.{NameDefined, NoMemory, TooManyVariables}
use Rattle.symbol_lines.specs.Names.{LineData, NamesData, definition_fault, has_name, names_fault, no_names, with_line, with_names}
use Rattle.symbol_script.specs.declared.line.SymbolLine.{SymbolLine}
use Rattle.symbol_script.specs.Lines.{names_of_line}
use Rattle.symbol_meaning.specs.Readings.{Valuations, valuations_of}
use Rattle.symbol_meaning.specs.Scripts.{NamedStop, asked_lines, before_stop, first_by_names, read_of, stop_of, this_or, variables_of}
use Rattle.symbol_meaning.specs.Told.{SymbolTold, is_unmet, texts_told}
use Rattle.symbol_meaning.specs.Runs.{answer_told, end_text, status_of_all, IsSymbolicAnswer, RunsInAll, StopsFull}
use Rattle.symbol_told.specs.Printing.{Page, lines_told, part_printed, print}
use Rattle.symbol_told.proofs.PrintingLemmas.{missed-all, texts_told-append, written-all, written-front}
use Rattle.symbol_run.specs.declared.session.SymbolFault.{SymbolFault}
use Rattle.symbol_run.specs.declared.session.SymbolFault.TheVariants.{Full, Stopped}
use Rattle.symbol_run.specs.Answers.{cause_text, ending_of, is_whole, names_text, size_text, HasEnding, IsAnsweredBy, IsEndedBy}
use Rattle.symbol_run.specs.Halts.{HaltsInAll, HasRunInAll, StopsAmong}
use Rattle.symbol_run.specs.Turns.{BreaksLine}
use Rattle.symbol_run.proofs.AlikeLemmas.{runs_alike}

-- the script's valuations, its variables, the line that is refused by its names, and the lines that run
abbrev v_of : Option ℕ → List (ℕ × List ℕ) → Valuations
v_of cut lines = valuations_of (read_of false cut lines)

abbrev names_of : Option ℕ → List (ℕ × List ℕ) → List (List ℕ)
names_of cut lines = variables_of (read_of false cut lines)

abbrev stop_at : Option ℕ → List (ℕ × List ℕ) → Option NamedStop
stop_at cut lines = stop_of false cut lines

abbrev run_lines : Option ℕ → List (ℕ × List ℕ) → List (ℕ × List ℕ)
run_lines cut lines = before_stop (stop_at cut lines) lines

module _ (cut : Option ℕ) (start : SessionData) (lines : List (ℕ × List ℕ)) where
  module _ (first : ℕ → SessionData) (starts : (column : ℕ) → column < (v_of cut lines).columns → first column ≡ start) where
    -- a run from such data is a right answer
    right_answer : (new : ℕ → SessionData) (told : List SymbolTold) (texts : List GroupTextData) (last : Option RefusedLine) →
        RunsInAll false (v_of cut lines) cut first (run_lines cut lines) new told texts last → IsSymbolicAnswer cut start lines (answer_told (names_of cut lines) told last (stop_at cut lines) texts)
    right_answer new told texts last runs =
        let (end, from_start) = runs_alike (v_of cut lines) first (λ column. start) starts false cut (run_lines cut lines) new told texts last runs in
        record { end = end; told = told; last = last; runs = from_start; told_is = refl }

    -- what ends a run was written behind its lines: so the answer was
    pub answer_written : (new : ℕ → SessionData) (page heard : Page) (written : Option (List ℕ)) (asked known : List GroupTextData) (last : Option RefusedLine)
        (run : HasRunInAll print false (v_of cut lines) cut first (run_lines cut lines) new page heard asked known last) → page.variables ≡ names_of cut lines →
        written ≡ append_known heard.written (end_text last (stop_at cut lines)) →
        IsWritten (IsAnalysed (IsSymbolicAnswer cut start lines) asked known) page.written written (status_of_all (lines_told run.told) last (stop_at cut lines))
    answer_written new page heard written asked known last run named ends =
        let told = lines_told run.told in
        let front : heard.written ≡ append_known page.written (texts_told (names_of cut lines) told) =
        ap (λ (own : Page). own.written) run.heard ∙ written-all page run.told
        ∙ ap (λ (own : List (List ℕ)). append_known page.written (texts_told own told)) named in
        record {
          answer = answer_told (names_of cut lines) told last (stop_at cut lines) run.texts;
          right = (right_answer run.end told run.texts last run.runs, run.analysed);
          ended = refl;
          grew = ends ∙ ap (λ (own : Option (List ℕ)). append_known own (end_text last (stop_at cut lines))) front
              ∙ append_known-append page.written (texts_told (names_of cut lines) told) (end_text last (stop_at cut lines));
        }

    -- if no line is refused the status is by what the printer remembers
    pub status_missed : (new : ℕ → SessionData) (page heard : Page) (asked known : List GroupTextData)
        (run : HasRunInAll print false (v_of cut lines) cut first (run_lines cut lines) new page heard asked known None) → page.missed ≡ false → stop_at cut lines ≡ None →
        status_of_all (lines_told run.told) None (stop_at cut lines) ≡ (if heard.missed then Mismatch else Done)
    status_missed new page heard asked known run unmissed none =
        ap (status_of_all (lines_told run.told) None) none
        ∙ ap (λ (test : Bool). if test then Mismatch else Done)
        (sym (ap (λ (own : Page). own.missed) run.heard ∙ missed-all page run.told
        ∙ ap (λ (before : Bool). before || list_any is_unmet (lines_told run.told)) unmissed))

    -- the run broke off: what was written is a prefix of a right answer's text
    abbrev pub FrontOf : Option (List ℕ) → Option (List ℕ) → Type 0
    FrontOf old new = (answer : Answer) × IsSymbolicAnswer cut start lines answer × WritesPart old new answer.text

    pub answer_front : (page heard : Page) → page.variables ≡ names_of cut lines → BreaksLine print part_printed false (v_of cut lines) cut first (run_lines cut lines) page heard →
        FrontOf page.written heard.written
    answer_front page heard named is =
        let told = lines_told is.told in
        let more = is.runs.more in
        let last = is.runs.last in
        let rest = texts_told (names_of cut lines) more ++ end_text last (stop_at cut lines) in
        let (left, sent) = written-front page heard is.told is.heard in
        let text : texts_told (names_of cut lines) (told ++ more) ++ end_text last (stop_at cut lines) ≡ texts_told (names_of cut lines) told ++ rest =
        ap (λ (front : List ℕ). front ++ end_text last (stop_at cut lines)) (texts_told-append (names_of cut lines) told more)
        ∙ append_assoc (texts_told (names_of cut lines) told) (texts_told (names_of cut lines) more) (end_text last (stop_at cut lines)) in
        let front : texts_told (names_of cut lines) told ≡ sent.sent ++ left = ap (λ (own : List (List ℕ)). texts_told own told) (sym named) ∙ sent.whole in (
          answer_told (names_of cut lines) (told ++ more) last (stop_at cut lines) is.runs.texts,
          right_answer is.runs.new (told ++ more) is.runs.texts last is.runs.runs,
          (
            left ++ rest,
            record {
              sent = sent.sent;
              whole = text ∙ ap (λ (own : List ℕ). own ++ rest) front ∙ append_assoc sent.sent left rest;
              grew = sent.grew;
            },
          ),
        )

    -- and if it stopped for vertices at one of its lines, it stopped as it may
    pub stops_full : (page heard : Page) (number : ℕ) (text : List ℕ) (earlier later : List (ℕ × List ℕ)) → page.variables ≡ names_of cut lines →
        BreaksLine print part_printed false (v_of cut lines) cut first (run_lines cut lines) page heard → run_lines cut lines ≡ earlier ++ (number, text) ∷ later →
        (written : List ℕ) × (heard.written ≡ append_known page.written written) × StopsFull cut start lines number written
    stops_full page heard number text earlier later named is split =
        let (answer, right, part) = answer_front page heard named is in (
          part.1.sent,
          part.1.grew,
          record {
            answer = answer;
            right = right;
            rest = part.0;
            front = part.1.whole;
            text = text;
            before = earlier;
            after = later;
            split = split;
          },
        )

    -- so it ended by its fault as it may
    by_fault : (page heard : Page) (asked known : List GroupTextData) (fault : SymbolFault) → page.variables ≡ names_of cut lines →
        BreaksLine print part_printed false (v_of cut lines) cut first (run_lines cut lines) page heard → StopsAmong (run_lines cut lines) fault →
        IsAnsweredBy cut start lines page.written heard.written asked known (Err fault)
    by_fault page heard asked known (Stopped stop) named is among = answer_front page heard named is
    by_fault page heard asked known (Full number) named is (text, earlier, later, split) =
        stops_full page heard number text earlier later named is split

-- ---- the line that ends a script

-- no line is refused by its names for lack of memory
definition_known : (d : NamesData) (name : Option (List ℕ)) → definition_fault d name ≡ Some NoMemory → ⊥
definition_known d None is = cc is
definition_known d (Some name) is = by (has_name d.defined name || has_name d.variables name) is
  where
    by : (test : Bool) → (if test then Some NameDefined else None) ≡ Some NoMemory → ⊥
    by true other = cc other
    by false other = cc other

names_known : (d : NamesData) (line : LineData) → names_fault d line ≡ Some NoMemory → ⊥
names_known d line is = by (nat_lt MOST_VARIABLES (length (with_names line.used d).variables)) is
  where
    by : (test : Bool) → (if test then Some TooManyVariables else definition_fault (with_names line.used d) line.defines) ≡ Some NoMemory → ⊥
    by true other = cc other
    by false other = definition_known (with_names line.used d) line.defines other

-- the fault of a refusal by names
abbrev fault_of : Option NamedStop → NameFault
fault_of (Some stop) = stop.1
fault_of None = NoMemory

pub first_known : (d : NamesData) (asked : List (ℕ × Option SymbolLine)) (number : ℕ) → first_by_names d asked ≡ Some (number, NoMemory) → ⊥
first_known d [] number is = cc is
first_known d (own ∷ others) number is =
    by (names_fault d (names_of_line own.1)) refl (λ found. first_known (with_line d (names_of_line own.1)) others number found) is
  where
    by : (found : Option NameFault) → names_fault d (names_of_line own.1) ≡ found →
        (first_by_names (with_line d (names_of_line own.1)) others ≡ Some (number, NoMemory) → ⊥) →
        this_or (option_map (λ fault. (own.0, fault)) found) (first_by_names (with_line d (names_of_line own.1)) others) ≡ Some (number, NoMemory) → ⊥
    by (Some fault) one later other =
        let same : fault ≡ NoMemory = ap fault_of other in
        names_known d (names_of_line own.1) (one ∙ ap Some same)
    by None one later other = later other

-- so the line that is written is that of the refusal
pub named_alike : (stop : NamedStop) → stop.1 ≢ NoMemory → names_text (Some stop) ≡ end_text None (Some stop)
named_alike (number, TooManyVariables) known =
    ap (λ (text : List ℕ). text ++ codes "\n") (append-nil (place_of (Script number) ++ codes "S19 TooManyVariables"))
named_alike (number, NameDefined) known =
    ap (λ (text : List ℕ). text ++ codes "\n") (append-nil (place_of (Script number) ++ codes "S18 NameDefined"))
named_alike (number, NoMemory) known = absurd (known refl)

pub names_ended : (cut : Option ℕ) (lines : List (ℕ × List ℕ)) (stop : Option NamedStop) → stop ≡ stop_of false cut lines →
    names_text stop ≡ end_text None stop
names_ended cut lines None is = refl
names_ended cut lines (Some (number, fault)) is =
    named_alike (number, fault) (λ same. first_known no_names (asked_lines false cut lines) number
    (sym is ∙ ap (λ (own : NameFault). Some (number, own)) same))

-- the status of an end by names, or of one without a refusal
pub status_named : (told : List SymbolTold) (stop : NamedStop) (missed : Bool) → status_of (ending_of End (Some stop) missed) ≡ status_of_all told None (Some stop)
status_named told stop missed = refl

pub status_ended : (missed : Bool) → status_of (ending_of End None missed) ≡ (if missed then Mismatch else Done)
status_ended true = refl
status_ended false = refl

-- there is a column
some_column : (cut : Option ℕ) (lines : List (ℕ × List ℕ)) → 0 < (v_of cut lines).columns
some_column cut lines = pow_pos (length (names_of cut lines))

-- ---- the whole

module _ (cut : Option ℕ) (start : SessionData) (lines : List (ℕ × List ℕ)) (first new : ℕ → SessionData)
    (starts : (column : ℕ) → column < (v_of cut lines).columns → first column ≡ start)
    (page heard : Page) (named : page.variables ≡ names_of cut lines) (unmissed : page.missed ≡ false)
    (asked known : List GroupTextData) (circuit : CircuitData)
    (some : 0 < (v_of cut lines).columns)
    (same : (column : ℕ) → column < (v_of cut lines).columns → (new column).circuit ≡ circuit) where
  -- what ended the lines, by the refusal that did
  abbrev RunTo : Option RefusedLine → Type 0
  RunTo last = HasRunInAll print false (v_of cut lines) cut first (run_lines cut lines) new page heard asked known last

  -- the answer was written whole, or a part of it
  by_last : (last : Option RefusedLine) (run : RunTo last) (written : Option (List ℕ)) (ending : end.End) (text : List ℕ) (result : Result end.End Stop) →
      text ≡ end_text last (stop_at cut lines) → status_of ending ≡ status_of_all (lines_told run.told) last (stop_at cut lines) →
      OnOk result (written ≡ append_known heard.written text) → OnErr result (WritesPart heard.written written text) →
      IfOk result (λ ended. ended ≡ ending) → IsEndedBy cut start lines page.written written asked known result
  by_last last run written ending text (Ok ended) is status grew part ends =
      subst (λ (own : Status). IsWritten (IsAnalysed (IsSymbolicAnswer cut start lines) asked known) page.written written own)
      (sym (ap status_of ends ∙ status))
      (answer_written cut start lines first starts new page heard written asked known last run named (grew ∙ ap (append_known heard.written) is))
  by_last last run written ending text (Err stop) is status grew part ends =
      let told = lines_told run.told in
      let names = names_of cut lines in
      let stopped = stop_at cut lines in
      let (left, sent) = subst (WritesPart heard.written written) is part in
      let front : heard.written ≡ append_known page.written (texts_told names told) =
      ap (λ (own : Page). own.written) run.heard ∙ written-all page run.told ∙ ap (λ (own : List (List ℕ)). append_known page.written (texts_told own told)) named in (
        answer_told names told last stopped run.texts,
        right_answer cut start lines first starts run.end told run.texts last run.runs,
        (
          left,
          record {
            sent = texts_told names told ++ sent.sent;
            whole = ap (λ (own : List ℕ). texts_told names told ++ own) sent.whole ∙ sym (append_assoc (texts_told names told) sent.sent left);
            grew = sent.grew ∙ ap (λ (own : Option (List ℕ)). append_known own sent.sent) front
                ∙ append_known-append page.written (texts_told names told) sent.sent;
          },
        ),
      )

  -- by how the lines ended
  pub by_halt : (halt : Halt) (written : Option (List ℕ)) (result : Result end.End Stop) →
      HaltsInAll print false (v_of cut lines) cut first (run_lines cut lines) new page heard asked known halt →
      OnOk result (written ≡ append_known heard.written (cause_text circuit halt (stop_at cut lines))) →
      OnErr result (WritesPart heard.written written (cause_text circuit halt (stop_at cut lines))) →
      IfOk result (λ ended. ended ≡ ending_of halt (stop_at cut lines) heard.missed) → IsEndedBy cut start lines page.written written asked known result
  by_halt End written result run grew part ends =
      by_last None run written (ending_of End (stop_at cut lines) heard.missed) (names_text (stop_at cut lines)) result
      (names_ended cut lines (stop_at cut lines) refl) (status_by (stop_at cut lines) refl) grew part ends
    where
      status_by : (stop : Option NamedStop) → stop_at cut lines ≡ stop →
          status_of (ending_of End (stop_at cut lines) heard.missed) ≡ status_of_all (lines_told run.told) None (stop_at cut lines)
      status_by None is =
          ap (λ (own : Option NamedStop). status_of (ending_of End own heard.missed)) is ∙ status_ended heard.missed
          ∙ sym (status_missed cut start lines first starts new page heard asked known run unmissed is)
      status_by (Some stop) is =
          ap (λ (own : Option NamedStop). status_of (ending_of End own heard.missed)) is
          ∙ sym (ap (status_of_all (lines_told run.told) None) is)
  by_halt (Refused number code) written result run grew part ends =
      by_last (Some (record { line = number; cause = plain_cause code })) run written ended.ScriptRefused (cause_line (Script number) (plain_cause code)) result refl refl
      grew part ends
  by_halt (TooLarge number fault) written result is grew part ends =
      let cause : size_cause circuit fault ≡ Some is.cause =
      ap (λ (own : CircuitData). size_cause own fault) (sym (same 0 some)) ∙ is.named 0 some in
      by_last (Some (record { line = number; cause = is.cause })) is.run written ended.ScriptRefused (size_text number (size_cause circuit fault)) result
      (ap (size_text number) cause) refl grew part ends

-- ---- by what is known of the session

module _ (cut : Option ℕ) (start : SessionData) (lines : List (ℕ × List ℕ)) (first new : ℕ → SessionData) (page heard : Page)
    (named : page.variables ≡ names_of cut lines) (asked known : List GroupTextData) where
  -- the run broke off, by a session with this quiet, these valuations and this stop
  abbrev AnswersFault : SymbolFault → Bool → Valuations → Option NamedStop → Type 0
  AnswersFault fault quiet v stop = ((column : ℕ) → column < v.columns → first column ≡ start) →
      BreaksLine print part_printed quiet v cut first (before_stop stop lines) page heard → StopsAmong (before_stop stop lines) fault →
      IsAnsweredBy cut start lines page.written heard.written asked known (Err fault)

  pub answers_fault : (fault : SymbolFault) (quiet : Bool) (v : Valuations) (stop : Option NamedStop) → quiet ≡ false → v ≡ v_of cut lines →
      stop ≡ stop_at cut lines → AnswersFault fault quiet v stop
  answers_fault fault quiet v stop telling valuations stopped =
      let exact : AnswersFault fault false (v_of cut lines) (stop_at cut lines) = λ starts is among.
      by_fault cut start lines first starts page heard asked known fault named is among in
      subst (λ (own : Bool). AnswersFault fault own v stop) (sym telling)
      (subst (λ (own : Valuations). AnswersFault fault false own stop) (sym valuations)
      (subst (λ (own : Option NamedStop). AnswersFault fault false (v_of cut lines) own) (sym stopped) exact))

  module _ (unmissed : page.missed ≡ false) (circuit : CircuitData) (halt : Halt) (written : Option (List ℕ)) (result : Result end.End Stop) where
    -- it came to its end, and the line of the refusal was written, if there is one
    abbrev AnswersHalt : Bool → Valuations → Option NamedStop → Type 0
    AnswersHalt quiet v stop = ((column : ℕ) → column < v.columns → first column ≡ start) →
        ((column : ℕ) → column < v.columns → (new column).circuit ≡ circuit) →
        HaltsInAll print quiet v cut first (before_stop stop lines) new page heard asked known halt →
        OnOk result (written ≡ append_known heard.written (cause_text circuit halt stop)) →
        OnErr result (WritesPart heard.written written (cause_text circuit halt stop)) →
        IfOk result (λ ended. ended ≡ ending_of halt stop heard.missed) → IsEndedBy cut start lines page.written written asked known result

    pub answers_halt : (quiet : Bool) (v : Valuations) (stop : Option NamedStop) → quiet ≡ false → v ≡ v_of cut lines → stop ≡ stop_at cut lines →
        AnswersHalt quiet v stop
    answers_halt quiet v stop telling valuations stopped =
        let exact : AnswersHalt false (v_of cut lines) (stop_at cut lines) = λ starts same run grew part ends.
        by_halt cut start lines first new starts page heard named unmissed asked known circuit (some_column cut lines) same halt written result run grew part
        ends in
        subst (λ (own : Bool). AnswersHalt own v stop) (sym telling)
        (subst (λ (own : Valuations). AnswersHalt false own stop) (sym valuations)
        (subst (λ (own : Option NamedStop). AnswersHalt false (v_of cut lines) own) (sym stopped) exact))

-- the session has a column
pub has_column : (cut : Option ℕ) (lines : List (ℕ × List ℕ)) (v : Valuations) → v ≡ v_of cut lines → 0 < v.columns
has_column cut lines v is = subst (λ (own : Valuations). 0 < own.columns) (sym is) (some_column cut lines)

-- a group that is too large is the first one of the circuit that all columns have
pub has_ending : (quiet : Bool) (v : Valuations) (cut : Option ℕ) (start new : ℕ → SessionData) (lines : List (ℕ × List ℕ)) (before after : Page)
    (asked known : List GroupTextData) (halt : Halt) (circuit : CircuitData) → 0 < v.columns →
    ((column : ℕ) → column < v.columns → (new column).circuit ≡ circuit) →
    HaltsInAll print quiet v cut start lines new before after asked known halt → HasEnding circuit halt
has_ending quiet v cut start new lines before after asked known End circuit some same is = tt
has_ending quiet v cut start new lines before after asked known (Refused line code) circuit some same is = tt
has_ending quiet v cut start new lines before after asked known (TooLarge line fault) circuit some same is = (
  (new 0).large,
  subst (λ (own : CircuitData). TellsRefused (new 0).large own.graph fault) (same 0 some) (is.first 0 some),
)

-- ---- the line of a refusal

-- it was written whole, or a part of it
pub refused_whole : (place : FaultPlace) (cause : Cause) (ended : Status) (old new : Option (List ℕ)) (result : Result end.End Stop) →
    IsTold (IsRefusalFor place cause ended) old new result → OnOk result (new ≡ append_known old (cause_line place cause))
refused_whole place cause ended old new (Ok end) is = is.grew ∙ ap (λ (answer : Answer). append_known old answer.text) is.right
refused_whole place cause ended old new (Err stop) is = tt

pub refused_part : (place : FaultPlace) (cause : Cause) (ended : Status) (old new : Option (List ℕ)) (result : Result end.End Stop) →
    IsTold (IsRefusalFor place cause ended) old new result → OnErr result (WritesPart old new (cause_line place cause))
refused_part place cause ended old new (Ok end) is = tt
refused_part place cause ended old new (Err stop) (inl same) =
    subst (λ (own : Option (List ℕ)). WritesPart old own (cause_line place cause)) (sym same) (part_none old (cause_line place cause))
refused_part place cause ended old new (Err stop) (inr is) = subst (λ (answer : Answer). WritesPart old new answer.text) is.right is.part

-- where no line is refused nothing is written
pub whole_silent : (circuit : CircuitData) (halt : Halt) (stop : Option NamedStop) → is_whole halt stop ≡ true → cause_text circuit halt stop ≡ []
whole_silent circuit End None whole = refl
whole_silent circuit End (Some stop) never = absurd (cc)
whole_silent circuit (Refused line code) stop never = absurd (cc)
whole_silent circuit (TooLarge line fault) stop never = absurd (cc)

-- and the script ends as one does that was obeyed to its end
pub whole_ending : (halt : Halt) (stop : Option NamedStop) (missed : Bool) → is_whole halt stop ≡ true → ending_of End None missed ≡ ending_of halt stop missed
whole_ending End None missed whole = refl
whole_ending End (Some stop) missed never = absurd (cc)
whole_ending (Refused line code) stop missed never = absurd (cc)
whole_ending (TooLarge line fault) stop missed never = absurd (cc)

-- else it is refused
pub refused_ending : (halt : Halt) (stop : Option NamedStop) (missed : Bool) → is_whole halt stop ≡ false → ending_of halt stop missed ≡ ended.ScriptRefused
refused_ending End None missed never = absurd (cc)
refused_ending End (Some stop) missed refused = refl
refused_ending (Refused line code) stop missed refused = refl
refused_ending (TooLarge line fault) stop missed refused = refl
