-- What the run of a script comes to, and the dump that was written of it, by what its lines told.
use Rattle.std.proofs.Common.{◌≡◌, ◌≢◌, ◌⊎◌, ℕ, inl, inr, List, [], ◌∷◌, ◌++◌, length, All, Option, None, Some, Result, Ok, Err, IfErr, OnOk, refl, sym, ap, subst, ◌∙◌, append_assoc, append-nil}
use Rattle.std.specs.Prelude.{option_map}
use Rattle.std.specs.Io.KnownBytes.{append_known}
use Rattle.std.proofs.lemmas.List.Elements.{All-nil}
use Rattle.ternary.specs.declared.tern.Tern.{Tern}
use Rattle.ports.specs.declared.ports.PortFault.{PortFault}
use Rattle.ports.specs.declared.ports.PortFault.TheVariants as port
use Rattle.ports.specs.Ports.{RefusedOnce, faults_after}
use Rattle.ports.specs.Sending.{WritesPart}
use Rattle.ports.proofs.SendingLemmas.{part_longer, part_whole}
use Rattle.line_words.specs.Files.{cut_line, lines_in}
use Rattle.netlist.specs.Circuits.{CircuitData}
use Rattle.group_text.specs.Texts.{GroupTextData}
use Rattle.told_lines.specs.Lines.{Told}
use Rattle.told_lines.specs.Hearing.{of_column}
use Rattle.wave_dump.specs.Dumps.{closing, dump_of}
use Rattle.wave_dump.specs.Entries.{IsInside}
use Rattle.wave_dump.specs.Laws.{DumpsAreTold}
use Rattle.wave_dump.specs.Pens.{IsSent, SinkSeen}
use Rattle.wave_dump.specs.Writing.{Sheet, Telling, HearsPart, finished, first_sheet, hear, tell_all}
use Rattle.run_ends.specs.declared.stop.End as end
use Rattle.run_ends.specs.declared.stop.Stop.{Stop}
use Rattle.run_ends.specs.declared.stop.Stop.TheVariants.{Memory, Read}
use Rattle.run_ends.specs.Answers.{Answer, IsBegun}
use Rattle.run_ends.specs.Causes.{plain_cause}
use Rattle.run_ends.specs.Ends.{IsToldBy, status_of}
use Rattle.run_ends.specs.Stops.{IsRefusedAt, IsRefusedOnce, faults_written, write_stop_of, written_at}
use Rattle.session_meaning.specs.Sessions.{SessionData}
use Rattle.script_meaning.specs.declared.halt.Halt.{Halt}
use Rattle.script_meaning.specs.declared.halt.Halt.TheVariants as halt
use Rattle.script_meaning.specs.Halts.{IsCutShort, TellsCutShort, TellsRefusal}
use Rattle.script_meaning.specs.Runs.{RefusedLine, refusal_line, status_told}
use Rattle.dump_run.specs.Dumped.{Dumped, Dumps, IsDumpFrom, answer_dumped, refusal_told}
use Rattle.dump_run.specs.Turns.{ClosesDump, DumpsHalt, DumpsPart, DumpsRun, EndsDump, HasDumped, HasRun, Rests, has_begun, told_in}
use Rattle.dump_run.proofs.SceneLemmas.{IsPartOf, dump_told, front_part, tell_all-adds, told-adds, told-refused}

-- ---- the run

module _ (cut : Option ℕ) (start : SessionData) (lines : List (ℕ × List ℕ)) (new : SessionData) (before mid : Sheet) (asked told : List GroupTextData) where
  -- all lines were obeyed
  dumped_end : (ending : end.End) → HasDumped cut start lines new before mid asked told None → before.refused ≡ None →
      status_of ending ≡ status_told new None → HasRun cut start lines new before mid asked told ending
  dumped_end ending has unrefused same = record {
    dumped = has.dumped;
    dumps = has.dumps;
    reached = has.reached;
    ended = ap (status_told has.dumped.end) has.stopped ∙ (ap (λ (session : SessionData). status_told session None) has.reached ∙ sym same);
    last = mid;
    tells = has.tells;
    refused = ap (λ (refused : Option (List ℕ)). record mid { refused = refused })
        (told-refused start.state new.state before mid has.dumped.scenes has.tells ∙ (unrefused ∙ sym (ap (option_map refusal_told) has.stopped)));
    analysed = has.analysed;
  }

  -- a line was refused, and the line of its refusal was told
  dumped_refused : (stopped : RefusedLine) (after : Sheet) (result : Result end.End Stop) →
      HasDumped cut start lines new before mid asked told (Some stopped) → TellsRefusal hear HearsPart mid after stopped result →
      DumpsRun cut start lines new before after asked told result
  dumped_refused stopped after (Ok ending) has (is, heard) = record {
    dumped = has.dumped;
    dumps = has.dumps;
    reached = has.reached;
    ended = ap (status_told has.dumped.end) has.stopped ∙ sym (ap status_of is);
    last = mid;
    tells = has.tells;
    refused = heard ∙ ap (λ (refused : Option (List ℕ)). record mid { refused = refused }) (sym (ap (option_map refusal_told) has.stopped));
    analysed = has.analysed;
  }
  dumped_refused stopped after (Err stop) has heard =
      let part = front_part mid after (of_column 0 (refusal_line stopped ∷ [])) heard in
      record {
        dumped = has.dumped;
        dumps = has.dumps;
        sink = part.sink ∙ (told-adds start.state new.state before mid has.dumped.scenes has.tells).sink;
        left = part.longer.more;
        due = ap (λ (t : Telling). t.sheet.due) has.tells ∙ part.longer.due;
      }

  -- lines that weren't all obeyed were cut short
  pub cut_short : (ended : Halt) → ended ≢ halt.End → DumpsHalt cut start lines new before mid asked told ended → IsCutShort new.circuit ended
  cut_short halt.End other halts = absurd (other refl)
  cut_short (halt.Refused number code) other halts = tt
  cut_short (halt.TooLarge number size) other halts = (new.large, halts.0)

  pub run_end : (ending : end.End) (ended : Halt) → DumpsHalt cut start lines new before mid asked told ended → ended ≡ halt.End → before.refused ≡ None →
      status_of ending ≡ status_told new None → DumpsRun cut start lines new before mid asked told (Ok ending)
  run_end ending ended halts is unrefused status =
      dumped_end ending (subst (DumpsHalt cut start lines new before mid asked told) is halts) unrefused status

  -- and the line of that refusal was told
  run_cut_short : (after : Sheet) (result : Result end.End Stop) (ended : Halt) → DumpsHalt cut start lines new before mid asked told ended →
      TellsCutShort hear HearsPart new.circuit ended mid after result → DumpsRun cut start lines new before after asked told result
  run_cut_short after result halt.End halts tells = absurd tells
  run_cut_short after result (halt.Refused number code) halts tells =
      dumped_refused (record { line = number; cause = plain_cause code }) after result halts tells
  run_cut_short after result (halt.TooLarge number size) halts (cause, named, tells) =
      dumped_refused (record { line = number; cause = cause }) after result (halts.1 cause named) tells

  pub run_cut : (after : Sheet) (result : Result end.End Stop) (ended : Halt) (circuit : CircuitData) →
      DumpsHalt cut start lines new before mid asked told ended → circuit ≡ new.circuit → TellsCutShort hear HearsPart circuit ended mid after result →
      DumpsRun cut start lines new before after asked told result
  run_cut after result ended circuit halts here tells =
      run_cut_short after result ended halts
      (subst (λ (at : CircuitData). TellsCutShort hear HearsPart at ended mid after result) here tells)

  -- the line of a refusal leaves the page
  refused_rests : (stopped : RefusedLine) (after : Sheet) (result : Result end.End Stop) → TellsRefusal hear HearsPart mid after stopped result →
      Rests mid new.state → OnOk result (Rests after new.state)
  refused_rests stopped after (Ok ending) (is, heard) rests =
      subst (λ (sheet : Sheet). Rests sheet new.state) (sym heard) (record { closed = rests.closed; inside = rests.inside })
  refused_rests stopped after (Err stop) heard rests = tt

  pub run_rests : (after : Sheet) (result : Result end.End Stop) (ended : Halt) (circuit : CircuitData) →
      TellsCutShort hear HearsPart circuit ended mid after result → Rests mid new.state → OnOk result (Rests after new.state)
  run_rests after result halt.End circuit tells rests = absurd tells
  run_rests after result (halt.Refused number code) circuit tells rests =
      refused_rests (record { line = number; cause = plain_cause code }) after result tells rests
  run_rests after result (halt.TooLarge number size) circuit (cause, named, tells) rests =
      refused_rests (record { line = number; cause = cause }) after result tells rests

-- ---- the start

-- a sheet to which nothing was told is at rest, whatever the state is
pub first_rests : (sheet : Sheet) (state : List Tern) → sheet ≡ first_sheet sheet.before → Rests sheet state
first_rests sheet state is = record {
  closed = ap (λ (first : Sheet). first.is_open) is;
  inside = subst (λ (first : Sheet). All (IsInside (length state)) first.page.entries) (sym is) (All-nil (IsInside (length state)));
}

-- and no refusal was told
pub first_unrefused : (sheet : Sheet) → sheet ≡ first_sheet sheet.before → sheet.refused ≡ None
first_unrefused sheet is = ap (λ (first : Sheet). first.refused) is

-- ---- the dump

-- what a call on the sink answers that failed
abbrev failed : PortFault → Result (Unit {0}) PortFault
failed fault = Err fault

-- the counts of the sink behind the last fault
stop_written : (faults : ℕ) (fault : PortFault) → written_at faults (write_stop_of fault) ≡ faults_after faults (failed fault)
stop_written faults port.Failed = refl
stop_written faults port.NoMemory = refl

stop_refused : (before now : ℕ) (fault : PortFault) → RefusedOnce before now (failed fault) → IsRefusedAt before now (write_stop_of fault)
stop_refused before now port.Failed is = is
stop_refused before now port.NoMemory is = is

-- what is said of the whole: of the bytes, and of the sink's counts
pub record IsRunWritten (script : List ℕ) (start : SessionData) (asked told : List GroupTextData) (sink now : SinkSeen) (result : Result end.End Stop) :
    Type 0 where
  pub told_by : IsToldBy (IsDumpFrom script start) sink.written now.written asked told result
  pub no_read : IfErr result (λ stop. stop ≢ Read)
  pub faults : now.faults ≡ faults_written sink.faults result
  pub refusals : IsRefusedOnce sink.refusals now.refusals result

-- a fault of the sink is none of reading
stop_unread : (fault : PortFault) → write_stop_of fault ≢ Read
stop_unread port.Failed is = cc
stop_unread port.NoMemory is = cc

module _ (law : DumpsAreTold) (script : List ℕ) (start : SessionData) (asked told : List GroupTextData) (first : Sheet)
    (is_first : first ≡ first_sheet first.before) where
  abbrev cut : Option ℕ
  cut = cut_line script

  -- an outcome of the script is told by its answer
  is_dumped : (dumped : Dumped) → Dumps cut (has_begun first) start (lines_in script) dumped → IsDumpFrom script start (answer_dumped start dumped)
  is_dumped dumped dumps = record {
    dumped = dumped;
    dumps = subst (λ (sheet : Sheet). Dumps cut (has_begun sheet) start (lines_in script) dumped) is_first dumps;
    told = refl;
  }

  -- what was told of it and the end are the answer's text
  text_told : (dumped : Dumped) (state : List Tern) (last : Sheet) → tell_all (told_in start.state first) dumped.scenes ≡ told_in state last →
      finished (record last { refused = option_map refusal_told dumped.refused }) state ≡ (answer_dumped start dumped).text
  text_told dumped state last told =
      dump_told law start.state state first.before last dumped.scenes (option_map refusal_told dumped.refused)
      (subst (λ (sheet : Sheet). tell_all (told_in start.state sheet) dumped.scenes ≡ told_in state last) is_first told)

  -- so a part of what was due is a part of the answer's text
  part_told : (dumped : Dumped) (after : Sheet) (left : List ℕ) (now : Option (List ℕ)) →
      (tell_all (told_in start.state first) dumped.scenes).sheet.due ≡ after.due ++ left → WritesPart first.before.written now after.due →
      WritesPart first.before.written now (answer_dumped start dumped).text
  part_told dumped after left now due part =
      let all = tell_all (told_in start.state first) dumped.scenes in
      let refused : Option (List ℕ) = option_map refusal_told dumped.refused in
      let end_text = closing all.sheet.page all.state refused in
      subst (WritesPart first.before.written now)
      (sym (append_assoc after.due left end_text) ∙ (ap (λ (text : List ℕ). text ++ end_text) (sym due) ∙ text_told dumped all.state all.sheet refl))
      (part_longer first.before.written now after.due (left ++ end_text) part)

  -- the run came to its end, and the dump was ended
  pub run_written : (new : SessionData) (after : Sheet) (ending : end.End) (now : SinkSeen) (result : Result end.End Stop) →
      HasRun cut start (lines_in script) new first after asked told ending → EndsDump new.state after ending now result →
      IsRunWritten script start asked told first.before now result
  run_written new after ending now (Ok ended) run (is, sent) =
      let sink = ap (λ (sheet : Sheet). sheet.before) run.refused ∙ (told-adds start.state new.state first run.last run.dumped.scenes run.tells).sink in
      record {
        told_by = record {
          answer = answer_dumped start run.dumped;
          right = (is_dumped run.dumped run.dumps, run.analysed);
          ended = run.ended ∙ sym (ap status_of is);
          grew = sent.ok ∙ (ap (λ (seen : SinkSeen). append_known seen.written (finished after new.state)) sink
              ∙ ap (append_known first.before.written)
              (ap (λ (sheet : Sheet). finished sheet new.state) run.refused ∙ text_told run.dumped new.state run.last run.tells));
        };
        no_read = tt;
        faults = sent.faults ∙ ap (λ (seen : SinkSeen). seen.faults) sink;
        refusals = sent.refusals ∙ ap (λ (seen : SinkSeen). seen.refusals) sink;
      }
  run_written new after ending now (Err stop) run (fault, is, sent) =
      let sink = ap (λ (sheet : Sheet). sheet.before) run.refused ∙ (told-adds start.state new.state first run.last run.dumped.scenes run.tells).sink in
      let text = ap (λ (sheet : Sheet). finished sheet new.state) run.refused ∙ text_told run.dumped new.state run.last run.tells in
      record {
        told_by = inr (record {
          answer = answer_dumped start run.dumped;
          right = is_dumped run.dumped run.dumps;
          part = subst (WritesPart first.before.written now.written) text
              (subst (λ (seen : SinkSeen). WritesPart seen.written now.written (finished after new.state)) sink sent.part);
        });
        no_read = λ read. stop_unread fault (sym is ∙ read);
        faults = sent.faults ∙ (ap (λ (seen : SinkSeen). faults_after seen.faults (failed fault)) sink
            ∙ (sym (stop_written first.before.faults fault) ∙ ap (written_at first.before.faults) (sym is)));
        refusals = subst (IsRefusedAt first.before.refusals now.refusals) (sym is)
            (stop_refused first.before.refusals now.refusals fault
            (subst (λ (seen : SinkSeen). RefusedOnce seen.refusals now.refusals (failed fault)) sink sent.refusals));
      }

  -- the run was stopped, and the dump was left off
  pub part_written : (after : Sheet) (now : SinkSeen) (result : Result end.End Stop) → DumpsPart cut start (lines_in script) first after →
      ClosesDump after now result → IsRunWritten script start asked told first.before now result
  part_written after now (Ok ended) part closes = absurd closes
  part_written after now (Err stop) part (inl (is, sent)) =
      let sink = part.sink in
      record {
        told_by = inr (record {
          answer = answer_dumped start part.dumped;
          right = is_dumped part.dumped part.dumps;
          part = part_told part.dumped after part.left now.written part.due
              (subst (λ (seen : SinkSeen). WritesPart seen.written now.written after.due) sink
              (part_whole after.before.written now.written after.due sent.ok));
        });
        no_read = λ read. stop_unread port.NoMemory (sym is ∙ read);
        faults = sent.faults ∙ (ap (λ (seen : SinkSeen). seen.faults) sink ∙ ap (written_at first.before.faults) (sym is));
        refusals = subst (IsRefusedAt first.before.refusals now.refusals) (sym is)
            (inl (sent.refusals ∙ ap (λ (seen : SinkSeen). seen.refusals) sink));
      }
  part_written after now (Err stop) part (inr (fault, is, sent)) =
      let sink = part.sink in
      record {
        told_by = inr (record {
          answer = answer_dumped start part.dumped;
          right = is_dumped part.dumped part.dumps;
          part = part_told part.dumped after part.left now.written part.due
              (subst (λ (seen : SinkSeen). WritesPart seen.written now.written after.due) sink sent.part);
        });
        no_read = λ read. stop_unread fault (sym is ∙ read);
        faults = sent.faults ∙ (ap (λ (seen : SinkSeen). faults_after seen.faults (failed fault)) sink
            ∙ (sym (stop_written first.before.faults fault) ∙ ap (written_at first.before.faults) (sym is)));
        refusals = subst (IsRefusedAt first.before.refusals now.refusals) (sym is)
            (stop_refused first.before.refusals now.refusals fault
            (subst (λ (seen : SinkSeen). RefusedOnce seen.refusals now.refusals (failed fault)) sink sent.refusals));
      }
