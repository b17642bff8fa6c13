-- How far the faults of a list were judged: the verdicts so far, whose lines were written, and all that can follow them.
-- The plan: each fault takes it one step on; where a step stops, what was written is where the text of an answer begins, since each fault
-- that is left has a run and a verdict.
use Rattle.std.proofs.Common.{◌≡◌, ◌≢◌, ℕ, ◌+◌, ◌<◌, ◌≤◌, inl, inr, false, List, [], ◌∷◌, ◌++◌, length, drop, get_or, All, Option, Some, None, Result, Ok, Err, refl, sym, ap, subst, ◌∙◌, arith, append_assoc, append-nil, length-append}
use Rattle.std.proofs.lemmas.List.{drop_all, drop_more}
use Rattle.std.proofs.lemmas.List.Elements.{All-drop, All-get_or}
use Rattle.std.specs.Io.KnownBytes.{append_known}
use Rattle.ports.specs.Sending.{WritesPart}
use Rattle.ports.proofs.SendingLemmas.{append_known-nil, append_known-append, sends_part, part_whole, part_longer}
use Rattle.netlist.specs.Circuits.{CircuitData, IsCircuit}
use Rattle.session_meaning.specs.Sessions.{SessionData}
use Rattle.printed_lines.specs.Verdicts.{faults_line_of}
use Rattle.printed_lines.specs.declared.faults.FaultPlace.TheVariants.{Script}
use Rattle.told_lines.specs.Printing.{Page, print, PrintsPart}
use Rattle.told_lines.proofs.PrintingLemmas.{plain-all, plain-front}
use Rattle.group_text.specs.Texts.{GroupTextData}
use Rattle.fault_sim.specs.declared.fault.Fault.TheVariants.{Open}
use Rattle.fault_sim.specs.Traces.{Trace}
use Rattle.fault_sim.specs.declared.verdicts.Verdict.{Verdict}
use Rattle.fault_sim.specs.Benches.{JudgesBy}
use Rattle.fault_sim.specs.Faults.{IsFault}
use Rattle.script_meaning.specs.declared.halt.Halt.{Halt}
use Rattle.script_meaning.specs.declared.halt.Halt.TheVariants.{End, Refused, TooLarge}
use Rattle.run_ends.specs.declared.status.Status.TheVariants as status
use Rattle.run_ends.specs.declared.stop.Stop.{Stop}
use Rattle.run_ends.specs.declared.stop.End as end
use Rattle.run_ends.specs.Causes.{Cause, plain_cause, cause_line}
use Rattle.run_ends.specs.Answers.{Answer, IsStopped, IsWritten, IsAnalysed}
use Rattle.run_ends.specs.Ends.{IsToldBy, status_of}
use Rattle.script_meaning.specs.Runs.{refusal_line}
use Rattle.script_meaning.specs.Halts.{IsCutShort, TellsRefusal, TellsCutShort}
use Rattle.fault_meaning.specs.declared.listed.ListedFault.{ListedFault}
use Rattle.fault_meaning.specs.declared.counts.VerdictCounts.{VerdictCounts}
use Rattle.fault_meaning.specs.Judging.{LineVerdict, verdict_line, verdict_lines, counts_line, AreJudged, no_fault, one_more, IsJudgement}
use Rattle.fault_meaning.specs.Counts.{counts_of, total, with_verdict}
use Rattle.fault_meaning.specs.Runnings.{BenchData, HasTraced, HasRun, RunsTo, TellsJudged}
use Rattle.fault_meaning.proofs.CountLemmas.{counts_of-more, total-counts_of}
use Rattle.fault_meaning.proofs.RunLemmas.{judged_exists}

-- the lines of verdicts and of more are those of both
pub verdict_lines-append : (good : Trace) (judged more : List LineVerdict) → verdict_lines good (judged ++ more) ≡ verdict_lines good judged ++ verdict_lines good more
verdict_lines-append good [] more = refl
verdict_lines-append good (one ∷ judged) more =
    ap (λ text. verdict_line good one.line one.verdict ++ text) (verdict_lines-append good judged more)
    ∙ sym (append_assoc (verdict_line good one.line one.verdict) (verdict_lines good judged) (verdict_lines good more))

-- the lines of verdicts and one more
lines_more : (good : Trace) (judged : List LineVerdict) (line : ℕ) (verdict : Verdict) →
    verdict_lines good (judged ++ record { line = line; verdict = verdict } ∷ []) ≡ verdict_lines good judged ++ verdict_line good line verdict
lines_more good judged line verdict =
    verdict_lines-append good judged (record { line = line; verdict = verdict } ∷ [])
    ∙ ap (λ text. verdict_lines good judged ++ text) (append-nil (verdict_line good line verdict))

-- the verdicts so far, up to this place of the list, and what is kept now
pub record HasJudged (c : CircuitData) (script : List ℕ) (good : Trace) (start : List GroupTextData) (all : List ListedFault) (before : Option (List ℕ))
    (asked : List GroupTextData) (bench : BenchData) (place : ℕ) (after : Option (List ℕ)) (told : List GroupTextData) (counts : VerdictCounts) : Type 0 where
  pub same_start : bench.start ≡ c
  pub same_script : bench.script ≡ script
  pub judged : List LineVerdict
  pub texts : List GroupTextData
  pub grew : after ≡ append_known before (verdict_lines good judged)
  pub counted : counts ≡ counts_of judged
  pub long : length judged ≡ place
  pub analysed : told ≡ asked ++ texts
  pub goes_on : (rest : List LineVerdict) (more : List GroupTextData) → AreJudged c script good bench.kept (drop place all) rest more →
      AreJudged c script good start all (judged ++ rest) (texts ++ more)

-- the fault at a place of the list
abbrev pub listed_at : List ListedFault → ℕ → ListedFault
listed_at all place = get_or all place (record { line = 0; fault = Open 0 })

module _ {c : CircuitData} {script : List ℕ} {good : Trace} {start : List GroupTextData} {all : List ListedFault} {before : Option (List ℕ)} {asked : List GroupTextData} where
  -- at the start
  pub judged_first : {bench : BenchData} {counts : VerdictCounts} → bench.start ≡ c → bench.script ≡ script → bench.kept ≡ start → counts ≡ counts_of [] →
      HasJudged c script good start all before asked bench 0 before asked counts
  judged_first is_start is_script is_kept none = record {
    same_start = is_start;
    same_script = is_script;
    judged = [];
    texts = [];
    grew = sym (append_known-nil before);
    counted = none;
    long = refl;
    analysed = sym (append-nil asked);
    goes_on = λ rest more are. subst (λ kept. AreJudged c script good kept all rest more) is_kept are;
  }

  -- the text of an answer to the list, by another name, that goes on from what was written
  module _ (circuit : IsCircuit c) {faults : List ListedFault} (same : all ≡ faults) (faults_are : All (λ listed. IsFault c listed.fault) faults) {bench : BenchData} {place : ℕ} {after : Option (List ℕ)} {told : List GroupTextData} {counts : VerdictCounts} (come : HasJudged c script good start all before asked bench place after told counts) where
    faulty : All (λ listed. IsFault c listed.fault) all
    faulty = subst (All (λ (listed : ListedFault). IsFault c listed.fault)) (sym same) faults_are

    -- what was judged so far and what is judged of those that are left make an answer, a part of which was written
    stopped_in : (front : List LineVerdict) (texts more : List GroupTextData) (rest : List LineVerdict) (last : Option (List ℕ)) →
        AreJudged c script good start all (front ++ rest) (texts ++ more) → WritesPart before last (verdict_lines good front) →
        IsStopped (TellsJudged c script good start faults) before last
    stopped_in front texts more rest last are wrote =
        let judged = front ++ rest in
        inr (record {
          answer = record {
            status = status.Done;
            text = verdict_lines good judged ++ counts_line judged;
            texts = texts ++ more;
          };
          right = record {
            judged = judged;
            texts = texts ++ more;
            are = subst (λ (list : List ListedFault). AreJudged c script good start list judged (texts ++ more)) same are;
            told = refl;
          };
          part = part_longer before last (verdict_lines good judged) (counts_line judged)
              (subst (WritesPart before last) (sym (verdict_lines-append good front rest))
              (part_longer before last (verdict_lines good front) (verdict_lines good rest) wrote));
        })

    -- what is written so far is where an answer begins
    pub stopped_before : {last : Option (List ℕ)} → last ≡ after → IsStopped (TellsJudged c script good start faults) before last
    stopped_before {last} unwritten =
        let left = judged_exists c script good (drop place all) bench.kept circuit
        (All-drop (λ (listed : ListedFault). IsFault c listed.fault) place all faulty) in
        stopped_in come.judged come.texts left.1 left.0 last (come.goes_on left.0 left.1 left.2)
        (part_whole before last (verdict_lines good come.judged) (unwritten ∙ come.grew))

    -- the counts stay within the list
    pub few_counted : place < length all → total counts + 1 ≤ length all
    few_counted low =
        let sum = ap total come.counted ∙ total-counts_of come.judged in
        omega (arith, sum, come.long, low)

    -- the fault at this place is one of the bench's circuit
    pub fault_here : place < length all → IsFault bench.start (listed_at all place).fault
    fault_here low =
        subst (λ (one : CircuitData). IsFault one (listed_at all place).fault) (sym come.same_start)
        (All-get_or (λ (one : ListedFault). IsFault c one.fault) all place (record { line = 0; fault = Open 0 }) low faulty)

    -- one more fault was judged
    module _ (low : place < length all) (new : BenchData) (further : List GroupTextData) {verdict : Verdict} (judges : JudgesBy (λ bad. HasTraced bench told (Some (listed_at all place).fault) bad new further) good verdict) where
      -- the bench as it was is that of the whole run
      goes_further : (rest : List LineVerdict) (more : List GroupTextData) → AreJudged c script good new.kept (drop (place + 1) all) rest more →
          AreJudged c script good start all ((come.judged ++ record { line = (listed_at all place).line; verdict = verdict } ∷ []) ++ rest)
          ((come.texts ++ judges.given.texts) ++ more)
      goes_further rest more are =
          let given = judges.given in
          let traced = subst (λ (one : CircuitData). AreJudged one script good bench.kept (listed_at all place ∷ drop (place + 1) all)
          (record { line = (listed_at all place).line; verdict = verdict } ∷ rest) (given.texts ++ more)) come.same_start
          (subst (λ (text : List ℕ). AreJudged bench.start text good bench.kept (listed_at all place ∷ drop (place + 1) all)
          (record { line = (listed_at all place).line; verdict = verdict } ∷ rest) (given.texts ++ more)) come.same_script
          (one_more bench.kept new.kept (listed_at all place) (drop (place + 1) all) judges.bad verdict rest given.texts more given.is judges.judged
          (subst (λ (one : CircuitData). AreJudged one bench.script good new.kept (drop (place + 1) all) rest more) (sym come.same_start)
          (subst (λ (text : List ℕ). AreJudged c text good new.kept (drop (place + 1) all) rest more) (sym come.same_script) are)))) in
          let split : drop place all ≡ listed_at all place ∷ drop (place + 1) all =
          drop_more all place (record { line = 0; fault = Open 0 }) low in
          let whole = come.goes_on (record { line = (listed_at all place).line; verdict = verdict } ∷ rest) (given.texts ++ more)
          (subst (λ (faults : List ListedFault). AreJudged c script good bench.kept faults (record { line = (listed_at all place).line; verdict = verdict } ∷ rest)
          (given.texts ++ more)) (sym split) traced) in
          subst (λ (judged : List LineVerdict). AreJudged c script good start all judged ((come.texts ++ given.texts) ++ more))
          (sym (append_assoc come.judged (record { line = (listed_at all place).line; verdict = verdict } ∷ []) rest))
          (subst (λ (texts : List GroupTextData). AreJudged c script good start all (come.judged ++ (record { line = (listed_at all place).line; verdict = verdict } ∷ rest)) texts)
          (sym (append_assoc come.texts given.texts more)) whole)

      -- and its line written
      pub judged_on : {last : Option (List ℕ)} {next : VerdictCounts} → next ≡ with_verdict counts verdict →
          last ≡ append_known after (verdict_line good (listed_at all place).line verdict) →
          HasJudged c script good start all before asked new (place + 1) last further next
      judged_on is_next wrote =
          let given = judges.given in
          record {
            same_start = given.start ∙ come.same_start;
            same_script = given.script ∙ come.same_script;
            judged = come.judged ++ record { line = (listed_at all place).line; verdict = verdict } ∷ [];
            texts = come.texts ++ given.texts;
            grew = wrote ∙ ap (λ known. append_known known (verdict_line good (listed_at all place).line verdict)) come.grew
                ∙ append_known-append before (verdict_lines good come.judged) (verdict_line good (listed_at all place).line verdict)
                ∙ ap (append_known before) (sym (lines_more good come.judged (listed_at all place).line verdict));
            counted = is_next ∙ ap (λ (now : VerdictCounts). with_verdict now verdict) come.counted ∙ sym (counts_of-more come.judged (listed_at all place).line verdict);
            long = length-append come.judged (record { line = (listed_at all place).line; verdict = verdict } ∷ []) ∙ ap (λ n. n + 1) come.long;
            analysed = given.analysed ∙ ap (λ (texts : List GroupTextData). texts ++ given.texts) come.analysed
                ∙ append_assoc asked come.texts given.texts;
            goes_on = goes_further;
          }

      -- or a part of its line
      pub stopped_in_line : (last : Option (List ℕ)) → WritesPart after last (verdict_line good (listed_at all place).line verdict) →
          IsStopped (TellsJudged c script good start faults) before last
      stopped_in_line last part =
          let left = judged_exists c script good (drop (place + 1) all) new.kept circuit
          (All-drop (λ (one : ListedFault). IsFault c one.fault) (place + 1) all faulty) in
          let front = come.judged ++ record { line = (listed_at all place).line; verdict = verdict } ∷ [] in
          stopped_in front (come.texts ++ judges.given.texts) left.1 left.0 last (goes_further left.0 left.1 left.2)
          (sends_part before after last (verdict_lines good front) (verdict_line good (listed_at all place).line verdict) []
          (record {
            sent = verdict_lines good come.judged;
            whole = lines_more good come.judged (listed_at all place).line verdict
                ∙ ap (λ text. verdict_lines good come.judged ++ text) (sym (append-nil (verdict_line good (listed_at all place).line verdict)));
            grew = come.grew;
          }) part)

  -- all faults were judged
  module _ {faults : List ListedFault} (same : all ≡ faults) {bench : BenchData} {place : ℕ} {after : Option (List ℕ)} {told : List GroupTextData} {counts : VerdictCounts} (come : HasJudged c script good start all before asked bench place after told counts) (past : place ≡ length all) where
    all_judged : AreJudged c script good start all (come.judged ++ []) (come.texts ++ [])
    all_judged =
        come.goes_on [] []
        (subst (λ (left : List ListedFault). AreJudged c script good bench.kept left [] []) (sym (drop_all place all (omega (arith, past)))) (no_fault bench.kept))

    -- the answer that they make
    abbrev whole : Answer
    whole = record {
      status = status.Done;
      text = verdict_lines good come.judged ++ counts_line come.judged;
      texts = come.texts;
    }

    whole_right : TellsJudged c script good start faults whole
    whole_right = record {
      judged = come.judged;
      texts = come.texts;
      are = subst (λ (list : List ListedFault). AreJudged c script good start list come.judged come.texts) same
          (subst (λ (texts : List GroupTextData). AreJudged c script good start all come.judged texts) (append-nil come.texts)
          (subst (λ (judged : List LineVerdict). AreJudged c script good start all judged (come.texts ++ [])) (append-nil come.judged) all_judged));
      told = refl;
    }

    -- the line of the counts is the last
    last_line : (n : ℕ) → n ≡ length faults →
        counts_line come.judged ≡ faults_line_of n counts.detected counts.possible counts.undetected counts.refused
    last_line n long =
        ap (λ m. faults_line_of m (counts_of come.judged).detected (counts_of come.judged).possible (counts_of come.judged).undetected
        (counts_of come.judged).refused) (come.long ∙ past ∙ ap length same ∙ sym long)
        ∙ ap (λ (now : VerdictCounts). faults_line_of n now.detected now.possible now.undetected now.refused) (sym come.counted)

    pub judged_all : {last : Option (List ℕ)} (n : ℕ) → n ≡ length faults →
        last ≡ append_known after (faults_line_of n counts.detected counts.possible counts.undetected counts.refused) →
        IsWritten (IsAnalysed (TellsJudged c script good start faults) asked told) before last status.Done
    judged_all n long wrote = record {
      answer = whole;
      right = (whole_right, come.analysed);
      ended = refl;
      grew = wrote ∙ ap (append_known after) (sym (last_line n long))
          ∙ ap (λ known. append_known known (counts_line come.judged)) come.grew
          ∙ append_known-append before (verdict_lines good come.judged) (counts_line come.judged);
    }

    pub stopped_at_counts : (last : Option (List ℕ)) (n : ℕ) → n ≡ length faults →
        WritesPart after last (faults_line_of n counts.detected counts.possible counts.undetected counts.refused) →
        IsStopped (TellsJudged c script good start faults) before last
    stopped_at_counts last n long part = inr (record {
      answer = whole;
      right = whole_right;
      part = sends_part before after last (verdict_lines good come.judged ++ counts_line come.judged) (counts_line come.judged) []
          (record {
            sent = verdict_lines good come.judged;
            whole = ap (λ text. verdict_lines good come.judged ++ text) (sym (append-nil (counts_line come.judged)));
            grew = come.grew;
          })
          (subst (WritesPart after last) (sym (last_line n long)) part);
    })

-- ---- with the good run before

-- the answer of a line that is refused in the good run
abbrev refusal_answer : ℕ → Cause → List GroupTextData → Answer
refusal_answer number cause texts = record { status = status.ScriptRefused; text = cause_line (Script number) cause; texts = texts }

module _ (c : CircuitData) (script : List ℕ) (faults : List ListedFault) (new : SessionData) (before last : Option (List ℕ)) (asked mid : List GroupTextData) (good : Trace) where
  judgement : (ran : HasRun c script [] None new asked mid good None) (answer : Answer) → TellsJudged c script good new.kept faults answer →
      IsJudgement c script faults (record answer { texts = ran.outcome.texts ++ answer.texts })
  judgement ran answer right = record {
    outcome = ran.outcome;
    runs = ran.runs;
    tells = inl (record {
      whole = ran.stopped;
      good = good;
      shows = ran.shows;
      judged = right.judged;
      texts = right.texts;
      are = subst (λ (end : SessionData). AreJudged c script good end.kept faults right.judged right.texts) (sym ran.reached) right.are;
      told = ap (λ (one : Answer). record one { texts = ran.outcome.texts ++ one.texts }) right.told;
    });
  }

  -- what is told of the faults beside the good run is the answer
  verdicts_told : (told : List GroupTextData) (result : Result end.End Stop) → HasRun c script [] None new asked mid good None →
      IsToldBy (TellsJudged c script good new.kept faults) before last mid told result → IsToldBy (IsJudgement c script faults) before last asked told result
  verdicts_told told (Ok ending) ran written = record {
    answer = record written.answer { texts = ran.outcome.texts ++ written.answer.texts };
    right = (
      judgement ran written.answer written.right.0,
      written.right.1 ∙ ap (λ (texts : List GroupTextData). texts ++ written.answer.texts) ran.analysed
          ∙ append_assoc asked ran.outcome.texts written.answer.texts,
    );
    ended = written.ended;
    grew = written.grew;
  }
  verdicts_told told (Err stop) ran (inl same) = inl same
  verdicts_told told (Err stop) ran (inr begun) = inr (record {
    answer = record begun.answer { texts = ran.outcome.texts ++ begun.answer.texts };
    right = judgement ran begun.answer begun.right;
    part = begun.part;
  })

  pub told_verdicts : (told : List GroupTextData) (result : Result end.End Stop) (kept : List GroupTextData) (halt : Halt) → kept ≡ [] →
      RunsTo c script kept None new asked mid good halt → halt ≡ End → IsToldBy (TellsJudged c script good new.kept faults) before last mid told result →
      IsToldBy (IsJudgement c script faults) before last asked told result
  told_verdicts told result kept halt none ran is written =
      verdicts_told told result
      (subst (RunsTo c script [] None new asked mid good) is
      (subst (λ (texts : List GroupTextData). RunsTo c script texts None new asked mid good halt) none ran)) written

-- ---- where the good run was cut short

module _ (c : CircuitData) (script : List ℕ) (faults : List ListedFault) (new : SessionData) (page after : Page) (plain : page.numbered ≡ false)
    (asked mid : List GroupTextData) (good : Trace) where
  refused_right : (number : ℕ) (cause : Cause) (ran : HasRun c script [] None new asked mid good (Some (record { line = number; cause = cause }))) →
      IsJudgement c script faults (refusal_answer number cause ran.outcome.texts)
  refused_right number cause ran = record {
    outcome = ran.outcome;
    runs = ran.runs;
    tells = inr (record { stopped = record { line = number; cause = cause }; there = ran.stopped; told = refl });
  }

  -- a line that is refused in the good run is the whole answer
  told_refused : (result : Result end.End Stop) (number : ℕ) (cause : Cause) →
      HasRun c script [] None new asked mid good (Some (record { line = number; cause = cause })) →
      TellsRefusal print PrintsPart page after (record { line = number; cause = cause }) result →
      IsToldBy (IsJudgement c script faults) page.written after.written asked mid result
  told_refused (Ok ending) number cause ran (is, heard) = record {
    answer = refusal_answer number cause ran.outcome.texts;
    right = (refused_right number cause ran, ran.analysed);
    ended = sym (ap status_of is);
    grew = ap (λ (now : Page). now.written) heard ∙ plain-all page 0 (refusal_line (record { line = number; cause = cause }) ∷ []) plain
        ∙ ap (append_known page.written) (append-nil (cause_line (Script number) cause));
  }
  told_refused (Err stop) number cause ran heard = inr (record {
    answer = refusal_answer number cause ran.outcome.texts;
    right = refused_right number cause ran;
    part = subst (WritesPart page.written after.written) (append-nil (cause_line (Script number) cause))
        (plain-front page after 0 (refusal_line (record { line = number; cause = cause }) ∷ []) plain heard);
  })

  -- however the good run was cut short
  cut_short_told : (result : Result end.End Stop) (halt : Halt) → RunsTo c script [] None new asked mid good halt →
      TellsCutShort print PrintsPart new.circuit halt page after result → IsToldBy (IsJudgement c script faults) page.written after.written asked mid result
  cut_short_told result End ran told = absurd told
  cut_short_told result (Refused number code) ran told = told_refused result number (plain_cause code) ran told
  cut_short_told result (TooLarge number size) outgrown (cause, named, told) =
      told_refused result number cause (outgrown.halted size cause outgrown.first named) told

  pub told_cut_short : (at : CircuitData) (result : Result end.End Stop) (kept : List GroupTextData) (halt : Halt) → kept ≡ [] →
      RunsTo c script kept None new asked mid good halt → at ≡ new.circuit → TellsCutShort print PrintsPart at halt page after result →
      IsToldBy (IsJudgement c script faults) page.written after.written asked mid result
  told_cut_short at result kept halt none ran here told =
      cut_short_told result halt (subst (λ (texts : List GroupTextData). RunsTo c script texts None new asked mid good halt) none ran)
      (subst (λ (circuit : CircuitData). TellsCutShort print PrintsPart circuit halt page after result) here told)

-- a run that didn't come to its end was cut short
pub cut_short : (c : CircuitData) (script : List ℕ) (kept : List GroupTextData) (new : SessionData) (asked mid : List GroupTextData) (good : Trace) (halt : Halt) → halt ≢ End →
    RunsTo c script kept None new asked mid good halt → IsCutShort new.circuit halt
cut_short c script kept new asked mid good End other ran = absurd (other refl)
cut_short c script kept new asked mid good (Refused number code) other ran = tt
cut_short c script kept new asked mid good (TooLarge number size) other outgrown = (new.large, outgrown.first)
