-- A session in one column: what a command comes to in all columns is what it comes to in the one.
use Rattle.std.proofs.Common.{◌≡◌, ◌≢◌, ℕ, ◌<◌, ◌⊎◌, List, [], ◌∷◌, length, Option, Result, Ok, Err, refl, sym, ap, subst, ◌∙◌, inl, inr, arith}
use Rattle.ternary.specs.declared.tern.Tern.{Tern}
use Rattle.switch_paths.specs.Graphs.{GraphData}
use Rattle.group_text.specs.Texts.{GroupTextData}
use Rattle.circuit_texts.specs.Building.{IsCutOff}
use Rattle.settling.specs.declared.settling.Settled.{Settled}
use Rattle.column_stage.specs.Acts.{Act, Leads, Rested, Stepped}
use Rattle.script_lang.specs.declared.command.Command.TheVariants as family
use Rattle.script_lang.specs.declared.command.Run.{Run}
use Rattle.script_lang.specs.declared.command.Run.TheVariants.{Step, Phase, Cycle, Report}
use Rattle.column_script.specs.declared.command.ColumnCommand.TheVariants.{Shared}
use Rattle.column_script.specs.Commands.{IsSharedRun}
use Rattle.told_lines.specs.Lines.{Line, Told}
use Rattle.told_lines.specs.Hearing.{hear_all, HearsPart, of_column}
use Rattle.session_meaning.specs.declared.fault.ApplyFault.{ApplyFault}
use Rattle.session_meaning.specs.declared.fault.ApplyFault.TheVariants.{Refused, GroupNodes, GroupSwitches, WriteFault, NoMemory}
use Rattle.session_meaning.specs.Sessions.{SessionData, HeldSession, ClockData, places_of}
use Rattle.session_meaning.specs.Effects.{IsReported, RunEffect, places_in}
use Rattle.session_meaning.specs.Outcomes.{Accepts, Begins, IsDoneAndSent, Outcome, Refuses, RefusesSize, Sent, Stays}
use Rattle.session_meaning.specs.Stages.{AreBeatActs, AreRunActs, IsStageAfter, IsStill, ObeysOn, RestsBy, RunsOn, SettlesOn}
use Rattle.session_meaning.specs.Columns.{AreBeatActsInAll, BeginsInAll, Cuts, MovesInAll, ObeysInAllOn, RestsInAll, RunsOnInAll, StaysBy, column_of, count_in}
use Rattle.session_meaning.proofs.RowLemmas.{rows_in_one, rows_of_one}

-- a command that has the circuit built is there for columns, unless it is a report
pub shared_run : (run : Run) → run ≢ Report → IsSharedRun run
shared_run Step other = tt
shared_run Phase other = tt
shared_run (Cycle times) other = tt
shared_run Report other = absurd (other refl)

-- where the first column's states are the data's, it is the session
first_is : {M : Type 0} (states : M → ℕ → List Tern) (session : HeldSession M) → states session.stage 0 ≡ session.core.state →
    column_of states session 0 ≡ session.core
first_is states session same = ap (λ (state : List Tern). record session.core { state = state }) same

-- ---- reports

-- a report that was done, and whose line was heard or a part of it, is the effect of its command
pub report_moves : {H M : Type 0} (hear : H → Told → H) (part : H → Told → H → Type 0) (columns : M → ℕ) (states : M → ℕ → List Tern)
    (did : Act → M → M → Type 0) (old new : HeldSession M) → columns old.stage ≡ 1 → states old.stage 0 ≡ old.core.state → new.stage ≡ old.stage →
    (before after : H) (result : Result (Unit {0}) ApplyFault) → IsDoneAndSent IsReported hear part old.core new.core before after result →
    MovesInAll hear part columns states did Report old new before after result
report_moves {H} {M} hear part columns states did old new one was same before after result report = by result report.sent
  where
    here : IsReported (column_of states old 0) (column_of states new 0) report.lines
    here =
        let is : states new.stage 0 ≡ new.core.state =
        ap (λ (stage : M). states stage 0) same ∙ was ∙ sym (ap (λ (s : SessionData). s.state) report.done.moved) in
        subst (λ (s : SessionData). IsReported s (column_of states new 0) report.lines) (sym (first_is states old was))
        (subst (λ (s : SessionData). IsReported old.core s report.lines) (sym (first_is states new is)) report.done)

    effect : (column : ℕ) → column < columns old.stage → IsReported (column_of states old column) (column_of states new column) report.lines
    effect column inside =
        let first : 0 ≡ column = omega (arith, one, inside) in
        subst (λ (n : ℕ). IsReported (column_of states old n) (column_of states new n) report.lines) first here

    by : (told : Result (Unit {0}) ApplyFault) → Sent hear part before after report.lines told → MovesInAll hear part columns states did Report old new before after told
    by (Ok _) heard = record {
      lines = λ column. report.lines;
      each = effect;
      told = of_column 0 report.lines;
      rows = rows_in_one (columns old.stage) one report.lines;
      heard = heard;
      acts = [];
      are = refl;
      leads = same;
    }
    by (Err fault) heard = record {
      end = column_of states new;
      lines = λ column. report.lines;
      each = effect;
      told = of_column 0 report.lines;
      rows = rows_in_one (columns old.stage) one report.lines;
      heard = heard;
      done = λ column inside. (report.lines, effect column inside);
    }

-- ---- acts

-- one count is that of the first column
one_count : (counts : List Settled) → length counts ≡ 1 → counts ≡ count_in counts 0 ∷ []
one_count [] one = absurd (omega (arith, one))
one_count (count ∷ []) one = refl
one_count (count ∷ next ∷ counts) one = absurd (omega (arith, one))

module _ (columns : ℕ) (one : columns ≡ 1) where
  some : 0 < columns
  some = omega (arith, one)

  -- the act of a phase
  rests_in_one : (g : GraphData) (limit : ℕ) (lines : ℕ → List Line) (act : Act) → RestsInAll columns g limit lines act →
      RestsBy g limit (lines 0) act
  rests_in_one g limit lines act rests =
      let tells = rests.each 0 some in
      record {
        n = tells.n;
        count = count_in rests.counts 0;
        values = tells.values;
        line = tells.line;
        is = rests.is ∙ ap (Rested g limit) (one_count rests.counts (rests.counted ∙ one));
      }

  -- those of phases at places
  beats_in_one : (g : GraphData) (limit : ℕ) (clocks : List ClockData) (places : List ℕ) (lines : ℕ → List Line) (acts : List Act) →
      AreBeatActsInAll columns g limit clocks places lines acts → AreBeatActs g limit clocks places (lines 0) acts
  beats_in_one g limit clocks [] lines acts (no_line, no_act) = (no_line 0 some, no_act)
  beats_in_one g limit clocks (place ∷ places) lines acts (front, back, act, more, rests, behind, all_lines, all_acts) = (
    front 0,
    back 0,
    act,
    more,
    rests_in_one g limit front act rests,
    beats_in_one g limit clocks places back more behind,
    all_lines 0 some,
    all_acts,
  )

-- ---- what becomes of the stage

module _ {M : Type 0} (columns : M → ℕ) (states : M → ℕ → List Tern) (did : Act → M → M → Type 0) (one : (stage : M) → columns stage ≡ 1)
    (old new : HeldSession M) (was : states old.stage 0 ≡ old.core.state) (is : states new.stage 0 ≡ new.core.state) where
  module _ (run : Run) (runs : RunsOnInAll columns states did old run new) where
    -- the first column behind the build
    mid_is : column_of states runs.mid 0 ≡ runs.mid.core
    mid_is =
        first_is states runs.mid
        (runs.still 0 (some (columns old.stage) (one old.stage)) ∙ was ∙ sym (ap (λ (s : SessionData). s.state) runs.same))

    -- phases of a command
    settles_in_one : AreRunActs runs.mid.core run (runs.lines 0) runs.acts → SettlesOn did old run new
    settles_in_one are = record {
      mid = runs.mid.core;
      same = runs.same;
      lines = runs.lines 0;
      effect = subst (λ (s : SessionData). RunEffect runs.mid.core run s (runs.lines 0)) (first_is states new is)
          (subst (λ (s : SessionData). RunEffect s run (column_of states new 0) (runs.lines 0)) mid_is
          (runs.each 0 (some (columns runs.mid.stage) (one runs.mid.stage))));
      acts = runs.acts;
      are = are;
      leads = (runs.mid.stage, runs.built, runs.leads);
    }

  -- any command that has the circuit built
  runs_in_one : (run : Run) → RunsOnInAll columns states did old run new → RunsOn did old run new
  runs_in_one Step runs =
      let acts : runs.acts ≡ Stepped old.core.circuit.graph ∷ [] = runs.are ∙ ap (λ (s : SessionData). Stepped s.circuit.graph ∷ []) runs.same in
      (runs.mid.stage, runs.built, subst (λ (all : List Act). Leads did runs.mid.stage all new.stage) acts runs.leads)
  runs_in_one Phase runs =
      let (act, rests, acts) = runs.are in
      settles_in_one Phase runs
      (act, rests_in_one (columns runs.mid.stage) (one runs.mid.stage) runs.mid.core.circuit.graph runs.mid.core.limit runs.lines act rests, acts)
  runs_in_one (Cycle times) runs =
      let mid = runs.mid.core in
      settles_in_one (Cycle times) runs
      (beats_in_one (columns runs.mid.stage) (one runs.mid.stage) mid.circuit.graph mid.limit mid.clocks (places_in (places_of mid.clocks) times) runs.lines
      runs.acts runs.are)
  runs_in_one Report runs =
      (runs.mid.stage, runs.built, subst (λ (all : List Act). Leads did runs.mid.stage all new.stage) runs.are runs.leads)

  -- ---- what a command comes to

  module _ {H : Type 0} (cuts : Cuts) (hear : H → Told → H) (part : H → Told → H → Type 0)
      (cuts_off : (large : ℕ) (g : GraphData) (bound : Option ℕ) (kept after asked told : List GroupTextData) → cuts large g bound kept after asked told →
      IsCutOff large g kept after asked told) (run : Run) (before after : H) (asked known : List GroupTextData) (refusals now : ℕ) where
    -- to these data
    abbrev ComesTo : SessionData → SessionData → Result (Unit {0}) ApplyFault → Type 0
    ComesTo start end result =
        Outcome (Accepts hear start (family.Run run) end before after asked known × IsStageAfter did old (family.Run run) new)
        (λ refusal. Refuses start (family.Run run) end before after asked known refusal × IsStill did old.stage new.stage)
        (λ fault. RefusesSize start (family.Run run) end before after asked known fault × IsStill did old.stage new.stage)
        (Stays start end before after asked known × IsStill did old.stage new.stage)
        (Begins hear part start (family.Run run) end before after asked known) refusals now result

    -- there is a column
    first : 0 < columns old.stage
    first = some (columns old.stage) (one old.stage)

    stays_in_one : StaysBy cuts (column_of states old 0) (column_of states new 0) before after asked known →
        Stays (column_of states old 0) (column_of states new 0) before after asked known
    stays_in_one stays = record { core = stays.core; cut_off = by stays.cut_off; unheard = stays.unheard }
      where
        by : ((new.core.kept ≡ old.core.kept) × (known ≡ asked)) ⊎ cuts old.core.large old.core.circuit.graph old.core.bound old.core.kept new.core.kept asked known →
            IsCutOff old.core.large old.core.circuit.graph old.core.kept new.core.kept asked known
        by (inl same) = inl same
        by (inr cut) = cuts_off old.core.large old.core.circuit.graph old.core.bound old.core.kept new.core.kept asked known cut

    begins_in_one : BeginsInAll hear part (columns old.stage) (column_of states old) (Shared (family.Run run)) (column_of states new) before after asked known →
        Begins hear part (column_of states old 0) (family.Run run) (column_of states new 0) before after asked known
    begins_in_one begins = record {
      end = begins.end 0;
      lines = begins.performs.lines 0;
      texts = begins.texts;
      performs = begins.performs.each 0 first;
      heard = subst (HearsPart hear part before after) (rows_of_one (one old.stage) begins.performs.rows) begins.heard;
      done = begins.done 0 first;
      analysed = begins.analysed;
    }

    first_comes : (result : Result (Unit {0}) ApplyFault) →
        ObeysInAllOn cuts hear part columns states did old (Shared (family.Run run)) new before after asked known refusals now result →
        ComesTo (column_of states old 0) (column_of states new 0) result
    first_comes (Ok _) ((accepts, later), counted) = (
      (
        record {
          lines = accepts.performs.lines 0;
          texts = accepts.texts;
          performs = accepts.performs.each 0 first;
          heard = accepts.heard ∙ ap (hear_all hear before) (rows_of_one (one old.stage) accepts.performs.rows);
          analysed = accepts.analysed;
        },
        runs_in_one run later,
      ),
      counted,
    )
    first_comes (Err (Refused refusal)) ((refuses, still), counted) = ((refuses 0 first, still), counted)
    first_comes (Err (GroupNodes node count)) ((refuses, still), counted) = ((refuses 0 first, still), counted)
    first_comes (Err (GroupSwitches node count)) ((refuses, still), counted) = ((refuses 0 first, still), counted)
    first_comes (Err WriteFault) (begins, counted) = (begins_in_one begins, counted)
    first_comes (Err NoMemory) (inl ((stays, still), counted)) = inl ((stays_in_one (stays 0 first), still), counted)
    first_comes (Err NoMemory) (inr (begins, counted)) = inr (begins_in_one begins, counted)

    pub obeys_in_one : (result : Result (Unit {0}) ApplyFault) →
        ObeysInAllOn cuts hear part columns states did old (Shared (family.Run run)) new before after asked known refusals now result →
        ObeysOn hear part did old (family.Run run) new before after asked known refusals now result
    obeys_in_one result obeys =
        subst (λ (s : SessionData). ComesTo old.core s result) (first_is states new is)
        (subst (λ (s : SessionData). ComesTo s (column_of states new 0) result) (first_is states old was) (first_comes result obeys))
