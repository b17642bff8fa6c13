-- The fault's commands have their effects, and then the lines of the script are judged: that is the verdict on a run. And a run in a session
-- that goes on from that of a bench is one of the bench.
use Rattle.std.proofs.Common.{◌≡◌, ℕ, List, Option, Some, Result, IfOk, refl, sym, subst}
use Rattle.netlist.specs.Circuits.{CircuitData}
use Rattle.group_text.specs.Texts.{GroupTextData}
use Rattle.session_meaning.specs.Sessions.{SessionData}
use Rattle.fault_sim.specs.declared.fault.Fault.{Fault}
use Rattle.fault_sim.specs.Traces.{Trace}
use Rattle.fault_sim.specs.declared.verdicts.Verdict.{Verdict}
use Rattle.fault_sim.specs.Benches.{JudgesBy}
use Rattle.fault_meaning.specs.Traces.{AreDone, IsTrace, commands_under, start_with, stuck_under}
use Rattle.fault_meaning.specs.Runnings.{BenchData, HasTraced, IsTraced}
use Rattle.fault_meaning.specs.Early.{JudgesLines}
use Rattle.fault_meaning.proofs.EndLemmas.{ok_weaker}

-- a run under a fault is judged by its lines
pub judges_under : {E : Type 0} (c : CircuitData) (script : List ℕ) (kept : List GroupTextData) (fault : Fault) (mid end : SessionData) (good : Trace) (asked told : List GroupTextData) (result : Result Verdict E) →
    AreDone (start_with c kept) (commands_under c (Some fault)) mid →
    IfOk result (JudgesLines (stuck_under (Some fault)) script mid good end asked told) →
    IfOk result (JudgesBy (IsTraced c script kept (Some fault) end asked told) good)
judges_under c script kept fault mid end good asked told result begins judges =
    ok_weaker (JudgesLines (stuck_under (Some fault)) script mid good end asked told) (JudgesBy (IsTraced c script kept (Some fault) end asked told) good) result
    (λ verdict lines. record {
      bad = lines.bad;
      given = record {
        texts = lines.outcome.texts;
        is = record {
          outcome = lines.outcome;
          runs = record { start = mid; begins = begins; runs = lines.runs };
          shows = lines.shows;
          analysed = refl;
          left = lines.left;
        };
        analysed = lines.analysed;
      };
      judged = lines.judged;
    }) judges

-- a run from the start with what a bench keeps
module _ (old new : BenchData) {c : CircuitData} {script : List ℕ} {kept : List GroupTextData} (end : SessionData) (fault : Option Fault) (asked told : List GroupTextData)
    (start : c ≡ old.start) (text : script ≡ old.script) (texts : kept ≡ old.kept) (new_start : new.start ≡ old.start) (new_script : new.script ≡ old.script) (left : new.kept ≡ end.kept) where
  -- is one of the bench
  pub bench_traced : (trace : Trace) → IsTraced c script kept fault end asked told trace → HasTraced old asked fault trace new told
  bench_traced trace traced = record {
    start = new_start;
    script = new_script;
    texts = traced.texts;
    is = subst (λ (first : List GroupTextData). IsTrace old.start old.script first fault trace traced.texts new.kept) texts
        (subst (λ (lines : List ℕ). IsTrace old.start lines kept fault trace traced.texts new.kept) text
        (subst (λ (circuit : CircuitData). IsTrace circuit script kept fault trace traced.texts new.kept) start
        (subst (λ (last : List GroupTextData). IsTrace c script kept fault trace traced.texts last) (sym left) traced.is)));
    analysed = traced.analysed;
  }

  -- so the verdict on it is one on a run of the bench
  pub bench_judges : {E : Type 0} (good : Trace) (result : Result Verdict E) → IfOk result (JudgesBy (IsTraced c script kept fault end asked told) good) →
      IfOk result (JudgesBy (λ bad. HasTraced old asked fault bad new told) good)
  bench_judges good result judges =
      ok_weaker (JudgesBy (IsTraced c script kept fault end asked told) good) (JudgesBy (λ bad. HasTraced old asked fault bad new told) good) result
      (λ verdict by. record { bad = by.bad; given = bench_traced by.bad by.given; judged = by.judged }) judges
