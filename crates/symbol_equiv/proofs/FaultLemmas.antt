-- What ends both runs before the answer is written, what that does to the sink's counts, and what was written by then.
use Rattle.std.proofs.Common.{◌≡◌, ◌≢◌, ℕ, true, inl, inr, List, Option, Result, Ok, Err, IfErr, IfOk, OnOk, refl, sym, subst, ◌∙◌}
use Rattle.group_text.specs.Texts.{GroupTextData}
use Rattle.truth_makers.specs.declared.symbols.Symbols.{Symbols}
use Rattle.run_ends.specs.declared.stop.End as end
use Rattle.run_ends.specs.declared.stop.Stop.TheVariants.{Read, Write, Memory}
use Rattle.session_meaning.specs.Sessions.{SessionData}
use Rattle.script_meaning.specs.declared.turn.Turn.{Turn}
use Rattle.script_meaning.specs.declared.turn.Turn.TheVariants.{Accepted}
use Rattle.symbol_meaning.specs.Readings.{Valuations}
use Rattle.symbol_told.specs.Noting.{NotesData}
use Rattle.symbol_run.specs.declared.session.SymbolFault.{SymbolFault}
use Rattle.symbol_run.specs.declared.session.SymbolFault.TheVariants as session
use Rattle.symbol_run.specs.Halts.{StopsAmong}
use Rattle.symbol_run.specs.Turns.{StopsAt}
use Rattle.symbol_comparing.specs.declared.fault.CompareFault.{CompareFault}
use Rattle.symbol_comparing.specs.declared.fault.CompareFault.TheVariants as compare
use Rattle.symbol_comparing.specs.Told.{faults_compared, Compares, RefusedCompared}
use Rattle.symbol_meaning.specs.Comparing.{Shown}
use Rattle.decision_graph.specs.declared.graph.GraphFault.{GraphFault}
use Rattle.decision_graph.specs.declared.graph.GraphFault.TheVariants as graph
use Rattle.symbol_equiv.specs.declared.fault.EqualFault.{EqualFault}
use Rattle.symbol_equiv.specs.declared.fault.EqualFault.TheVariants as fault
use Rattle.symbol_equiv.specs.Ends.{compared_as, fault_of_graph, fault_of_run, faults_equal, lines_obeyed, LeavesUnwritten, ComparesAs, RefusedEqual, RunsAs}
use Rattle.symbol_equiv.specs.Lines.{IsNoted, TakesTurnNoted}

-- ---- a line

-- what holds whatever came of it
pub on_any : {T E : Type 0} (P : Type 0) (result : Result T E) → P → OnOk result P
on_any P (Ok value) is = is
on_any P (Err why) is = tt

-- lack of memory stops at no line, and isn't a fault of writing
pub memory_stops : (number : ℕ) (result : Result Turn SymbolFault) → IfErr result (λ why. why ≡ session.Stopped Memory) → IfErr result (StopsAt number)
memory_stops number (Ok turn) is = tt
memory_stops number (Err why) is = subst (StopsAt number) (sym is) tt

pub memory_unwritten : (result : Result Turn SymbolFault) → IfErr result (λ why. why ≡ session.Stopped Memory) →
    IfErr result (λ why. why ≢ session.Stopped Write)
memory_unwritten (Ok turn) is = tt
memory_unwritten (Err why) is = λ other. cc (sym is ∙ other)

-- the words of an accepted line were noted, or memory ran out
pub words_turn : (old_maker new_maker : Symbols) (v : Valuations) (cut : Option ℕ) (old : ℕ → SessionData) (line : ℕ × List ℕ) (new : ℕ → SessionData)
    (before after full : NotesData) (asked known : List GroupTextData) (result : Result Turn SymbolFault) → OnOk result (after ≡ full) →
    IfOk result (λ turn. turn ≡ Accepted) → IsNoted old_maker new_maker true v cut old line new before full asked known →
    TakesTurnNoted old_maker new_maker true v cut old line new before after asked known result
words_turn old_maker new_maker v cut old line new before after full asked known (Ok turn) grew accepted is =
    subst (λ (own : Turn). TakesTurnNoted old_maker new_maker true v cut old line new before after asked known (Ok own)) (sym accepted)
    (subst (λ (own : NotesData). IsNoted old_maker new_maker true v cut old line new before own asked known) (sym grew) is)
words_turn old_maker new_maker v cut old line new before after full asked known (Err why) grew accepted is = tt

-- ---- a run

module _ (net : List ℕ) (cut : Option ℕ) (start : SessionData) (lines : List (ℕ × List ℕ)) (symbols : Symbols) (kept later : NotesData) (old new : Option (List ℕ))
    (asked known : List GroupTextData) where
  -- it stopped in the lines, or before them
  pub run_stopped : (why : SymbolFault) → new ≡ old → StopsAmong (lines_obeyed cut lines) why →
      RunsAs net cut start lines symbols kept later old new asked known (Err (fault_of_run why))
  run_stopped (session.Stopped stop) same among = inl same
  run_stopped (session.Full number) same among = record { unwritten = same; among = among }

-- then the sink's counts are as before
pub run_counts : (T : Type 0) (count : ℕ) (why : SymbolFault) → why ≢ session.Stopped Write → count ≡ faults_equal {T = T} count (Err (fault_of_run why))
run_counts T count (session.Stopped Read) other = refl
run_counts T count (session.Stopped Write) other = absurd (other refl)
run_counts T count (session.Stopped Memory) other = refl
run_counts T count (session.Full number) other = refl

pub run_refused : (T : Type 0) (count : ℕ) (why : SymbolFault) → RefusedEqual {T = T} count count (Err (fault_of_run why))
run_refused T count (session.Stopped Read) = refl
run_refused T count (session.Stopped Write) = refl
run_refused T count (session.Stopped Memory) = inl refl
run_refused T count (session.Full number) = refl

-- memory or vertices ran out when it was done
module _ (net : List ℕ) (cut : Option ℕ) (start : SessionData) (lines : List (ℕ × List ℕ)) (symbols : Symbols) (kept later : NotesData) (old new : Option (List ℕ))
    (asked known : List GroupTextData) where
  pub leave_stopped : (why : EqualFault) → LeavesUnwritten why → new ≡ old → RunsAs net cut start lines symbols kept later old new asked known (Err why)
  leave_stopped (fault.Stopped stop) is same = inl same
  leave_stopped (fault.FullAt number) is same = absurd is
  leave_stopped fault.Full is same = same

pub leave_counts : (T : Type 0) (count : ℕ) (why : EqualFault) → LeavesUnwritten why → count ≡ faults_equal {T = T} count (Err why)
leave_counts T count (fault.Stopped Read) is = refl
leave_counts T count (fault.Stopped Write) is = absurd (cc is)
leave_counts T count (fault.Stopped Memory) is = refl
leave_counts T count (fault.FullAt number) is = absurd is
leave_counts T count fault.Full is = refl

pub leave_refused : (T : Type 0) (count : ℕ) (why : EqualFault) → LeavesUnwritten why → RefusedEqual {T = T} count count (Err why)
leave_refused T count (fault.Stopped Read) is = refl
leave_refused T count (fault.Stopped Write) is = refl
leave_refused T count (fault.Stopped Memory) is = inl refl
leave_refused T count (fault.FullAt number) is = absurd is
leave_refused T count fault.Full is = refl

pub graph_leaves : (why : GraphFault) → LeavesUnwritten (fault_of_graph why)
graph_leaves graph.NoMemory = refl
graph_leaves graph.Full = tt

-- it does the same to them whatever was to be answered
pub counts_alike : (T U : Type 0) (before now : ℕ) (why : EqualFault) → now ≡ faults_equal {T = T} before (Err why) → now ≡ faults_equal {T = U} before (Err why)
counts_alike T U before now (fault.Stopped stop) is = is
counts_alike T U before now (fault.FullAt number) is = is
counts_alike T U before now fault.Full is = is

pub refused_alike : (T U : Type 0) (before now : ℕ) (why : EqualFault) → RefusedEqual {T = T} before now (Err why) → RefusedEqual {T = U} before now (Err why)
refused_alike T U before now (fault.Stopped stop) is = is
refused_alike T U before now (fault.FullAt number) is = is
refused_alike T U before now fault.Full is = is

-- ---- the comparison

pub compare_told : (v : Valuations) (variables : List (List ℕ)) (one other : ℕ → List Shown) (old new : Option (List ℕ)) (result : Result end.End CompareFault) →
    Compares v variables one other old new result → ComparesAs v variables one other old new (compared_as result)
compare_told v variables one other old new (Ok ending) is = is
compare_told v variables one other old new (Err (compare.Stopped stop)) is = inr is
compare_told v variables one other old new (Err compare.Full) is = is

pub compare_counts : (before now : ℕ) (result : Result end.End CompareFault) → now ≡ faults_compared before result → now ≡ faults_equal before (compared_as result)
compare_counts before now (Ok ending) is = is
compare_counts before now (Err (compare.Stopped stop)) is = is
compare_counts before now (Err compare.Full) is = is

pub compare_refused : (before now : ℕ) (result : Result end.End CompareFault) → RefusedCompared before now result → RefusedEqual before now (compared_as result)
compare_refused before now (Ok ending) is = is
compare_refused before now (Err (compare.Stopped stop)) is = is
compare_refused before now (Err compare.Full) is = is
