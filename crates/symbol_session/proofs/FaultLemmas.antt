-- What ends a line before it was obeyed, and the counts of its hearer: a fault of the session's own is none of the hearer's.
use Rattle.std.proofs.Common.{◌≡◌, ℕ, Option, None, Some, Result, Ok, Err, inl, refl, ap}
use Rattle.std.specs.Prelude.{IfErr}
use Rattle.decision_graph.specs.declared.graph.GraphFault.{GraphFault}
use Rattle.decision_graph.specs.declared.graph.GraphFault.TheVariants as graph
use Rattle.printed_lines.specs.declared.faults.FaultCode.{FaultCode}
use Rattle.run_ends.specs.Stops.{written_at}
use Rattle.symbol_run.specs.declared.session.SymbolFault.{SymbolFault}
use Rattle.symbol_run.specs.declared.session.SymbolFault.TheVariants.{Full, Stopped}
use Rattle.symbol_run.specs.Turns.{faults_stopped, RefusedStopped, StopsAt}
use Rattle.symbol_session.specs.Turns.{IsOwnFault, fault_at, turn_unread, want}

-- ---- faults of the session's own

module _ {T : Type 0} (number : ℕ) where
  pub own_stops : (result : Result T SymbolFault) → IfErr result (IsOwnFault number) → IfErr result (StopsAt number)
  own_stops (Ok value) is = tt
  own_stops (Err (Stopped stop)) is = tt
  own_stops (Err (Full line)) is = is

  pub own_faults : (result : Result T SymbolFault) → IfErr result (IsOwnFault number) → (faults : ℕ) → faults_stopped faults result ≡ faults
  own_faults (Ok value) is faults = refl
  own_faults (Err (Stopped stop)) is faults = ap (written_at faults) is
  own_faults (Err (Full line)) is faults = refl

  pub own_refusals : (result : Result T SymbolFault) → IfErr result (IsOwnFault number) → (refusals : ℕ) → RefusedStopped refusals refusals result
  own_refusals (Ok value) is refusals = refl
  own_refusals (Err (Stopped stop)) is refusals = rw is (inl refl)
  own_refusals (Err (Full line)) is refusals = refl

  -- lack of memory is one
  pub memory_own : (result : Result T SymbolFault) → IfErr result (λ fault. fault ≡ want) → IfErr result (IsOwnFault number)
  memory_own (Ok value) is = tt
  memory_own (Err fault) is = rw is refl

-- a fault of the graph is one
pub graph_own : (number : ℕ) (fault : GraphFault) → IsOwnFault number (fault_at number fault)
graph_own number graph.Full = refl
graph_own number graph.NoMemory = refl

-- ---- a line that is no command

pub unread_stops : (code : Option FaultCode) (number : ℕ) → IfErr (turn_unread code) (StopsAt number)
unread_stops None number = tt
unread_stops (Some code) number = tt

pub unread_faults : (code : Option FaultCode) (faults : ℕ) → faults_stopped faults (turn_unread code) ≡ faults
unread_faults None faults = refl
unread_faults (Some code) faults = refl

pub unread_refusals : (code : Option FaultCode) (refusals : ℕ) → RefusedStopped refusals refusals (turn_unread code)
unread_refusals None refusals = inl refl
unread_refusals (Some code) refusals = refl
