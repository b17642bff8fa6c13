-- What ends a comparison, and what that does to the sink's counts.
use Rattle.std.proofs.Common.{◌≡◌, ◌≢◌, ℕ, ◌≤◌, inl, length, Result, Ok, Err, IfErr, refl}
use Rattle.ports.specs.declared.ports.PortFault.{PortFault}
use Rattle.ports.specs.declared.ports.PortFault.TheVariants as port
use Rattle.ports.specs.Ports.{faults_after, RefusedOnce}
use Rattle.decision_graph.specs.declared.graph.GraphFault.{GraphFault}
use Rattle.decision_graph.specs.declared.graph.GraphFault.TheVariants as graph
use Rattle.truth_makers.specs.declared.symbols.Symbols.{Symbols}
use Rattle.run_ends.specs.Stops.{write_stop_of}
use Rattle.symbol_comparing.specs.declared.fault.CompareFault.{CompareFault}
use Rattle.symbol_comparing.specs.declared.fault.CompareFault.TheVariants.{Stopped, Full}
use Rattle.symbol_comparing.specs.Told.{fault_of_graph, faults_compared, RefusedCompared, StopsByFull}

-- a fault of writing raises the sink's counts as it stops the comparison
pub write_counts : (before now : ℕ) (fault : PortFault) → now ≡ faults_after {T = Unit {0}} before (Err fault) →
    now ≡ faults_compared {T = Unit {0}} before (Err (Stopped (write_stop_of fault)))
write_counts before now port.Failed is = is
write_counts before now port.NoMemory is = is

pub write_refused : (before now : ℕ) (fault : PortFault) → RefusedOnce {T = Unit {0}} before now (Err fault) →
    RefusedCompared {T = Unit {0}} before now (Err (Stopped (write_stop_of fault)))
write_refused before now port.Failed is = is
write_refused before now port.NoMemory is = is

-- a function that can't be made leaves them
pub graph_counts : (count : ℕ) (fault : GraphFault) → count ≡ faults_compared {T = Unit {0}} count (Err (fault_of_graph fault))
graph_counts count graph.Full = refl
graph_counts count graph.NoMemory = refl

pub graph_refused : (count : ℕ) (fault : GraphFault) → RefusedCompared {T = Unit {0}} count count (Err (fault_of_graph fault))
graph_refused count graph.Full = refl
graph_refused count graph.NoMemory = inl refl

-- it stops for vertices only if there are as many as there may be
pub graph_full : (symbols : Symbols) (fault : GraphFault) → (fault ≡ graph.Full → symbols.graph.most ≤ length symbols.graph.vertices) →
    StopsByFull {T = Unit {0}} symbols (Err (fault_of_graph fault))
graph_full symbols graph.Full is = is refl
graph_full symbols graph.NoMemory is = tt

-- and not at all where nothing was made
pub not_full : {T : Type 0} (symbols : Symbols) (result : Result T CompareFault) → IfErr result (λ why. why ≢ Full) → StopsByFull symbols result
not_full symbols (Ok _) other = tt
not_full symbols (Err (Stopped stop)) other = tt
not_full symbols (Err Full) other = absurd (other refl)
