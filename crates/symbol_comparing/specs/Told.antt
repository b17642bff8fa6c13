-- What a comparison tells: the lines of the differences, and last the count; at a fault a part of that.
use Rattle.std.specs.Prelude.{◌≡◌, ℕ, ◌+◌, ◌≤◌, List, [], ◌∷◌, length, Option, Result, Ok, Err}
use Rattle.std.specs.List.{flat_map}
use Rattle.std.specs.Io.KnownBytes.{append_known}
use Rattle.ports.specs.Sending.{WritesPart}
use Rattle.decision_graph.specs.declared.graph.GraphFault.{GraphFault}
use Rattle.decision_graph.specs.declared.graph.GraphFault.TheVariants as graph
use Rattle.truth_makers.specs.declared.symbols.Symbols.{Symbols}
use Rattle.truth_makers.specs.Makers.{columns_in}
use Rattle.run_ends.specs.declared.stop.Stop.TheVariants.{Memory}
use Rattle.run_ends.specs.declared.stop.End as end
use Rattle.run_ends.specs.declared.stop.End.TheVariants as ended
use Rattle.run_ends.specs.Stops.{written_at, IsRefusedAt}
use Rattle.symbol_meaning.specs.Readings.{Valuations, truths_in}
use Rattle.symbol_meaning.specs.Comparing.{Difference, Shown, AreCompared, compared_text, difference_text}
use Rattle.symbol_comparing.specs.declared.fault.CompareFault.{CompareFault}
use Rattle.symbol_comparing.specs.declared.fault.CompareFault.TheVariants.{Stopped, Full}

-- the valuations are those of the maker's variables
pub record AreValuationsOf (symbols : Symbols) (v : Valuations) : Type 0 where
  pub columns : v.columns ≡ columns_in symbols
  pub truths : (column : ℕ) → v.truths column ≡ truths_in symbols.graph.variables column

-- the lines of differences
abbrev pub lines_of : List (List ℕ) → List Difference → List ℕ
lines_of variables told = flat_map (difference_text variables) told

-- the lines of right differences were written, and counted
pub record TellsLines (IsRight : List Difference → Type 0) (variables : List (List ℕ)) (old new : Option (List ℕ)) (before after : ℕ) : Type 0 where
  pub told : List Difference
  pub right : IsRight told
  pub grew : new ≡ append_known old (lines_of variables told)
  pub counted : after ≡ before + length told

-- a part of them was written
pub record TellsPart (IsRight : List Difference → Type 0) (variables : List (List ℕ)) (old new : Option (List ℕ)) : Type 0 where
  pub told : List Difference
  pub right : IsRight told
  pub part : WritesPart old new (lines_of variables told)

-- the one, or at a fault the other
abbrev pub Tells : (List Difference → Type 0) → List (List ℕ) → Option (List ℕ) → Option (List ℕ) → ℕ → ℕ → Result (Unit {0}) CompareFault → Type 0
Tells IsRight variables old new before after (Ok _) = TellsLines IsRight variables old new before after
Tells IsRight variables old new before after (Err fault) = TellsPart IsRight variables old new

-- how a comparison with such differences ends
abbrev pub end_by : List Difference → end.End
end_by [] = ended.Done
end_by (own ∷ others) = ended.Mismatch

-- the whole answer was written; at a fault a part of it
pub record TellsAll (v : Valuations) (variables : List (List ℕ)) (one other : ℕ → List Shown) (old new : Option (List ℕ)) (ending : end.End) : Type 0 where
  pub waves : ℕ
  pub told : List Difference
  pub right : AreCompared v one other waves told
  pub ends : ending ≡ end_by told
  pub grew : new ≡ append_known old (compared_text variables waves told)

pub record TellsSome (v : Valuations) (variables : List (List ℕ)) (one other : ℕ → List Shown) (old new : Option (List ℕ)) : Type 0 where
  pub waves : ℕ
  pub told : List Difference
  pub right : AreCompared v one other waves told
  pub part : WritesPart old new (compared_text variables waves told)

abbrev pub Compares : Valuations → List (List ℕ) → (ℕ → List Shown) → (ℕ → List Shown) → Option (List ℕ) → Option (List ℕ) → Result end.End CompareFault → Type 0
Compares v variables one other old new (Ok ending) = TellsAll v variables one other old new ending
Compares v variables one other old new (Err fault) = TellsSome v variables one other old new

-- why a comparison ends where no function could be made
abbrev pub fault_of_graph : GraphFault → CompareFault
fault_of_graph graph.Full = Full
fault_of_graph graph.NoMemory = Stopped Memory

-- the count of the sink's faults after a comparison
abbrev pub faults_compared : {T : Type 0} → ℕ → Result T CompareFault → ℕ
faults_compared faults (Ok _) = faults
faults_compared faults (Err (Stopped stop)) = written_at faults stop
faults_compared faults (Err Full) = faults

-- the count of its refused memory
abbrev pub RefusedCompared : {T : Type 0} → ℕ → ℕ → Result T CompareFault → Type 0
RefusedCompared before now (Ok _) = now ≡ before
RefusedCompared before now (Err (Stopped stop)) = IsRefusedAt before now stop
RefusedCompared before now (Err Full) = now ≡ before

-- a comparison stops for vertices only if there are as many as there may be
abbrev pub StopsByFull : {T : Type 0} → Symbols → Result T CompareFault → Type 0
StopsByFull symbols (Ok _) = Unit {0}
StopsByFull symbols (Err (Stopped stop)) = Unit {0}
StopsByFull symbols (Err Full) = symbols.graph.most ≤ length symbols.graph.vertices
