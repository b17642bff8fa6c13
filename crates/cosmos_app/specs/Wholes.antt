-- How much of its files a run reads before it answers: each one to its end, or to the first byte too many.
use Rattle.std.specs.Prelude.{ℕ, List, [], ◌∷◌, ◌++◌, Result, Ok, Err}
use Rattle.netlist.specs.Circuits.{CircuitData}
use Rattle.sim_read.specs.Meaning.{netlist_of}
use Rattle.spice_read.specs.Making.{circuit_of}
use Rattle.ports.specs.Taken.{Taken}
use Rattle.run_ends.specs.declared.status.Status.{Status}
use Rattle.run_ends.specs.declared.status.Status.TheVariants.{ReadFault, WriteFault, NoMemory}
use Rattle.command_line.specs.Requests.{Question, Simulate, Batch, Explain, Judge, Cover, Request, About, Generate, SumUp, OverDeck, Show, Unclear}
use Rattle.circuit_files.specs.Wholes.{ReadsWhole}

-- the files that a question needs beside the netlist or the deck, the last one first
abbrev pub scripts_of : Question → List (List ℕ)
scripts_of (Simulate script) = script ∷ []
scripts_of (Batch columns script) = script ∷ []
scripts_of (Explain script node) = script ∷ []
scripts_of (Judge script list) = list ∷ script ∷ []
scripts_of (Cover script) = script ∷ []
scripts_of _ = []

-- the files that a question about a netlist or a deck of this meaning needs, the last one first: a script only if that has no refusal
abbrev pub needed : {E : Type 0} → Question → List ℕ → Result CircuitData E → List (List ℕ)
needed question net (Ok circuit) = scripts_of question ++ net ∷ []
needed question net (Err refusal) = net ∷ []

-- the files that a request needs, the last one first
abbrev pub files_of : Request → (List ℕ → List ℕ) → List (List ℕ)
files_of (About net question) holds = needed question net (netlist_of (holds net))
files_of (Generate part sample) holds = []
files_of (SumUp sample) holds = []
files_of (OverDeck deck question) holds = needed question deck (circuit_of (holds deck))
files_of (Show text) holds = []
files_of Unclear holds = []

-- if the run isn't stopped by a fault or lack of memory, each file that its request needs was read whole
abbrev pub ReadsAll : Taken → Taken → (List ℕ → List ℕ) → Request → Status → Type 0
ReadsAll old new holds request ReadFault = Unit {0}
ReadsAll old new holds request WriteFault = Unit {0}
ReadsAll old new holds request NoMemory = Unit {0}
ReadsAll old new holds request status = ReadsWhole old new holds (files_of request holds)
