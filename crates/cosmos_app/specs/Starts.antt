-- Which files a run starts, and in which order.
use Rattle.std.specs.Prelude.{◌≡◌, ℕ, ⊤, ◌⊎◌, List, Option, IfSome, Result, Ok, Err}
use Rattle.ports.specs.Ports.{with_name}
use Rattle.netlist.specs.Circuits.{CircuitData}
use Rattle.sim_read.specs.Meaning.{netlist_of}
use Rattle.spice_read.specs.Making.{circuit_of}
use Rattle.command_line.specs.Requests.{Question, Simulate, Batch, Explain, Judge, Cover, Request, About, Generate, SumUp, OverDeck, Show, Unclear}
use Rattle.circuit_files.specs.Starts.{Started, StartsAtMost}

-- nothing was started, or the file of the first name, or that and then the file of the second
abbrev pub StartsInOrder : Started → Started → List ℕ → List ℕ → Type 0
StartsInOrder old new first second = StartsAtMost old new first ⊎ (new ≡ with_name (with_name old first) second)

-- what a question starts beside the netlist or the deck: one that runs a script starts nothing or the script; one about faults nothing, or its
-- script, or both its script and its list
abbrev pub ScriptStarts : Question → Started → Started → Type 0
ScriptStarts (Simulate script) old new = StartsAtMost old new script
ScriptStarts (Batch columns script) old new = StartsAtMost old new script
ScriptStarts (Explain script node) old new = StartsAtMost old new script
ScriptStarts (Judge script list) old new = StartsInOrder old new script list
ScriptStarts (Cover script) old new = StartsAtMost old new script
ScriptStarts _ old new = new ≡ old

-- the netlist, or the deck, has no refusal
abbrev pub IsAccepted : {E : Type 0} → Result CircuitData E → Type 0
IsAccepted (Ok circuit) = ⊤
IsAccepted (Err fault) = ⊥

-- what a question starts, by what the text of the netlist or the deck means: nothing, or that file; and then what it starts beside it, only
-- if that has no refusal
abbrev pub QuestionStarts : {E : Type 0} → (List ℕ → Result CircuitData E) → List ℕ → Question → Option (List ℕ → List ℕ) → Started → Started → Type 0
QuestionStarts meaning_of net question known old new =
    StartsAtMost old new net
    ⊎ (ScriptStarts question (with_name old net) new × IfSome known (λ holds. IsAccepted (meaning_of (holds net))))

-- what a request starts
abbrev pub RequestStarts : Request → Option (List ℕ → List ℕ) → Started → Started → Type 0
RequestStarts (About net question) known old new = QuestionStarts netlist_of net question known old new
RequestStarts (Generate part sample) known old new = new ≡ old
RequestStarts (SumUp sample) known old new = new ≡ old
RequestStarts (OverDeck deck question) known old new = QuestionStarts circuit_of deck question known old new
RequestStarts (Show text) known old new = new ≡ old
RequestStarts Unclear known old new = new ≡ old
