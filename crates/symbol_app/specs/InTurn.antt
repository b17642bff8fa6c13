-- Circuits that are read by their names, one after the other, and then a script: which files are started and read; and answers behind a text that says
-- which of them is refused.
use Rattle.std.specs.Prelude.{◌≡◌, ◌⊎◌, ℕ, List, [], ◌∷◌, ◌++◌, Option, IfSome, Result, Ok, Err}
use Rattle.ports.specs.Ports.{with_name}
use Rattle.netlist.specs.Circuits.{CircuitData}
use Rattle.circuit_files.specs.Starts.{Started, StartsAtMost}
use Rattle.run_ends.specs.Answers.{Answer}
use Rattle.cosmos_app.specs.declared.named.CircuitRefusal.{CircuitRefusal}
use Rattle.cosmos_app.specs.Named.{circuit_named}
use Rattle.cosmos_app.specs.Starts.{IsAccepted}

-- ---- answers

-- an answer with this text before its own
abbrev pub answer_behind : List ℕ → Answer → Answer
answer_behind front own = record { status = own.status; text = front ++ own.text; texts = own.texts }

abbrev pub IsBehind : List ℕ → (Answer → Type 0) → Answer → Type 0
IsBehind front IsRight answer = (own : Answer) × IsRight own × (answer ≡ answer_behind front own)

-- ---- files

-- nothing was started, or the first of the circuits' files; or that, which has no refusal, and then so on; the script's comes last
abbrev pub StartsInTurn : List (List ℕ) → List ℕ → Option (List ℕ → List ℕ) → Started → Started → Type 0
StartsInTurn [] script known old new = StartsAtMost old new script
StartsInTurn (net ∷ nets) script known old new =
    StartsAtMost old new net
    ⊎ (IfSome known (λ holds. IsAccepted (circuit_named net (holds net))) × StartsInTurn nets script known (with_name old net) new)

-- the files that are read, the last one first, if the first of them means this and these would come behind it
abbrev pub read_behind : Result CircuitData CircuitRefusal → List ℕ → List (List ℕ) → List (List ℕ)
read_behind (Ok circuit) net later = later ++ net ∷ []
read_behind (Err refusal) net later = net ∷ []

-- the files that are read: those of the circuits up to the first that is refused, and if none is that of the script; the last one first
abbrev pub read_in_turn : List (List ℕ) → List ℕ → (List ℕ → List ℕ) → List (List ℕ)
read_in_turn [] script holds = script ∷ []
read_in_turn (net ∷ nets) script holds = read_behind (circuit_named net (holds net)) net (read_in_turn nets script holds)
