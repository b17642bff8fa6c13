-- What a call on a port may do: to the counts of faults, to the files started, to the bytes that are left
-- and to the bytes written.
use Rattle.std.specs.Prelude.{◌≡◌, ℕ, ◌<◌, List, [], ◌∷◌, ◌++◌, length, take, Option, Some, option_map, Result, Ok, Err, MatchResult, IfSome, ◌⊎◌}
use Rattle.std.specs.Io.KnownBytes.{append_known, prepend_known, IsAtEnd}
use Rattle.ternary.specs.Counts.{raised}
use Rattle.ports.specs.declared.ports.PortFault.{PortFault}
use Rattle.ports.specs.declared.ports.PortFault.TheVariants.{Failed, NoMemory}

-- the count of faults after a fault: one more where the call failed
abbrev pub faults_at : ℕ → PortFault → ℕ
faults_at faults Failed = raised faults 1
faults_at faults NoMemory = faults

-- the count of refused memory after a fault: one more where memory was lacking
abbrev pub refusals_at : ℕ → PortFault → ℕ
refusals_at refusals Failed = refusals
refusals_at refusals NoMemory = raised refusals 1

-- the count of faults after a call: as before where it answered, else as after its fault
abbrev pub faults_after : {T : Type 0} → ℕ → Result T PortFault → ℕ
faults_after faults (Ok _) = faults
faults_after faults (Err fault) = faults_at faults fault

-- the count of refused memory after a call: as before where it answered, else as after its fault
abbrev pub refusals_after : {T : Type 0} → ℕ → Result T PortFault → ℕ
refusals_after refusals (Ok _) = refusals
refusals_after refusals (Err fault) = refusals_at refusals fault

-- the count of a sink's refused memory after a call that takes memory of its own too: as before unless memory
-- was lacking, and then as before or one more
abbrev pub RefusedOnce : {T : Type 0} → ℕ → ℕ → Result T PortFault → Type 0
RefusedOnce before now (Ok _) = now ≡ before
RefusedOnce before now (Err Failed) = now ≡ before
RefusedOnce before now (Err NoMemory) = (now ≡ before) ⊎ (now ≡ raised before 1)

-- the started names, and then this one
abbrev pub with_name : Option (List (List ℕ)) → List ℕ → Option (List (List ℕ))
with_name started name = option_map (λ names. names ++ name ∷ []) started

-- the started names after a start: one more, unless memory was lacking
abbrev pub started_after : {T : Type 0} → Option (List (List ℕ)) → List ℕ → Result T PortFault → Option (List (List ℕ))
started_after started name (Ok _) = with_name started name
started_after started name (Err Failed) = with_name started name
started_after started name (Err NoMemory) = started

-- what is left is all that the name holds, if that is told
abbrev pub Opens : Option (List ℕ → List ℕ) → List ℕ → Option (List ℕ) → Type 0
Opens told name rest = IfSome told (λ holds. rest ≡ Some (holds name))

-- a read took from what is left the bytes that it put at the front of the buffer, none of them only at the end,
-- and after a fault all is left as it was
abbrev pub Reads : {E : Type 0} → Option (List ℕ) → Option (List ℕ) → Result ℕ E → List ℕ → Type 0
Reads old new result buf =
    MatchResult result (λ n. (old ≡ prepend_known (take n buf) new) × (n ≡ 0 → 0 < length buf → IsAtEnd new)) (λ _. new ≡ old)

-- a write appended as many bytes of the piece as it says, and none after a fault
abbrev pub Writes : {E : Type 0} → Option (List ℕ) → Option (List ℕ) → Result ℕ E → List ℕ → Type 0
Writes old new result piece = MatchResult result (λ n. new ≡ append_known old (take n piece)) (λ _. new ≡ old)
