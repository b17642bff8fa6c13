-- What ends a run before its answer is written, by the fault of a port, and what it does to the ports' counts: after a fault no call is made,
-- so each count rises by one at most, where the run stopped by it.
use Rattle.std.specs.Prelude.{◌≡◌, ℕ, ◌⊎◌, Result, Ok, Err}
use Rattle.ternary.specs.Counts.{raised}
use Rattle.ports.specs.declared.ports.PortFault.{PortFault}
use Rattle.ports.specs.declared.ports.PortFault.TheVariants.{Failed, NoMemory}
use Rattle.run_ends.specs.declared.stop.Stop.{Stop}
use Rattle.run_ends.specs.declared.stop.Stop.TheVariants.{Read, Write, Memory}

-- what a fault of reading stops with
abbrev pub read_stop_of : PortFault → Stop
read_stop_of Failed = Read
read_stop_of NoMemory = Memory

-- what a fault of writing stops with
abbrev pub write_stop_of : PortFault → Stop
write_stop_of Failed = Write
write_stop_of NoMemory = Memory

-- the count of the files' faults after a stop: one more where reading failed
abbrev pub read_at : ℕ → Stop → ℕ
read_at faults Read = raised faults 1
read_at faults Write = faults
read_at faults Memory = faults

-- and after a part of a run: as before where it came to its end
abbrev pub faults_read : {T : Type 0} → ℕ → Result T Stop → ℕ
faults_read faults (Ok _) = faults
faults_read faults (Err stop) = read_at faults stop

-- the count of the sink's faults after a stop: one more where writing failed
abbrev pub written_at : ℕ → Stop → ℕ
written_at faults Read = faults
written_at faults Write = raised faults 1
written_at faults Memory = faults

-- and after a part of a run
abbrev pub faults_written : {T : Type 0} → ℕ → Result T Stop → ℕ
faults_written faults (Ok _) = faults
faults_written faults (Err stop) = written_at faults stop

-- the count of the sink's refused memory after a stop: as before, or one more where memory was lacking
abbrev pub IsRefusedAt : ℕ → ℕ → Stop → Type 0
IsRefusedAt before now Read = now ≡ before
IsRefusedAt before now Write = now ≡ before
IsRefusedAt before now Memory = (now ≡ before) ⊎ (now ≡ raised before 1)

-- and after a part of a run
abbrev pub IsRefusedOnce : {T : Type 0} → ℕ → ℕ → Result T Stop → Type 0
IsRefusedOnce before now (Ok _) = now ≡ before
IsRefusedOnce before now (Err stop) = IsRefusedAt before now stop
