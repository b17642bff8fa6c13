-- What a run does to the ports' counts, by its status: a status of 0 to 4 means that no call failed or lacked memory, and that of a fault
-- that exactly one call failed, the last.
use Rattle.std.specs.Prelude.{◌≡◌, ℕ, ◌⊎◌}
use Rattle.ternary.specs.Counts.{raised}
use Rattle.run_ends.specs.declared.status.Status.{Status}
use Rattle.run_ends.specs.declared.status.Status.TheVariants.{ReadFault, WriteFault, NoMemory}

-- the count of the files' faults after a run: one more where reading failed
abbrev pub files_count : ℕ → Status → ℕ
files_count faults ReadFault = raised faults 1
files_count faults status = faults

-- the count of the sink's faults after a run: one more where writing failed
abbrev pub sink_count : ℕ → Status → ℕ
sink_count faults WriteFault = raised faults 1
sink_count faults status = faults

-- the count of the sink's refused memory after a run: as before, or one more where memory was lacking
abbrev pub HasRefused : ℕ → ℕ → Status → Type 0
HasRefused before now NoMemory = (now ≡ before) ⊎ (now ≡ raised before 1)
HasRefused before now status = now ≡ before
