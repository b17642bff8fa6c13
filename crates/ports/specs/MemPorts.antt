-- What contracts see of the ports in memory whose calls can fail.
use Rattle.std.specs.Prelude.{ℕ, Bool, true, false, not, ◌||◌, ◌==◌, List}
use Rattle.std.specs.List.{list_any}
use Rattle.ports.specs.HonestPorts.{Table, HonestFilesData, HonestSinkData, has_name, unread, unwritten}
use Rattle.ternary.specs.Counts.{raised}

-- the numbers of the calls that fail, how many calls there were, and how many of them failed
pub record CallsData : Type 0 where
  pub fails : List ℕ
  pub calls : ℕ
  pub faults : ℕ

-- the number of the next call; calls are numbered from 1, up to the last value that a count has
abbrev pub next_call : CallsData → ℕ
next_call seen = raised seen.calls 1

-- the next call fails by its number
abbrev pub fails_next : CallsData → Bool
fails_next seen = list_any (λ number. number == next_call seen) seen.fails

-- the calls after one more, which failed or not
abbrev pub after_call : Bool → CallsData → CallsData
after_call true seen = record seen { calls = next_call seen; faults = raised seen.faults 1 }
after_call false seen = record seen { calls = next_call seen }

-- no calls so far, and those of these numbers fail
abbrev pub uncalled : List ℕ → CallsData
uncalled fails = record { fails = fails; calls = 0; faults = 0 }

-- files, their calls, and the most bytes that a read gives
pub record MemFilesData : Type 0 where
  pub files : HonestFilesData
  pub calls : CallsData
  pub most : ℕ

-- an entry of the table has this name
abbrev pub is_there : Table → List ℕ → Bool
is_there table name = list_any (has_name name) table

-- the next call fails if it is the start of this name: by its number, or since the name isn't there
abbrev pub start_fails : MemFilesData → List ℕ → Bool
start_fails seen name = fails_next seen.calls || not (is_there seen.files.table name)

-- files of this table, none of them started
abbrev pub uncalled_files : Table → List ℕ → ℕ → MemFilesData
uncalled_files table fails most = record { files = unread table; calls = uncalled fails; most = most }

-- a sink, its calls, and the most bytes that a write takes
pub record MemSinkData : Type 0 where
  pub sink : HonestSinkData
  pub calls : CallsData
  pub most : ℕ

-- a sink to which nothing was written
abbrev pub uncalled_sink : List ℕ → ℕ → MemSinkData
uncalled_sink fails most = record { sink = unwritten; calls = uncalled fails; most = most }
