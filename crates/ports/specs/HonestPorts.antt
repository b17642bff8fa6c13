-- What contracts see of the ports in memory.
use Rattle.std.specs.Prelude.{ℕ, Bool, List, [], Option, None, Some, find, slice_get, string_bytes, bytes_eq, String, Vec}
use Rattle.std.specs.declared.alloc.Global.{Global}

-- the entries of a table of names and bytes
abbrev pub Table : Type 0
Table = List (String Global × Vec ℕ Global)

-- a table, what is left of the started entry, the names started so far, and how much was taken since each start, the last
-- one first
pub record HonestFilesData : Type 0 where
  pub table : Table
  pub rest : List ℕ
  pub started : List (List ℕ)
  pub taken : List ℕ

-- the bytes written so far, and how often memory was refused
pub record HonestSinkData : Type 0 where
  pub written : List ℕ
  pub refusals : ℕ

-- an entry has this name
abbrev pub has_name : List ℕ → (String Global × Vec ℕ Global) → Bool
has_name name entry = bytes_eq (string_bytes entry.0) name

-- the bytes of an entry, and none if there is no entry
abbrev pub bytes_of : Option (String Global × Vec ℕ Global) → List ℕ
bytes_of None = []
bytes_of (Some entry) = entry.1.items

-- what a name holds: the bytes of the first entry of that name, and none if there is no such entry
abbrev pub held : Table → List ℕ → List ℕ
held table name = bytes_of (find (has_name name) table)

-- the bytes of the entry at a place, and none if there is no place
abbrev pub bytes_at : Table → Option ℕ → List ℕ
bytes_at table None = []
bytes_at table (Some place) = bytes_of (slice_get table place)

-- files of this table, none of them started
abbrev pub unread : Table → HonestFilesData
unread table = record { table = table; rest = []; started = []; taken = [] }

-- a sink to which nothing was written
abbrev pub unwritten : HonestSinkData
unwritten = record { written = []; refusals = 0 }
