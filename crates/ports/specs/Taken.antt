-- How many bytes were taken of each started file, the last one first, if that is told.
use Rattle.std.specs.Prelude.{◌≡◌, ℕ, ◌+◌, ◌≤◌, List, [], ◌∷◌, ◌++◌, Option, option_map, Result, Ok, Err}
use Rattle.ports.specs.declared.ports.PortFault.{PortFault}
use Rattle.ports.specs.declared.ports.PortFault.TheVariants.{Failed, NoMemory}

-- the count of each started file
abbrev pub Taken : Type 0
Taken = Option (List ℕ)

-- so many bytes more of the file that was started last
abbrev pub more_of_last : ℕ → List ℕ → List ℕ
more_of_last more [] = []
more_of_last more (count ∷ counts) = (count + more) ∷ counts

-- the counts after so many bytes more of the file that was started last
abbrev pub with_more : Taken → ℕ → Taken
with_more taken more = option_map (more_of_last more) taken

-- the counts after files that were started since, of which so many bytes were taken, the last one first
abbrev pub with_files : Taken → List ℕ → Taken
with_files taken fresh = option_map (λ counts. fresh ++ counts) taken

-- the counts after a start: one more file of which nothing was taken, unless memory was lacking
abbrev pub opened_after : {T : Type 0} → Taken → Result T PortFault → Taken
opened_after taken (Ok _) = with_files taken (0 ∷ [])
opened_after taken (Err Failed) = with_files taken (0 ∷ [])
opened_after taken (Err NoMemory) = taken

-- the counts after a read: as many bytes more as it gave, and none after a fault
abbrev pub taken_after : Taken → Result ℕ PortFault → Taken
taken_after taken (Ok count) = with_more taken count
taken_after taken (Err fault) = taken

-- at most so many bytes were taken, all of the file that was started last
abbrev pub TakesAtMost : Taken → Taken → ℕ → Type 0
TakesAtMost old new most = (count : ℕ) × (count ≤ most) × (new ≡ with_more old count)

-- no count is above this one
abbrev pub AreAtMost : ℕ → List ℕ → Type 0
AreAtMost most [] = Unit {0}
AreAtMost most (count ∷ counts) = (count ≤ most) × AreAtMost most counts

-- files were started, and at most so many bytes were taken of each of them
abbrev pub TakesFiles : Taken → Taken → ℕ → Type 0
TakesFiles old new most = (fresh : List ℕ) × AreAtMost most fresh × (new ≡ with_files old fresh)
