-- The table in which texts stand with their codes, and the entries that it stands for.
use Rattle.std.specs.Prelude.{◌≡◌, ◌-◌, ◌^◌, List, [], map, Option, None, Some}
use Rattle.std.specs.Global.{Global}
use Rattle.std.specs.declared.rc.Rc.{Rc}
use Rattle.lru.specs.LruCache.{LruCache}
use Rattle.group_text.specs.Texts.{GroupTextData}
use Rattle.straight_code.specs.Code.{CodeData}
use Rattle.analysis_cache.specs.Keeping.{Entry}

-- code that groups share
abbrev pub Shared : Type 0
Shared = Rc CodeData Global

-- the entries that those of a table stand for
abbrev pub shown : List (GroupTextData × Shared) → List Entry
shown entries = map (λ entry. (entry.0, entry.1.value)) entries

-- the entries of a table, or none before there is one
abbrev pub entries_in : Option (LruCache GroupTextData Shared) → List Entry
entries_in None = []
entries_in (Some codes) = shown codes.entries

-- no text pushes another out
abbrev pub IsRoomy : Option (LruCache GroupTextData Shared) → Type 0
IsRoomy None = Unit {0}
IsRoomy (Some codes) = codes.cap ≡ 2 ^ 64 - 1
