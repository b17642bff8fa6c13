-- What a machine keeps that runs beside a good run: each group of the fault's graph rests, is marked, or follows the good run.
use Rattle.std.specs.Prelude.{◌≡◌, ℕ, ◌⊎◌, Bool, true, false, List, Contains}
use Rattle.ternary.specs.declared.tern.Tern.{Tern}
use Rattle.switch_paths.specs.Switching.{state_at}
use Rattle.switch_paths.specs.Graphs.{GraphData, IsWired}
use Rattle.group_meaning.specs.Groups.{Group, IsGroup}
use Rattle.group_rest.specs.Rest.{Rests, ReadsNoChange}
use Rattle.group_rest.specs.Alike.{IsAlike}
use Rattle.run_beside.specs.Agreeing.{Agrees, IsMove}

-- a group follows the good run: it is alike in both graphs, and both runs agree on it
abbrev pub FollowsIn : GraphData → GraphData → List Tern → List Tern → Group → Type 0
FollowsIn g h good bad group = IsAlike g h group × Agrees g group good bad

-- each group of the fault's graph follows, is marked, or rests
abbrev pub IsBeside : GraphData → GraphData → List Tern → List Tern → List Group → Type 0
IsBeside g h good bad marked =
    (group : Group) → IsGroup h group → FollowsIn g h good bad group ⊎ (Contains marked group ⊎ Rests h bad group.members)

-- a group needs no mark after a step: it reads no node that changed, and after a joining step it rested before
abbrev pub NeedsNoMark : Bool → GraphData → List Tern → List Tern → Group → Type 0
NeedsNoMark true h bad bad_next group = Rests h bad group.members × ReadsNoChange h group bad bad_next
NeedsNoMark false h bad bad_next group = ReadsNoChange h group bad bad_next

-- after a step of the fault's run it is beside the good run still, if each group follows afterwards, is marked, or needs no mark
abbrev pub StepsStayBeside : Type 0
StepsStayBeside =
    (joining : Bool) (g h : GraphData) (good_next bad bad_next : List Tern) (marked : List Group) → IsWired h → IsMove joining h bad bad_next →
    ((group : Group) → IsGroup h group →
    FollowsIn g h good_next bad_next group ⊎ (Contains marked group ⊎ NeedsNoMark joining h bad bad_next group)) →
    IsBeside g h good_next bad_next marked

-- the same if nodes are placed, or only the good run moves on while the fault's rests: a group that rested and of which neither members nor
-- read nodes changed rests
abbrev pub PlacingStaysBeside : Type 0
PlacingStaysBeside =
    (g h : GraphData) (good_next bad bad_next : List Tern) (marked : List Group) → IsWired h →
    ((group : Group) → IsGroup h group →
    FollowsIn g h good_next bad_next group ⊎ (Contains marked group ⊎ (Rests h bad group.members
    × ((node : ℕ) → Contains group.members node → state_at bad_next node ≡ state_at bad node) × ReadsNoChange h group bad bad_next))) →
    IsBeside g h good_next bad_next marked
