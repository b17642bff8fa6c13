-- Groups that are stepped by vicinities, if they are known, through an edit and a build that leave them as they were.
-- After Bryant, "A Switch-Level Model and Simulator for MOS Digital Systems", 1984.
use Rattle.std.specs.Prelude.{◌≡◌, ℕ, ◌≤◌, ◌⊎◌, min, List, Contains, Option, None, Some}
use Rattle.switch_paths.specs.Graphs.{IsStorage}
use Rattle.vicinity.specs.Wides.{WideData}
use Rattle.vicinity.specs.Growing.{GrowsWide}
use Rattle.wide_groups.specs.Moving.{graph_in, BothIn}

-- they are known in a graph with so many nodes, if they were known
abbrev pub GrowsIn : ℕ → Option WideData → Option WideData → Type 0
GrowsIn count wide later = BothIn (GrowsWide count) wide later

-- the node is a member of one of them
abbrev pub HoldsNode : Option WideData → ℕ → Type 0
HoldsNode wide node = IsStorage (graph_in wide) node

-- one of these nodes is
abbrev pub HoldsAny : Option WideData → List ℕ → Type 0
HoldsAny wide members = (node : ℕ) × Contains members node × HoldsNode wide node

-- they are known as before, and none of these nodes is a member of one of them; or one is, and they aren't known any more
abbrev pub ForgetsWith : List ℕ → Option WideData → Option WideData → Type 0
ForgetsWith members old new = ((new ≡ old) × (¬ HoldsAny old members)) ⊎ ((new ≡ None) × HoldsAny old members)

-- a group without a text is one of them only if it has no more members than this either
abbrev pub lowered : ℕ → Option WideData → Option WideData
lowered large None = None
lowered large (Some wide) = Some (record wide { large = min wide.large large })

-- they are known, and none of them has more members than this
abbrev pub HoldsUpTo : ℕ → Option WideData → Type 0
HoldsUpTo large None = ⊥
HoldsUpTo large (Some wide) = wide.large ≤ large
