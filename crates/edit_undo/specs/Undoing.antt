-- Edits that are taken back.
use Rattle.std.specs.Prelude.{◌≡◌, ℕ, ◌<◌, length, Option, Some, None, IfSome}
use Rattle.switch_paths.specs.declared.switching.Switch.{Switch}
use Rattle.switch_paths.specs.Graphs.{GraphData, nodes, level_of, place_at}
use Rattle.channel_groups.specs.declared.change.Change.{Change}

-- the edit made no nodes; the place that it changed is one of the graph's places, and the node one of its nodes
pub record IsInPlace (g : GraphData) (change : Change) : Type 0 where
  pub same_nodes : change.nodes ≡ nodes g
  pub place : IfSome change.place (λ old. old.0 < length g.places)
  pub level : IfSome change.level (λ old. old.0 < nodes g)

-- what stands at the changed place now
abbrev pub place_now : GraphData → Option (ℕ × Option Switch) → Option (ℕ × Option Switch)
place_now g None = None
place_now g (Some old) = Some (old.0, place_at g.places old.0)

-- and the level of the changed node
abbrev pub level_now : GraphData → Option (ℕ × ℕ) → Option (ℕ × ℕ)
level_now g None = None
level_now g (Some old) = Some (old.0, level_of g old.0)
