-- A system of equations whose edges and right sides are formulas.
use Rattle.std.specs.Prelude.{◌≡◌, ℕ, ◌+◌, ◌*◌, Bool, false, List, ◌++◌, length, count_by, replicate, slice_index_or, slice_set}
use Rattle.bool_pool.specs.declared.gate.Gate.{Gate}
use Rattle.bool_pool.specs.declared.gate.Id.{Id}
use Rattle.bool_pool.specs.Value.{value_at}
use Rattle.node_elimination.specs.Growth.{place_of, AreFormulas}

-- a system as contracts see it: how many unknowns there are, the edges row after row, the right sides, and which unknowns
-- are left
pub record SystemData : Type 0 where
  pub size : ℕ
  pub edges : List Id
  pub rights : List Id
  pub left : List Bool

-- there is an edge for each pair of unknowns, and a right side for each unknown
pub record IsSquare (system : SystemData) : Type 0 where
  pub edges : length system.edges ≡ system.size * system.size
  pub rights : length system.rights ≡ system.size
  pub left : length system.left ≡ system.size

-- the edges and the right sides, as one list of formulas
abbrev pub formulas_of : SystemData → List Id
formulas_of system = system.edges ++ system.rights

-- the system is square, and its formulas are formulas of the pool
pub record IsWhole (gates : List Gate) (system : SystemData) : Type 0 where
  pub square : IsSquare system
  pub formulas : AreFormulas gates (formulas_of system)

-- the place of the edge from unknown i to unknown j
unfoldable pub edge_at : SystemData → ℕ → ℕ → ℕ
edge_at system i j = place_of system.edges (i * system.size + j)

-- the place of the right side of unknown i
unfoldable pub right_at : SystemData → ℕ → ℕ
right_at system i = place_of system.rights i

-- the unknown is left
abbrev pub is_left : SystemData → ℕ → Bool
is_left system i = slice_index_or system.left i false

-- how many unknowns are left
abbrev pub left_count : SystemData → ℕ
left_count system = count_by (λ b. b) system.left

-- the system with this edge from i to j; all else stays
unfoldable pub put_edge : SystemData → ℕ → ℕ → Id → SystemData
put_edge system i j id = record system { edges = slice_set system.edges (i * system.size + j) id }

-- the system with this right side of i; all else stays
unfoldable pub put_right : SystemData → ℕ → Id → SystemData
put_right system i id = record system { rights = slice_set system.rights i id }

-- the system in which the unknown k is left, or isn't; all else stays
abbrev pub put_left : SystemData → ℕ → Bool → SystemData
put_left system k b = record system { left = slice_set system.left k b }

-- the system with this formula as each edge and each right side
abbrev pub all_reset : SystemData → Id → SystemData
all_reset system id = record system {
  edges = replicate (length system.edges) id;
  rights = replicate (length system.rights) id;
}

-- the value of the edge from i to j
abbrev pub edge : List Gate → SystemData → (ℕ → Bool) → ℕ → ℕ → Bool
edge gates system vars i j = value_at gates vars (edge_at system i j)

-- the value of the right side of i
abbrev pub right : List Gate → SystemData → (ℕ → Bool) → ℕ → Bool
right gates system vars i = value_at gates vars (right_at system i)
