-- Paths depend on the states of the switches alone: under two states of the nodes that give each switch the
-- same state, paths lead, beat,
-- block and reach alike.
use Rattle.std.proofs.Common.{◌≡◌, ℕ, List, [], ◌∷◌, sym}
use Rattle.ternary.specs.declared.tern.Tern.{Tern}
use Rattle.switch_paths.specs.Switching.{switch_state_at}
use Rattle.switch_paths.specs.Graphs.{GraphData}
use Rattle.switch_paths.specs.Path.{Stand, Hop, Leads, at_root, LivePath, IsBeaten, IsBlocked, Reaches}
use Rattle.switch_paths.specs.Laws.{SameSwitches}
use Rattle.switch_paths.proofs.PathLemmas.{IsBeaten-path}

-- it doesn't matter which state comes first
pub SameSwitches-sym : (g : GraphData) (a b : List Tern) → SameSwitches g a b → SameSwitches g b a
SameSwitches-sym g a b same place switch stands = sym (same place switch stands)

-- a hop over a switch that has one state under both is a hop under the other
pub Hop-carried : (g : GraphData) (a b : List Tern) (here there : Stand) (place : ℕ) (hop : Hop g a here place there) →
    switch_state_at a hop.switch ≡ switch_state_at b hop.switch → Hop g b here place there
Hop-carried g a b here there place hop same = record {
  switch = hop.switch;
  at_place = hop.at_place;
  joins = hop.joins;
  live = rw same at hop.live;
  strength = hop.strength;
  definite = rw same at hop.definite;
}

module _ (g : GraphData) (a b : List Tern) (same : SameSwitches g a b) where
  -- a hop under one state is a hop under the other
  Hop-same : (here there : Stand) (place : ℕ) → Hop g a here place there → Hop g b here place there
  Hop-same here there place hop = Hop-carried g a b here there place hop (same place hop.switch hop.at_place)

  -- so hops lead alike
  Leads-same : (hops : List ℕ) (here there : Stand) → Leads g a here hops there → Leads g b here hops there
  Leads-same [] here there leads = leads
  Leads-same (place ∷ hops) here there leads = (
    leads.0,
    Hop-same here leads.0 place leads.1,
    Leads-same hops leads.0 there leads.2,
  )

  -- live paths are the same
  LivePath-same : (root : ℕ) (hops : List ℕ) (there : Stand) → LivePath g a root hops there → LivePath g b root hops there
  LivePath-same root hops there path = record {
    in_range = path.in_range;
    leads =
        Leads-same hops (at_root g root) there path.leads;
  }

  -- what is beaten under one state is beaten under the other
  IsBeaten-same : (node strength : ℕ) → IsBeaten g a node strength → IsBeaten g b node strength
  IsBeaten-same node strength beaten =
      IsBeaten-path beaten.root beaten.hops beaten.there (LivePath-same beaten.root beaten.hops beaten.there beaten.path)
      beaten.ends beaten.definite beaten.strong

  -- and what is blocked is blocked
  IsBlocked-same : (root : ℕ) (hops : List ℕ) → IsBlocked g a root hops → IsBlocked g b root hops
  IsBlocked-same root hops blocked = record {
    front = blocked.front;
    back = blocked.back;
    splits = blocked.splits;
    there = blocked.there;
    prefix = LivePath-same root blocked.front blocked.there blocked.prefix;
    beaten = IsBeaten-same blocked.there.node blocked.there.strength blocked.beaten;
  }

-- a root reaches the same nodes under both states
pub Reaches-same : (g : GraphData) (a b : List Tern) → SameSwitches g a b → (root node : ℕ) → Reaches g a root node →
    Reaches g b root node
Reaches-same g a b same root node reached = record {
  hops = reached.hops;
  there = reached.there;
  path = LivePath-same g a b same root reached.hops reached.there reached.path;
  ends = reached.ends;
  unblocked = λ blocked. reached.unblocked (IsBlocked-same g b a (SameSwitches-sym g a b same) root reached.hops blocked);
}
