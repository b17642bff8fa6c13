-- What is told of a walk over the switches of a graph that may be a live path.
-- After Bryant, "Boolean Analysis of MOS Circuits", 1987.
use Rattle.std.specs.Prelude.{ℕ, List, Option, Some, None}
use Rattle.ternary.specs.declared.tern.Tern.{Tern}
use Rattle.switch_paths.specs.declared.walks.WalkFacts.{WalkFacts}
use Rattle.switch_paths.specs.Graphs.{GraphData}
use Rattle.switch_paths.specs.Path.{Stand, Hop, LivePath}

-- where a path stands by these facts
abbrev pub stand_of : WalkFacts → Stand
stand_of facts = record { node = facts.end; strength = facts.strength; definite = facts.definite }

-- no live path has this root and these hops
abbrev pub IsNoPath : GraphData → List Tern → ℕ → List ℕ → Type 0
IsNoPath g state root hops = (there : Stand) → ¬ LivePath g state root hops there

-- the facts are those of the live path with this root and these hops, or there is no such path
abbrev pub AreFacts : GraphData → List Tern → ℕ → List ℕ → Option WalkFacts → Type 0
AreFacts g state root hops None = IsNoPath g state root hops
AreFacts g state root hops (Some facts) = LivePath g state root hops (stand_of facts)

-- the facts are of where a hop over this place leads from this stand, or it leads nowhere
abbrev pub AreFactsAfter : GraphData → List Tern → Stand → ℕ → Option WalkFacts → Type 0
AreFactsAfter g state here place None = (there : Stand) → ¬ Hop g state here place there
AreFactsAfter g state here place (Some facts) = Hop g state here place (stand_of facts)
