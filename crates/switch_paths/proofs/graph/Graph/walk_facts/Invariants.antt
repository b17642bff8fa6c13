-- What is told of the hops that are left is told of the whole walk.
use Rattle.std.proofs.Common.{drop, Option}
use Rattle.switch_paths.specs.declared.walks.WalkFacts.{WalkFacts}
use Rattle.switch_paths.specs.Path.{at_root}
use Rattle.switch_paths.specs.Walks.{stand_of}
use Rattle.switch_paths.proofs.WalkLemmas.{AreFactsFrom}
use Rattle.switch_paths.proofs.graph.Graph.walk_facts.Given as goal

abbrev pub invariant-loop-place : goal.invariant-loop-place
invariant-loop-place l =
    (answer : Option WalkFacts) → AreFactsFrom l.self l.state (stand_of l.facts) (drop l.place-index l.place-items) answer →
    AreFactsFrom l.self l.state (at_root l.self l.walk.root) l.walk.hops.items answer
