-- Unblocked paths joined at a node.
-- Where an unblocked path ends, no definite path is stronger, and the empty path of that node is definite. So
-- it ends at least as strong as the node's own level, and a path from that node goes on from it unblocked, as
-- it does from its root.
use Rattle.std.proofs.Common.{ℕ, ◌<◌, ◌≤◌, inl, inr, List, [], ◌++◌, refl, sym, ◌∙◌}
use Rattle.std.proofs.lemmas.Bool.{cases_lt}
use Rattle.ternary.specs.declared.tern.Tern.{Tern}
use Rattle.switch_paths.specs.Graphs.{GraphData, nodes, level_of}
use Rattle.switch_paths.specs.Path.{at_root, Reaches}
use Rattle.switch_paths.specs.Laws.{ReachesOn, RootsReachThemselves}
use Rattle.switch_paths.proofs.PathLemmas.{
  Goes-here,
  Goes-there,
  Goes-append,
  Goes-raised,
  Goes-from_Reaches,
  Reaches-from_Goes,
  IsBeaten-by_level,
}

-- what reaches a node is at least as strong there as the node's level
pub strong_enough : (g : GraphData) (state : List Tern) (r m : ℕ) (reached : Reaches g state r m) → m < nodes g →
    level_of g m ≤ reached.there.strength
strong_enough g state r m reached in_range =
    let goes = Goes-from_Reaches g state r m reached in
    let unbeaten = Goes-there g state reached.hops (at_root g r) reached.there goes in
    elim (cases_lt reached.there.strength (level_of g m)) [
      | inl below ↦ absurd (unbeaten (rw reached.ends (IsBeaten-by_level g state m reached.there.strength in_range below)))
      | inr enough ↦ enough
    ]

-- what a root reaches, reaches on
pub reach_on : ReachesOn
reach_on g state r m n one two =
    let first = Goes-from_Reaches g state r m one in
    let second = Goes-from_Reaches g state m n two in
    let strong = strong_enough g state r m one two.path.in_range in
    let raised = Goes-raised g state two.hops (at_root g m) one.there two.there second (sym one.ends) strong in
    let joined = Goes-append g state one.hops two.hops (at_root g r) one.there raised.0 first raised.1 in
    Reaches-from_Goes g state r n (one.hops ++ two.hops) raised.0 one.path.in_range joined (raised.2 ∙ two.ends)

-- a root that reaches some node reaches itself, by its empty path
pub roots_reach : RootsReachThemselves
roots_reach g state r n reached =
    let goes = Goes-from_Reaches g state r n reached in
    let unbeaten = Goes-here g state reached.hops (at_root g r) reached.there goes in
    Reaches-from_Goes g state r r [] (at_root g r) reached.path.in_range (unbeaten, refl) refl
