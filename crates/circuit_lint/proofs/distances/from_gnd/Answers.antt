-- Gnd alone was found.
use Rattle.std.proofs.Common.{◌≡◌, ℕ, [], ◌∷◌, ◌++◌, Some, Option, List, set, ap, ◌∙◌}
use Rattle.switch_paths.specs.declared.TheConstants.{GND}
use Rattle.switch_paths.specs.Graphs.{nodes}
use Rattle.circuit_lint.proofs.SearchLemmas.{unfound, IsSearched-first}
use Rattle.circuit_lint.proofs.distances.from_gnd.Goals as goal

pub returns : goal.returns
returns c =
    let fresh : c.in_ok-distance.distance.items ≡ unfound (nodes c.args.graph.now) = c.in_ok-distance.ensures ∙ ap unfound c.nodes.ensures in
    let order = c.in_ok-push.ensures.items ∙ ap (λ (xs : List ℕ). xs ++ GND ∷ []) c.new-order.ensures.items in
    rw (c.put_distance.ensures ∙ ap (λ (xs : List (Option ℕ)). set xs GND (Some 0)) fresh)
    (IsSearched-first c.args.graph.now c.requires c.push.new.self.items order)
