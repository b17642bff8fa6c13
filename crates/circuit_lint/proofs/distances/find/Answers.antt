-- One node more.
use Rattle.std.proofs.Common.{◌≡◌, ◌+◌, ◌++◌, ◌∷◌, [], Some}
use Rattle.std.specs.Prelude.{slice_index, slice_set}
use Rattle.circuit_lint.specs.Distances.{distance_at, IsSearched, Keeps, IsFound}
use Rattle.circuit_lint.proofs.SearchLemmas.{all-found}
use Rattle.circuit_lint.proofs.distances.find.Goals.{In_ok-push}
use Rattle.circuit_lint.proofs.distances.find.Goals as goal

-- the node is found one switch farther
found : (c : In_ok-push) →
    IsSearched c.args.graph.now c.args.count (slice_set c.args.search.now.distance.items c.args.node (Some (c.reached-here.result + 1)))
    (c.args.search.now.order.items ++ c.args.node ∷ [])
    × Keeps c.args.search.now.distance.items (slice_set c.args.search.now.distance.items c.args.node (Some (c.reached-here.result + 1)))
    c.args.search.now.order.items (c.args.search.now.order.items ++ c.args.node ∷ [])
    × IsFound (slice_set c.args.search.now.distance.items c.args.node (Some (c.reached-here.result + 1))) c.args.node
found c =
    let s = c.args.search.now in
    let at_here : distance_at s.distance.items (slice_index s.order.items c.args.count) ≡ Some c.reached-here.result =
    rw (c.deref.ensures.value, c.deref-2.ensures.value) at c.reached-here.ensures.is in
    all-found c.args.graph.now c.args.count s.distance.items s.order.items c.args.place c.args.node c.reached-here.result c.requires.inside c.requires.storage
    c.requires.joined c.requires.fresh at_here c.requires.searched

pub returns-clause-searched : goal.returns-clause-searched
returns-clause-searched c = rw (c.in_ok-push.ensures.items, c.put_distance.ensures) (found (goal.at.returns-clause-searched c).In_ok-push).0

pub returns-clause-keeps : goal.returns-clause-keeps
returns-clause-keeps c = rw (c.in_ok-push.ensures.items, c.put_distance.ensures) (found (goal.at.returns-clause-keeps c).In_ok-push).1

pub returns-clause-found : goal.returns-clause-found
returns-clause-found c = rw c.put_distance.ensures (found (goal.at.returns-clause-found c).In_ok-push).2
