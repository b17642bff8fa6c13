-- The switch leads to no node, or to one that is found or was, or isn't a storage node.
use Rattle.std.proofs.Common.{◌≡◌, ℕ, List, sym, subst, ap, ◌∙◌}
use Rattle.std.specs.Prelude.{slice_index}
use Rattle.circuit_lint.specs.Conducting.{IsClosedAcross}
use Rattle.switch_paths.specs.Graphs.{IsStorage}
use Rattle.circuit_lint.specs.Distances.{IsFound}
use Rattle.circuit_lint.proofs.ClosedLemmas.{some_same}
use Rattle.circuit_lint.proofs.SearchLemmas.{Keeps-none}
use Rattle.circuit_lint.proofs.distances.look.Goals as goal

pub returns-in_default : goal.returns-in_default
returns-in_default c =
    let s = c.args.search.now in
    let from : c.item-from.result ≡ slice_index s.order.items c.args.count =
    c.item-from.ensures ∙ ap (λ (xs : List ℕ). slice_index xs c.args.count) c.deref.ensures.value in
    record {
      searched = c.requires.searched;
      keeps = Keeps-none s.distance.items s.order.items;
      found = λ node storage joined.
          absurd (c.in_default.not-Some node (c.across.ensures.all node (subst (λ (m : ℕ). IsClosedAcross c.args.graph.now c.args.place m node) (sym from) joined)));
    }

pub returns-else-is_fresh-clause-found : goal.returns-else-is_fresh-clause-found
returns-else-is_fresh-clause-found c n storage joined =
    let s = c.args.search.now in
    let from : c.item-from.result ≡ slice_index s.order.items c.args.count =
    c.item-from.ensures ∙ ap (λ (xs : List ℕ). slice_index xs c.args.count) c.deref.ensures.value in
    let same : c.in-Some.node ≡ n = some_same (c.in-Some.ensures.all n (subst (λ (m : ℕ). IsClosedAcross c.args.graph.now c.args.place m n) (sym from) joined)) in
    let found = c.is_fresh.ensures.found c.if-is_fresh.false (subst (IsStorage c.args.graph.now) (sym same) storage) in
    subst (IsFound s.distance.items) same (rw c.deref-2.ensures.value at found)
