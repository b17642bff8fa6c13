-- The graphs are compared by their levels and then by their places.
use Rattle.std.proofs.Common.{◌≡◌, ◌==◌, true, rules}
use Rattle.std.specs.Cmp.Lexicographic.{pointwise}
use Rattle.std.proofs.lemmas.Bool.Decides.{Decides-at}
use Rattle.switch_paths.specs.Compared.{same_graph, same_graph_decides}
use Rattle.switch_paths.proofs.compared.GraphPartialEq.eq.Goals as goal

pub returns-then-eq-clause-same : goal.returns-then-eq-clause-same
returns-then-eq-clause-same c =
    let a = c.args.self.now in
    let b = c.args.other.now in
    let levels : pointwise ◌==◌ a.levels b.levels ≡ true = search rules in
    let answer : c.eq-then-eq.result ≡ same_graph a b = search rules in
    Decides-at c.eq-then-eq.result (same_graph a b) answer (same_graph_decides a b)
