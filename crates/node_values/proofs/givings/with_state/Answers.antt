-- Each node has the one letter.
use Rattle.std.proofs.Common.{◌≡◌, ◌∙◌, ◌++◌, ℕ, List, ◌≤◌, sym, ap, append-nil, map, drop, length, arith}
use Rattle.std.specs.Prelude.{Some}
use Rattle.std.proofs.lemmas.List.{drop_all}
use Rattle.vector_values.specs.Values.{Letter}
use Rattle.node_values.proofs.GivingLemmas.{zip_same}
use Rattle.node_values.proofs.givings.with_state.Goals as goal

pub returns-clause-ok : goal.returns-clause-ok
returns-clause-ok c =
    let pair : ℕ → ℕ × Letter = λ node. (node, Some c.args.state) in
    let past : length c.args.nodes.now ≤ c.loop-node.node-index = omega (arith, c.loop-node-test.false) in
    let none = drop_all c.loop-node.node-index c.args.nodes.now past in
    sym (append-nil c.loop-node.pairs.items)
    ∙ ap (λ (left : List ℕ). c.loop-node.pairs.items ++ map pair left) (sym none)
    ∙ c.loop-node.invariant.done
    ∙ sym (zip_same c.args.nodes.now (Some c.args.state))
