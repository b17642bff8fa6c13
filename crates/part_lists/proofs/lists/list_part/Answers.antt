-- The part is listed at one node more.
use Rattle.std.proofs.Common.{◌≡◌, ℕ, ◌<◌, [], ◌∷◌, ◌++◌, Vec, Global, get_or, length, refl, sym, ap, ◌∙◌, arith}
use Rattle.part_lists.proofs.ListLemmas.{Lists-more}
use Rattle.part_lists.proofs.lists.list_part.Goals as goal

pub loop-node-preserved : goal.loop-node-preserved
loop-node-preserved c =
    let nodes = c.args.nodes.now in
    let i = c.loop-node.node-index in
    let inside : get_or nodes i 0 < length c.loop-node.lists = omega (arith, c.requires i 0 c.loop-node-test.true, c.loop-node.auto.lists) in
    let pushed : c.push.new.self.items ≡ c.index-lists-node.result.items ++ c.args.k ∷ [] =
    c.in_ok-push.ensures.items ∙ ap (λ (list : Vec ℕ Global). list.items ++ c.args.k ∷ []) (sym c.index-lists-node.is) in
    Lists-more c.args.k nodes i (get_or nodes i 0) c.args.lists.now c.loop-node.lists c.index-lists-node.result c.push.new.self
    c.loop-node-test.true refl inside c.index-lists-node.is pushed c.loop-node.invariant
