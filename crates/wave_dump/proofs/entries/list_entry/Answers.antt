-- The entry is listed at one node more.
use Rattle.std.proofs.Common.{◌<◌, ℕ, List, [], ◌∷◌, ◌++◌, ◌∙◌, length, get_or, refl, sym, ap, arith}
use Rattle.wave_dump.proofs.EntryLemmas.{listed-more, listed-all}
use Rattle.wave_dump.proofs.entries.list_entry.Goals as goal

pub loop-node-preserved : goal.loop-node-preserved
loop-node-preserved c =
    let nodes = c.args.nodes.now in
    let i = c.loop-node.node-index in
    let inside : get_or nodes i 0 < length c.args.lists.now = omega (arith, c.requires i 0 c.loop-node-test.true) in
    listed-more nodes i c.args.number c.args.lists.now c.loop-node.lists (get_or nodes i 0) refl inside c.loop-node.invariant
    c.index-lists-node.result c.push.new.self c.index-lists-node.is
    (c.in_ok-push.ensures ∙ ap (λ (list : List ℕ). list ++ c.args.number ∷ []) (sym c.index-lists-node.is))

pub returns : goal.returns
returns c = listed-all c.args.nodes.now c.loop-node.node-index c.args.number c.args.lists.now c.loop-node.lists (omega (arith, c.loop-node-test.false)) c.loop-node.invariant
