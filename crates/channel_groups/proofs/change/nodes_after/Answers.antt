-- One new node more.
use Rattle.std.proofs.Common.{◌≡◌, ℕ, ◌+◌, ◌-◌, ◌≤◌, List, [], ◌∷◌, ◌++◌, sym, ap, ◌∙◌, append_assoc, append-nil, arith}
use Rattle.std.specs.List.{range_with_len}
use Rattle.std.proofs.lemmas.List.{map-id}
use Rattle.std.proofs.lemmas.List.FromFn.{map-range_with_len_more}
use Rattle.switch_paths.specs.Graphs.{nodes}
use Rattle.channel_groups.specs.Changes.{ends_after, levelled}
use Rattle.channel_groups.proofs.change.nodes_after.Goals as goal

-- one number more is the last
range_more : (low n k : ℕ) → low + n ≡ k → range_with_len low (n + 1) ≡ range_with_len low n ++ k ∷ []
range_more low n k is =
    sym (map-id (range_with_len low (n + 1))) ∙ map-range_with_len_more (λ x. x) low n k is ∙ ap (λ xs. xs ++ k ∷ []) (map-id (range_with_len low n))

-- behind other nodes too
behind_more : (a b : List ℕ) (low k : ℕ) → low ≤ k →
    (a ++ (b ++ range_with_len low (k - low))) ++ k ∷ [] ≡ a ++ (b ++ range_with_len low (k + 1 - low))
behind_more a b low k above =
    let next : k + 1 - low ≡ k - low + 1 = omega arith in
    append_assoc a (b ++ range_with_len low (k - low)) (k ∷ [])
    ∙ ap (λ xs. a ++ xs) (append_assoc b (range_with_len low (k - low)) (k ∷ [])
    ∙ ap (λ xs. b ++ xs) (sym (range_more low (k - low) k (omega arith)) ∙ ap (range_with_len low) (sym next)))

pub loop-node-preserved : goal.loop-node-preserved
loop-node-preserved c =
    rw (c.in_ok-push.ensures.items, c.loop-node.invariant)
    (behind_more (ends_after c.args.graph.now c.args.change.now.place) (levelled c.args.change.now.level) c.args.change.now.nodes c.loop-node.node c.loop-node.auto.node)

pub loop-node-init : goal.loop-node-init
loop-node-init c =
    let none : c.args.change.now.nodes - c.args.change.now.nodes ≡ 0 = omega arith in
    rw (c.in_ok-add_levelled.ensures, c.in_ok-add_ends_after.ensures, c.new-found.ensures.items, none)
    (ap (λ xs. ends_after c.args.graph.now c.args.change.now.place ++ xs) (sym (append-nil (levelled c.args.change.now.level))))

pub returns : goal.returns
returns c =
    let all : c.loop-node.node - c.args.change.now.nodes ≡ nodes c.args.graph.now - c.args.change.now.nodes =
    omega (arith, c.loop-node-test.false, c.loop-node.auto.node, c.loop-node.auto.node-end, c.max-node-end.ensures, c.nodes.ensures) in
    c.loop-node.invariant ∙ ap (λ n. ends_after c.args.graph.now c.args.change.now.place ++ (levelled c.args.change.now.level ++ range_with_len c.args.change.now.nodes n)) all
