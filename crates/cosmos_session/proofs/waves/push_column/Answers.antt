use Rattle.std.proofs.Common.{◌≡◌, ℕ, ◌+◌, ◌<◌, List, [], ◌∷◌, ◌++◌, length, map, take, get_or, ap, sym, ◌∙◌, arith, append_assoc}
use Rattle.std.proofs.lemmas.List.{map_more}
use Rattle.ternary.specs.declared.tern.Tern.{Tern}
use Rattle.switch_paths.specs.Switching.{state_at}
use Rattle.cosmos_session.proofs.waves.push_column.Goals as goal

-- one state more is appended
one_more : (before now after : List Tern) (one : Tern) (state : List Tern) (nodes : List ℕ) (k : ℕ) → k < length nodes →
    now ≡ before ++ map (state_at state) (take k nodes) → after ≡ now ++ one ∷ [] → one ≡ state_at state (get_or nodes k 0) →
    after ≡ before ++ map (state_at state) (take (k + 1) nodes)
one_more before now after one state nodes k inside so_far pushed is =
    let front : List Tern = map (state_at state) (take k nodes) in
    let next : front ++ one ∷ [] ≡ map (state_at state) (take (k + 1) nodes) =
    ap (λ (letter : Tern). front ++ letter ∷ []) is ∙ sym (map_more (state_at state) nodes k 0 inside) in
    pushed ∙ ap (λ (items : List Tern). items ++ one ∷ []) so_far ∙ append_assoc before front (one ∷ []) ∙ ap (λ (items : List Tern). before ++ items) next

pub state-requires-clause-node : goal.state-requires-clause-node
state-requires-clause-node g c = c.requires.within c.loop-node.node-index 0 c.loop-node-test.true

pub loop-node-preserved : goal.loop-node-preserved
loop-node-preserved g c =
    let state : List Tern = g.M.Columns.states c.args.stage.now c.args.column in
    record {
      items = one_more c.args.values.now.items c.loop-node.values.items c.push_reserved.new.self.items c.state.result state c.args.nodes.now
          c.loop-node.node-index c.loop-node-test.true c.loop-node.invariant.items c.push_reserved.ensures.items c.state.ensures;
      room = omega (arith, c.push_reserved.ensures.len, c.push_reserved.ensures.capacity, c.loop-node.invariant.room);
      capacity = c.push_reserved.ensures.capacity ∙ c.loop-node.invariant.capacity;
    }
