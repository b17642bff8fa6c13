-- The rails of one node more.
use Rattle.std.proofs.Common.{◌≡◌, ℕ, ◌+◌, ◌<◌, List, [], ◌∷◌, ◌++◌, length, map, take, get_or, ap, subst, sym, ◌∙◌, arith}
use Rattle.std.proofs.lemmas.List.{map_more, take_all}
use Rattle.decision_graph.specs.declared.vertex.Function.{Function}
use Rattle.symbol_looking.specs.Letters.{AreRailsAt, rail_of}
use Rattle.symbol_looking.proofs.StageLemmas.{high_inside, low_inside, rail_is, rails_more}
use Rattle.symbol_looking.proofs.letters.rails.Goals as goal

one_more : (now after : List Function) (one : Function) (rails : List Function) (nodes : List ℕ) (k : ℕ) → k < length nodes →
    now ≡ map (rail_of rails) (take k nodes) → after ≡ now ++ one ∷ [] → one ≡ rail_of rails (get_or nodes k 0) → after ≡ map (rail_of rails) (take (k + 1) nodes)
one_more now after one rails nodes k inside so_far pushed is =
    pushed ∙ ap (λ (items : List Function). items ++ one ∷ []) so_far
    ∙ ap (λ (rail : Function). map (rail_of rails) (take k nodes) ++ rail ∷ []) is ∙ sym (map_more (rail_of rails) nodes k 0 inside)

pub rails-requires : goal.rails-requires
rails-requires c = high_inside c.args.stage.now _ (c.requires c.loop-node.node-index 0 c.loop-node-test.true)

pub loop-node-preserved : goal.loop-node-preserved
loop-node-preserved c =
    let stage = c.args.stage.now in
    let nodes = c.args.nodes.now in
    let k = c.loop-node.node-index in
    let before = c.loop-node.invariant in
    let inside = c.requires k 0 c.loop-node-test.true in
    record {
      highs = one_more _ _ c.rails.result.0 stage.machine.hi nodes k c.loop-node-test.true before.highs c.push_reserved.ensures.items
          (rail_is stage.machine.hi (get_or nodes k 0) c.rails.result.0 (high_inside stage (get_or nodes k 0) inside) c.rails.ensures.high);
      lows = one_more _ _ c.rails.result.1 stage.machine.lo nodes k c.loop-node-test.true before.lows c.push_reserved-in-loop-node.ensures.items
          (rail_is stage.machine.lo (get_or nodes k 0) c.rails.result.1 (low_inside stage (get_or nodes k 0) inside) c.rails.ensures.low);
      rails = rails_more stage nodes k c.loop-node-test.true _ _ _ _ c.rails.result.0 c.rails.result.1 c.push_reserved.ensures.items
          c.push_reserved-in-loop-node.ensures.items c.rails.ensures.high_has c.rails.ensures.low_has c.rails.ensures.one c.rails.ensures.zero before.rails;
      high_room = omega (arith, c.push_reserved.ensures.len, c.push_reserved.ensures.capacity, before.high_room);
      low_room = omega (arith, c.push_reserved-in-loop-node.ensures.len, c.push_reserved-in-loop-node.ensures.capacity, before.low_room);
    }

pub returns-clause-highs : goal.returns-clause-highs
returns-clause-highs c =
    c.loop-node.invariant.highs
    ∙ ap (map (rail_of c.args.stage.now.machine.hi)) (take_all c.loop-node.node-index c.args.nodes.now (omega (arith, c.loop-node-test.false)))

pub returns-clause-lows : goal.returns-clause-lows
returns-clause-lows c =
    c.loop-node.invariant.lows
    ∙ ap (map (rail_of c.args.stage.now.machine.lo)) (take_all c.loop-node.node-index c.args.nodes.now (omega (arith, c.loop-node-test.false)))

pub returns-clause-rails : goal.returns-clause-rails
returns-clause-rails c =
    subst (λ (list : List ℕ). AreRailsAt c.args.stage.now list c.loop-node.highs.items c.loop-node.lows.items)
    (take_all c.loop-node.node-index c.args.nodes.now (omega (arith, c.loop-node-test.false))) c.loop-node.invariant.rails
