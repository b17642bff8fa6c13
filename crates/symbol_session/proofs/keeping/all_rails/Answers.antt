-- The rails of one node more.
use Rattle.std.proofs.Common.{◌≡◌, ℕ, subst, arith}
use Rattle.symbol_session.specs.Keeping.{AreRailsTo}
use Rattle.symbol_session.proofs.KeptLemmas.{rails_more}
use Rattle.symbol_session.proofs.keeping.all_rails.Goals as goal

pub rails-requires : goal.rails-requires
rails-requires c = omega (arith, c.requires.highs, c.loop-node-test.true)

pub loop-node-preserved : goal.loop-node-preserved
loop-node-preserved c =
    let before = c.loop-node.invariant in
    record {
      rails = rails_more c.args.stage.now c.args.nodes c.requires c.loop-node.node c.loop-node-test.true _ _ _ _ c.rails.result.0 c.rails.result.1
          c.push_reserved.ensures.items c.push_reserved-in-loop-node.ensures.items c.rails.ensures.high_has c.rails.ensures.low_has c.rails.ensures.one c.rails.ensures.zero before.rails;
      high_len = omega (arith, c.push_reserved.ensures.len, before.high_len);
      low_len = omega (arith, c.push_reserved-in-loop-node.ensures.len, before.low_len);
      high_room = omega (arith, c.push_reserved.ensures.capacity, before.high_room);
      low_room = omega (arith, c.push_reserved-in-loop-node.ensures.capacity, before.low_room);
    }

pub returns : goal.returns
returns c =
    let last : c.loop-node.node ≡ c.args.nodes = omega (arith, c.loop-node-test.false) in
    subst (λ (n : ℕ). AreRailsTo c.args.stage.now n c.loop-node.highs.items c.loop-node.lows.items) last c.loop-node.invariant.rails
