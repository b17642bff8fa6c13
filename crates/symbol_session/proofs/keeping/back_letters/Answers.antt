-- The letters of one node more.
use Rattle.std.proofs.Common.{◌≡◌, ℕ, ap, ◌∙◌, arith}
use Rattle.symbol_session.proofs.FoundLemmas.{letters_before, letters_more}
use Rattle.symbol_session.proofs.keeping.back_letters.Goals as goal

pub loop-node-preserved : goal.loop-node-preserved
loop-node-preserved c =
    let found = c.args.found in
    record {
      items = letters_more c.args.kept.now found.place found.nodes c.loop-node.node c.loop-node.pairs.items c.push_letters.new.pairs.items c.letters_at-letters.result
          (omega arith) c.loop-node.invariant.items c.in_ok-push_letters.ensures c.letters_at-letters.ensures;
      few = omega (arith, c.loop-node-test.true);
    }

pub returns : goal.returns
returns c =
    let found = c.args.found in
    let last : c.loop-node.node ≡ found.nodes = omega (arith, c.loop-node-test.false, c.loop-node.invariant.few) in
    c.loop-node.invariant.items ∙ ap (λ (node : ℕ). letters_before c.args.kept.now found.place found.nodes node) last
