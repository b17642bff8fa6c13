-- One letter more.
use Rattle.std.proofs.Common.{◌≡◌, ℕ, ◌+◌, ◌<◌, List, [], ◌∷◌, ◌++◌, Option, length, map, take, get_or, ap, sym, ◌∙◌, arith}
use Rattle.std.proofs.lemmas.List.{map_more, take_all}
use Rattle.ternary.specs.declared.tern.Tern.{Tern}
use Rattle.symbol_looking.specs.Letters.{letter_on}
use Rattle.symbol_looking.proofs.letters.letters.Goals as goal

one_more : (now after : List (Option Tern)) (one : Option Tern) (letters : ℕ → Option Tern) (nodes : List ℕ) (k : ℕ) → k < length nodes →
    now ≡ map letters (take k nodes) → after ≡ now ++ one ∷ [] → one ≡ letters (get_or nodes k 0) → after ≡ map letters (take (k + 1) nodes)
one_more now after one letters nodes k inside so_far pushed is =
    pushed ∙ ap (λ (items : List (Option Tern)). items ++ one ∷ []) so_far
    ∙ ap (λ (letter : Option Tern). map letters (take k nodes) ++ letter ∷ []) is ∙ sym (map_more letters nodes k 0 inside)

pub letter-requires : goal.letter-requires
letter-requires c = c.requires c.loop-node.node-index 0 c.loop-node-test.true

pub loop-node-preserved : goal.loop-node-preserved
loop-node-preserved c = record {
  items = one_more c.loop-node.letters.items c.push_reserved.new.self.items c.letter.result (letter_on c.args.stage.now) c.args.nodes.now
      c.loop-node.node-index c.loop-node-test.true c.loop-node.invariant.items c.push_reserved.ensures.items c.letter.ensures;
  room = omega (arith, c.push_reserved.ensures.len, c.push_reserved.ensures.capacity, c.loop-node.invariant.room);
}

pub returns : goal.returns
returns c =
    c.loop-node.invariant.items ∙ ap (map (letter_on c.args.stage.now)) (take_all c.loop-node.node-index c.args.nodes.now (omega (arith, c.loop-node-test.false)))
