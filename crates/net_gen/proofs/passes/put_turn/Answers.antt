use Rattle.std.proofs.Common.{◌≡◌, ◌+◌, ◌∙◌, ap, arith, append_assoc}
use Rattle.std.proofs.lemmas.Result.{IfOk-equal}
use Rattle.net_gen.specs.Draws.{draw}
use Rattle.net_gen.specs.Passes.{letter_of, passes_turn}
use Rattle.net_gen.proofs.passes.put_turn.Goals as goal

pub returns-clause-text : goal.returns-clause-text
unfolding passes_turn
returns-clause-text c =
    let seed = c.args.draws.now.seed in
    let drawn = c.args.draws.now.drawn in
    let count : c.next.new.self.drawn + 1 ≡ drawn + 2 = omega (arith, c.next.ensures.drawn) in
    let after : c.next-2.new.self.drawn ≡ drawn + 2 = omega (arith, c.next.ensures.drawn, c.next-2.ensures.drawn) in
    let same : c.next-2.new.self.seed ≡ seed = c.next-2.ensures.seed ∙ c.next.ensures.seed in
    let given : c.next-2.result ≡ draw seed (drawn + 2) = rw (count, c.next.ensures.seed) at c.next-2.ensures.value in
    let first : c.letter-data.result.now ≡ letter_of (draw seed (drawn + 1)) =
    c.letter-data.ensures ∙ ap letter_of c.next.ensures.value in
    let second : c.letter-enable.result.now ≡ letter_of (draw seed (drawn + 2)) =
    c.letter-enable.ensures ∙ ap letter_of given in
    IfOk-equal _ _ _ _ c.put-2.ensures
    (rw (c.in_ok-put_controls.ensures.text, c.in_ok-put.ensures, first, second, after, same) (simp append_assoc))
