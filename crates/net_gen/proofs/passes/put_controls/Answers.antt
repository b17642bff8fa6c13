use Rattle.std.proofs.Common.{◌≡◌, ◌+◌, ◌-◌, ◌++◌, ◌∙◌, ap, refl, arith, append_assoc, append-nil}
use Rattle.net_gen.specs.Draws.{draw}
use Rattle.net_gen.specs.Passes.{letter_of, control}
use Rattle.net_gen.proofs.LinesLemmas.{each-zero, each-more}
use Rattle.net_gen.proofs.passes.put_controls.Goals as goal

pub loop-j-init : goal.loop-j-init
loop-j-init c = (each-zero _ 1 _, refl, omega arith)

pub next-requires : goal.next-requires
next-requires c = omega (arith, c.loop-j.invariant.2)

pub loop-j-preserved : goal.loop-j-preserved
unfolding control
loop-j-preserved c =
    let seed = c.args.draws.now.seed in
    let drawn = c.args.draws.now.drawn in
    let count : c.loop-j.draws.drawn + 1 ≡ drawn + c.loop-j.j = omega (arith, c.loop-j.invariant.2) in
    let given : c.next.result ≡ draw seed (drawn + c.loop-j.j) = rw (count, c.loop-j.invariant.1) at c.next.ensures.value in
    let state : c.letter-state.result.now ≡ letter_of (draw seed (drawn + c.loop-j.j)) =
    c.letter-state.ensures ∙ ap letter_of given in
    let written : c.put.new.text.items ≡ c.loop-j.text.items ++ control seed drawn c.loop-j.j =
    rw (c.in_ok-put.ensures, state) (simp (append_assoc, append-nil)) in (
      each-more (control seed drawn) 1 (c.loop-j.j - 1) _ _ _ _ _ c.loop-j.invariant.0 written (omega arith) (omega arith),
      c.next.ensures.seed ∙ c.loop-j.invariant.1,
      omega (arith, c.next.ensures.drawn, c.loop-j.invariant.2),
    )
