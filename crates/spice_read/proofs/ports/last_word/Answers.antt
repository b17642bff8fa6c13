use Rattle.std.proofs.Common.{List, ℕ, arith, option_map, sym, ◌∙◌}
use Rattle.std.specs.Borrow.{Bor}
use Rattle.spice_read.proofs.PortsLemmas.{elsewhere, here}
use Rattle.spice_read.proofs.ports.last_word.Goals as goal
use Rattle.spice_read.proofs.ports.last_word.Goals.{then-eq, else-eq}

pub loop-place-preserved : goal.loop-place-preserved
loop-place-preserved c = elim c.if-eq.branch [
  | then-eq w ↦
      rw w.found-is (here c.args.ports.now c.args.words.now c.loop-place.place c.at.result.now w.at-then-eq.result.now c.args.name.now
      (option_map (λ (word : Bor (List ℕ)). word.now) c.loop-place.found) _ c.requires (omega (arith, c.loop-place-test.true, c.len-place-end.ensures))
      c.at.ensures w.at-then-eq.ensures
      (sym c.eq.ensures ∙ w.if-eq.true) c.loop-place.invariant)
  | else-eq w ↦
      rw w.found-is (elsewhere c.args.ports.now c.args.words.now c.loop-place.place c.at.result.now c.args.name.now
      (option_map (λ (word : Bor (List ℕ)). word.now) c.loop-place.found) _ c.requires (omega (arith, c.loop-place-test.true, c.len-place-end.ensures))
      c.at.ensures (sym c.eq.ensures ∙ w.if-eq.false) c.loop-place.invariant)
]
