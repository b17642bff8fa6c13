-- One part more is marked.
use Rattle.std.proofs.Common.{ℕ, ◌<◌, List, length, get_or, arith, refl, ◌∙◌}
use Rattle.std.specs.Prelude.{Contains}
use Rattle.std.proofs.lemmas.List.Elements.{Contains-get_or}
use Rattle.machine_parts.proofs.MarkLemmas.{MarksAll-more}
use Rattle.part_steps.proofs.agenda.mark_all.Goals as goal

-- the next of these parts is there
next_there : (parts : List ℕ) (i count : ℕ) → i < length parts → ((k : ℕ) → Contains parts k → k < count) → get_or parts i 0 < count
next_there parts i count inside there = there (get_or parts i 0) (Contains-get_or parts i 0 inside)

pub mark-requires : goal.mark-requires
mark-requires c = omega (arith, next_there _ _ _ c.loop-k-test.true c.requires, c.loop-k.invariant.marks.count)

pub loop-k-preserved : goal.loop-k-preserved
loop-k-preserved c = record {
  marks = rw c.mark.ensures.marks
      (MarksAll-more c.args.parts.now c.loop-k.k-index _ c.args.agenda.now.marks c.loop-k.agenda.marks c.loop-k-test.true refl
      (omega (arith, next_there _ _ _ c.loop-k-test.true c.requires, c.loop-k.invariant.marks.count)) c.loop-k.invariant.marks);
  waiting = c.mark.ensures.waiting ∙ c.loop-k.invariant.waiting;
}
