-- One part more is marked.
use Rattle.std.proofs.Common.{arith, refl}
use Rattle.std.proofs.lemmas.List.Elements.{Contains-get_or}
use Rattle.machine_parts.proofs.MarkLemmas.{MarksAll-more}
use Rattle.part_lists.proofs.agenda.mark_all.Goals as goal

pub mark-requires : goal.mark-requires
mark-requires c =
    let inside = c.requires _ (Contains-get_or c.args.parts.now c.loop-k.k-index 0 c.loop-k-test.true) in
    omega (arith, inside, c.loop-k.invariant.count)

pub loop-k-preserved : goal.loop-k-preserved
loop-k-preserved c =
    let inside = c.requires _ (Contains-get_or c.args.parts.now c.loop-k.k-index 0 c.loop-k-test.true) in
    rw c.mark.ensures
    (MarksAll-more c.args.parts.now c.loop-k.k-index _ c.args.agenda.now c.loop-k.agenda c.loop-k-test.true refl
    (omega (arith, inside, c.loop-k.invariant.count)) c.loop-k.invariant)
