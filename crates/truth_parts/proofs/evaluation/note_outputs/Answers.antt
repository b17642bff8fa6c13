-- What is noted is noted by the front of the outputs.
use Rattle.std.proofs.Common.{◌≡◌, length, take, ap, arith}
use Rattle.std.proofs.lemmas.List.{length-take-le}
use Rattle.std.proofs.lemmas.List.Elements.{All-take}
use Rattle.truth_parts.proofs.evaluation.note_outputs.Goals as goal

pub note_all-requires-clause-ones : goal.note_all-requires-clause-ones
note_all-requires-clause-ones g c = rw c.deref.ensures.value (All-take (g.T.Truths.has c.args.truths.now) c.args.part.now.members _ c.requires.workspace.highs)

pub note_all-requires-clause-others : goal.note_all-requires-clause-others
note_all-requires-clause-others g c = rw c.deref-2.ensures.value (All-take (g.T.Truths.has c.args.truths.now) c.args.part.now.members _ c.requires.workspace.lows)

pub returns-clause-changes : goal.returns-clause-changes
returns-clause-changes g c =
    let members = c.args.part.now.members in
    let ones = c.deref.result.now in
    let count : length (take members ones) ≡ members = length-take-le members ones (omega (arith, c.requires.outs, ap length c.deref.ensures.value)) in
    rw (count, c.deref.ensures.value, c.deref-2.ensures.value, c.deref-3.ensures.value) at c.note_all.ensures.changes
