-- One part more came.
use Rattle.std.proofs.Common.{◌≡◌, inl, inr, true, [], ◌∷◌, ◌++◌, length, sym, subst, arith}
use Rattle.std.proofs.lemmas.Bool.{cases_lt}
use Rattle.std.proofs.lemmas.List.{length_push}
use Rattle.machine_parts.specs.Marking.{IsMarked}
use Rattle.machine_parts.proofs.MarkLemmas.{marked-last, marked-push}
use Rattle.part_lists.proofs.agenda.add_marked.Goals as goal

pub loop-part-init : goal.loop-part-init
loop-part-init c = record {
  count = omega (arith, c.parts-part.ensures);
  low = omega (arith, c.parts-part.ensures);
  high = omega (arith, c.parts-part.ensures);
  stays = λ k was. was;
  later = λ k from inside. absurd (omega (arith, from, inside));
}

pub loop-part-preserved : goal.loop-part-preserved
loop-part-preserved c =
    let mid = c.loop-part.agenda in
    let so_far = c.loop-part.invariant in
    let more = length_push mid true in
    rw c.in_ok-add.ensures.ok (record {
      count = omega (arith, so_far.count, more);
      low = omega (arith, so_far.low);
      high = omega arith;
      stays = λ k was. marked-push mid k (so_far.stays k was);
      later = λ k from inside.
          elim (cases_lt k (length mid)) [
            | inl before ↦ marked-push mid k (so_far.later k from before)
            | inr past ↦
                let here : k ≡ length mid = omega (arith, past, inside, more) in
                subst (IsMarked (mid ++ true ∷ [])) (sym here) (marked-last mid)
          ];
    })

pub returns : goal.returns
returns c =
    let end = c.loop-part.invariant in
    record {
      count = λ few. omega (arith, few, end.count, end.low, end.high, c.loop-part-test.false);
      stays = end.stays;
      later = end.later;
    }
