-- One part more is in if it waits.
use Rattle.std.proofs.Common.{take, get_or, refl, subst, ◌∙◌, arith}
use Rattle.std.specs.Prelude.{Contains}
use Rattle.std.proofs.lemmas.List.{take_all}
use Rattle.machine_parts.specs.Marking.{IsMarked, MarksAll}
use Rattle.unit_step.proofs.AmongLemmas.{MarksAll-nobody, MarksAll-next}
use Rattle.unit_step.proofs.remarking.put_waiting.Goals as goal

pub loop-k-init : goal.loop-k-init
loop-k-init c = record {
  marks = MarksAll-nobody (λ k. Contains (take 0 c.args.parts.now) k × IsMarked c.args.agenda.now.waiting k) c.args.set.now.inside
      (λ k (there, waits). absurd (omega (arith, there.1)));
}

pub put_if_waiting-requires : goal.put_if_waiting-requires
put_if_waiting-requires c = record {
  inside = c.requires.inside c.loop-k.k-index 0 c.loop-k-test.true;
  counted = c.loop-k.invariant.marks.count ∙ c.requires.counted;
}

pub loop-k-preserved : goal.loop-k-preserved
loop-k-preserved c =
    let parts = c.args.parts.now in
    let i = c.loop-k.k-index in
    record {
      marks = MarksAll-next parts i (get_or parts i 0) c.args.agenda.now.waiting c.args.set.now.inside c.loop-k.set.inside c.put_if_waiting.new.set.inside
          c.loop-k-test.true refl c.loop-k.invariant.marks c.put_if_waiting.ensures;
    }

pub returns : goal.returns
returns c =
    subst (λ list. MarksAll (λ k. Contains list k × IsMarked c.args.agenda.now.waiting k) c.args.set.now.inside c.loop-k.set.inside)
    (take_all c.loop-k.k-index c.args.parts.now (omega (arith, c.loop-k-test.false))) c.loop-k.invariant.marks
