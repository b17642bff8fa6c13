-- One part more is marked if it is among these.
use Rattle.std.proofs.Common.{take, get_or, refl, subst, ◌∙◌, arith}
use Rattle.std.specs.Prelude.{Contains}
use Rattle.std.proofs.lemmas.List.{take_all}
use Rattle.std.proofs.lemmas.List.Elements.{Contains-get_or}
use Rattle.machine_parts.specs.Marking.{IsMarked, MarksAll}
use Rattle.unit_step.proofs.AmongLemmas.{MarksAll-nobody, MarksAll-next}
use Rattle.unit_step.proofs.among.mark_among.Goals as goal

pub loop-k-init : goal.loop-k-init
loop-k-init c = record {
  marks = MarksAll-nobody (λ k. Contains (take 0 c.args.parts.now) k × IsMarked c.args.among.now.inside k) c.args.agenda.now.marks
      (λ k (there, is). absurd (omega (arith, there.1)));
  waiting = refl;
}

pub mark_one_among-requires : goal.mark_one_among-requires
mark_one_among-requires c =
    let inside = c.requires.inside _ (Contains-get_or c.args.parts.now c.loop-k.k-index 0 c.loop-k-test.true) in
    record {
      inside = omega (arith, inside, c.loop-k.invariant.marks.count);
      counted = omega (arith, c.requires.counted, c.loop-k.invariant.marks.count);
    }

pub loop-k-preserved : goal.loop-k-preserved
loop-k-preserved c =
    let parts = c.args.parts.now in
    let i = c.loop-k.k-index in
    record {
      marks = MarksAll-next parts i (get_or parts i 0) c.args.among.now.inside c.args.agenda.now.marks c.loop-k.agenda.marks c.mark_one_among.new.agenda.marks
          c.loop-k-test.true refl c.loop-k.invariant.marks c.mark_one_among.ensures.marks;
      waiting = c.mark_one_among.ensures.waiting ∙ c.loop-k.invariant.waiting;
    }

pub returns-clause-marks : goal.returns-clause-marks
returns-clause-marks c =
    subst (λ list. MarksAll (λ k. Contains list k × IsMarked c.args.among.now.inside k) c.args.agenda.now.marks c.loop-k.agenda.marks)
    (take_all c.loop-k.k-index c.args.parts.now (omega (arith, c.loop-k-test.false))) c.loop-k.invariant.marks
