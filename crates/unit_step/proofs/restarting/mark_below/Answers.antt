-- One part more is marked.
use Rattle.std.proofs.Common.{◌+◌, ◌<◌, length, refl, sym, subst, ◌∙◌, arith}
use Rattle.unit_step.specs.Restarting.{MarksBelow}
use Rattle.unit_step.proofs.RestartingLemmas.{MarksBelow-none, MarksBelow-more}
use Rattle.unit_step.proofs.restarting.mark_below.Goals as goal

pub loop-k-init : goal.loop-k-init
loop-k-init c = record { marks = MarksBelow-none c.args.agenda.now.marks; waiting = refl }

pub mark-requires : goal.mark-requires
mark-requires c = omega (arith, c.loop-k-test.true, c.requires, c.loop-k.invariant.marks.count)

pub loop-k-preserved : goal.loop-k-preserved
loop-k-preserved c =
    let k = c.loop-k.k in
    let inside : k < length c.loop-k.agenda.marks = omega (arith, c.loop-k-test.true, c.requires, c.loop-k.invariant.marks.count) in
    record {
      marks = subst (MarksBelow (k + 1) c.args.agenda.now.marks) (sym c.mark.ensures.marks)
          (MarksBelow-more c.args.agenda.now.marks c.loop-k.agenda.marks k inside c.loop-k.invariant.marks);
      waiting = c.mark.ensures.waiting ∙ c.loop-k.invariant.waiting;
    }

pub returns-clause-marks : goal.returns-clause-marks
returns-clause-marks c =
    let all = c.loop-k.invariant.marks in
    record { count = all.count; stays = all.stays; set = λ k before. all.set k (omega (arith, before, c.loop-k-test.false)) }
