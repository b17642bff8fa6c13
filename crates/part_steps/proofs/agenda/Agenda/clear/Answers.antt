-- One mark less, and at the end those that are left wait.
use Rattle.std.proofs.Common.{false, length, sym, ap, subst, ◌∙◌, arith}
use Rattle.std.proofs.lemmas.List.{length-set}
use Rattle.machine_parts.specs.Marking.{IsMarked}
use Rattle.machine_parts.proofs.MarkLemmas.{count_marked-cleared}
use Rattle.part_steps.proofs.agenda.Agenda.clear.Goals as goal

pub loop-part-smaller : goal.loop-part-smaller
loop-part-smaller c =
    rw c.in-Some.ensures.cleared (omega (arith, count_marked-cleared c.loop-part.self.marks c.in-Some._part c.in-Some.ensures.marked))

pub loop-part-preserved : goal.loop-part-preserved
loop-part-preserved c = record {
  count = ap length c.in-Some.ensures.cleared ∙ (length-set c.loop-part.self.marks c.in-Some._part false ∙ c.loop-part.invariant.count);
  waiting = c.in-Some.ensures.waiting ∙ c.loop-part.invariant.waiting;
}

pub returns-clause-marks : goal.returns-clause-marks
returns-clause-marks c = λ k. (
  λ is.
      subst (λ list. IsMarked list k) c.loop-part.invariant.waiting
      (c.in_default.ensures.rest k (subst (λ list. IsMarked list k) c.in_default.ensures.none is)),
  λ waits.
      c.waiting_parts_are_marked.ensures k
      (subst (λ list. IsMarked list k) (sym (c.in_default.ensures.waiting ∙ c.loop-part.invariant.waiting)) waits),
)

pub returns-clause-count : goal.returns-clause-count
returns-clause-count c = ap length c.in_default.ensures.none ∙ c.loop-part.invariant.count

pub returns-clause-waiting : goal.returns-clause-waiting
returns-clause-waiting c = c.in_default.ensures.waiting ∙ c.loop-part.invariant.waiting
