-- Both are asked.
use Rattle.std.proofs.Common.{sym, ◌∙◌}
use Rattle.std.specs.Prelude.{Contains}
use Rattle.machine_parts.specs.Marking.{IsMarked}
use Rattle.unit_step.proofs.holding.waits_beside.Goals as goal

pub returns-then-does_wait : goal.returns-then-does_wait
returns-then-does_wait c = (
  (λ is. (sym c.does_wait.ensures ∙ c.if-does_wait.true, c.is_beside.ensures.0 is)),
  (λ (both : IsMarked c.args.agenda.now.waiting c.args.k × (¬ Contains c.args.these.now c.args.k)). c.is_beside.ensures.1 both.1),
)

pub returns : goal.returns
returns c = (
  (λ is. absurd cc),
  (λ (both : IsMarked c.args.agenda.now.waiting c.args.k × (¬ Contains c.args.these.now c.args.k)).
      absurd (cc (c.does_wait.ensures, both.0, c.if-does_wait.false))),
)
