-- A part that doesn't wait stays out; one that does comes in.
use Rattle.std.proofs.Common.{◌≡◌, ◌<◌, sym, subst, ◌∙◌}
use Rattle.machine_parts.specs.Marking.{IsMarked, MarksAll}
use Rattle.unit_step.proofs.AmongLemmas.{MarksAll-nobody, one_marked}
use Rattle.unit_step.proofs.remarking.put_if_waiting.Goals as goal

pub returns-then-not-does_wait : goal.returns-then-not-does_wait
returns-then-not-does_wait c =
    MarksAll-nobody (λ j. (j ≡ c.args.k) × IsMarked c.args.agenda.now.waiting j) c.args.set.now.inside
    (λ j (same, waits). absurd (cc (c.if-not-does_wait.true, c.does_wait.ensures, same, waits)))

pub insert-requires : goal.insert-requires
insert-requires c = subst (λ n. c.args.k < n) (sym c.requires.counted) c.requires.inside

pub returns : goal.returns
returns c =
    subst (MarksAll (λ j. (j ≡ c.args.k) × IsMarked c.args.agenda.now.waiting j) c.args.set.now.inside) (sym c.insert.ensures.inside)
    (one_marked c.args.k c.args.agenda.now.waiting c.args.set.now.inside (subst (λ n. c.args.k < n) (sym c.requires.counted) c.requires.inside)
    (sym c.does_wait.ensures ∙ c.if-not-does_wait.false))
