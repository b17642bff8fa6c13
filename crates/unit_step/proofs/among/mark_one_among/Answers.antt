-- A part that is not among these isn't marked; one that is, is.
use Rattle.std.proofs.Common.{◌≡◌, ◌<◌, sym, subst, ◌∙◌}
use Rattle.machine_parts.specs.Marking.{IsMarked, MarksAll}
use Rattle.unit_step.proofs.AmongLemmas.{MarksAll-nobody, one_marked}
use Rattle.unit_step.proofs.among.mark_one_among.Goals as goal

pub returns-then-not-contains-clause-marks : goal.returns-then-not-contains-clause-marks
returns-then-not-contains-clause-marks c =
    MarksAll-nobody (λ j. (j ≡ c.args.k) × IsMarked c.args.among.now.inside j) c.args.agenda.now.marks
    (λ j (same, is). absurd (cc (c.if-not-contains.true, c.contains.ensures, same, is)))

pub contains-requires : goal.contains-requires
contains-requires c = subst (λ n. c.args.k < n) (sym c.requires.counted) c.requires.inside

pub returns-clause-marks : goal.returns-clause-marks
returns-clause-marks c =
    subst (MarksAll (λ j. (j ≡ c.args.k) × IsMarked c.args.among.now.inside j) c.args.agenda.now.marks) (sym c.mark.ensures.marks)
    (one_marked c.args.k c.args.among.now.inside c.args.agenda.now.marks c.requires.inside (sym c.contains.ensures ∙ c.if-not-contains.false))
