-- The owner is marked, if it is among these.
use Rattle.std.proofs.Common.{◌≡◌, Some, sym, ap, ◌∙◌}
use Rattle.machine_parts.specs.Marking.{IsMarked}
use Rattle.unit_step.proofs.AmongLemmas.{MarksAll-as}
use Rattle.unit_step.proofs.among.mark_owner_among.Goals as goal

pub returns-in-Some-clause-marks : goal.returns-in-Some-clause-marks
returns-in-Some-clause-marks c =
    let k = c.in-Some.k in
    let among = c.args.among.now.inside in
    MarksAll-as (λ j. (j ≡ k) × IsMarked among j) (λ j. (c.args.owner ≡ Some j) × IsMarked among j) c.args.agenda.now.marks c.mark_one_among.new.agenda.marks
    (λ j (same, is). (c.in-Some.is ∙ ap Some (sym same), is))
    (λ j (own, is). let same : j ≡ k = cc (c.in-Some.is, own) in (same, is)) c.mark_one_among.ensures.marks
