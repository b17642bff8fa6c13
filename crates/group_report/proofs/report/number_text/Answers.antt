-- The number of a group's text is the one that is noted.
use Rattle.group_report.proofs.NumberLemmas.{noted_number-is}
use Rattle.group_report.proofs.report.number_text.Goals as goal

pub returns-in_ok-first_number-in-Ok-clause-value :
    goal.returns-in_ok-first_number-in-Ok-clause-value
returns-in_ok-first_number-in-Ok-clause-value c =
    noted_number-is c.args.graph.now c.first_number.new.noted c.args.group.now c.in-Ok.text c.in_ok-first_number-in-Ok.field-0
    (rw (c.members.ensures, c.switches.ensures) at c.in-Ok.ensures.fits)
    (rw (c.members.ensures, c.switches.ensures) at c.in-Ok.ensures.text)
    c.in_ok-first_number-in-Ok.ensures.value
