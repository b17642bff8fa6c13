-- The members of a group are nodes, so they have names; the number in its line is the one that is noted.
use Rattle.std.proofs.Common.{◌≡◌, ap, ◌∙◌}
use Rattle.group_text.proofs.GroupLemmas.{members_inside}
use Rattle.group_report.specs.Report.{line_with}
use Rattle.group_report.specs.Noted.{noted_number}
use Rattle.group_report.proofs.report.make_line.Goals as goal

pub put_line-requires : goal.put_line-requires
put_line-requires c = members_inside c.args.circuit.now.graph c.args.group.now c.requires

pub returns-clause-line : goal.returns-clause-line
returns-clause-line c =
    let group = c.args.group.now in
    let number : c.in_ok-text.text ≡ noted_number c.args.circuit.now.graph c.number_text.new.noted group = rw c.graph.ensures.value at c.in_ok-text.ensures.value in
    c.in_ok-put_line.ensures ∙ ap (λ text. line_with c.args.circuit.now c.args.number text group) number

pub returns-clause-noted : goal.returns-clause-noted
returns-clause-noted c = rw c.graph.ensures.value at c.in_ok-text.ensures.noted
